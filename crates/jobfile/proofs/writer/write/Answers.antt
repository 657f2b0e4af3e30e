use mathlib.Core.Path.{refl, sym, ◌∙◌}
use Rattle.std.proofs.Common.{rules}
use native.Mathlib.Omega.{arith}
use lib.ListN.{length-take}
use Rattle.book.specs.Told.{book_in}
use Rattle.jobfile.proofs.Bytes.{continues_length}
use Rattle.jobfile.proofs.Length.{file_short}
use Rattle.jobfile.proofs.Writing.{file_both, short_writes, long_writes, pairs_fit, counted, jobs_are, orders_are}
use Rattle.jobfile.proofs.writer.write.Goals as goal

pub pairs-requires : goal.pairs-requires
pairs-requires c = pairs_fit (book_in c.args.times.now c.args.before.now) c.requires _ c.from-size.ensures

pub overflow_add-needed : goal.overflow_add-needed
overflow_add-needed c =
    let k = book_in c.args.times.now c.args.before.now in
    omega (arith, counted k c.requires _ c.from-size.ensures _ c.pairs.ensures, file_short k _ c.requires.1)

pub overflow_mul-needed : goal.overflow_mul-needed
overflow_mul-needed c =
    let k = book_in c.args.times.now c.args.before.now in
    omega (arith, counted k c.requires _ c.from-size.ensures _ c.pairs.ensures, file_short k _ c.requires.1)

pub returns-then-out-needed : goal.returns-then-out-needed
returns-then-out-needed c =
    short_writes _ _ _ (counted (book_in c.args.times.now c.args.before.now) c.requires _ c.from-size.ensures _ c.pairs.ensures) c.if-out-needed.true

pub put_jobs-requires : goal.put_jobs-requires
put_jobs-requires c =
    let k = book_in c.args.times.now c.args.before.now in
    let t = c.requires.1.shaped in
    let n = counted k c.requires _ c.from-size.ensures _ c.pairs.ensures in
    rw (jobs_are k c.requires _ c.from-size.ensures _ _ c.starts.ensures c.latest.ensures, c.starts.ensures, c.latest.ensures) (
      omega (arith, length-take c.from-size.result k.start, length-take c.from-size.result k.latest, t.starts, t.latests),
      omega (arith, file_both k, n, c.if-out-needed.false),
    )

pub put_orders-requires : goal.put_orders-requires
put_orders-requires c =
    let k = book_in c.args.times.now c.args.before.now in
    let n = counted k c.requires _ c.from-size.ensures _ c.pairs.ensures in
    let jobs = rw (jobs_are k c.requires _ c.from-size.ensures _ _ c.starts.ensures c.latest.ensures) at c.put_jobs.ensures in
    rw (orders_are k c.requires _ c.from-size.ensures) (
      omega (arith, length-take c.from-size.result k.before, c.requires.1.shaped.befores),
      omega (arith, n, file_both k, jobs.next, continues_length jobs, c.if-out-needed.false),
    )

pub returns : goal.returns
returns c =
    let k = book_in c.args.times.now c.args.before.now in
    let n = counted k c.requires _ c.from-size.ensures _ c.pairs.ensures in
    let jobs = rw (jobs_are k c.requires _ c.from-size.ensures _ _ c.starts.ensures c.latest.ensures) at c.put_jobs.ensures in
    let orders = rw (orders_are k c.requires _ c.from-size.ensures) at c.put_orders.ensures in
    long_writes _ _ _ n c.if-out-needed.false refl jobs orders (search (rules, sym (orders.lent ∙ jobs.lent)))
