use mathlib.Core.Path.{◌≡◌}
use Prim.Native.Nat.{◌/◌}
use native.Mathlib.Omega.{arith}
use lib.ListN.{length}
use Rattle.book.specs.Told.{Book, book_in}
use Rattle.plan.specs.Plan.{finish_of, bytes_of}
use Rattle.text.proofs.Putting.{adds_then}
use Rattle.report.proofs.Ends.{long, in_time, job_lines_by}
use Rattle.report.proofs.lines.book.Goals as goal

pub lines-requires : goal.lines-requires
lines-requires c = rw c.laid_out-plan.ensures (in_time c.args.times.now c.args.before.now c.requires)

pub returns : goal.returns
returns c =
    let k : Book = book_in c.args.times.now c.args.before.now in
    let finish : length (bytes_of k) / 2 ≡ finish_of k = omega (arith, long k c.requires) in
    let plan = c.laid_out-plan.ensures in
    let headed = rw (c.job_count.ensures, plan, finish) at c.jobs.ensures in
    let slotted = rw plan at c.slots.ensures in
    let listed = rw (plan, job_lines_by c.args.times.now c.args.before.now c.requires) at c.lines.ensures in
    adds_then (adds_then headed slotted) listed
