use mathlib.Core.Path.{◌≡◌, sym, ap, ◌∙◌}
use borrow.Author.Rules.{rules}
use lib.ListN.{length}
use Rattle.book.specs.Told.{cores, book_in}
use Rattle.planner.specs.Memory.{Whether}
use Rattle.planner.specs.Inner.Tighten.{Tightens}
use Rattle.planner.proofs.Pending.{nothing_low, nothing_ready, nothing_tight}
use Rattle.planner.proofs.Whether.{whether_no, whether_as, whether_same}
use Rattle.planner.proofs.IsBook.{latest_long, regular_ready, steady_whether, steady_none}
use Rattle.planner.proofs.memory.steady.Goals as goal

pub copy_from_slice-requires : goal.copy_from_slice-requires
copy_from_slice-requires c =
    let long : length c.latest-latest.result.now ≡ 64 = ap length c.latest-latest.ensures ∙ latest_long _ _ c.told-times c.told-before c.requires in
    search rules

pub invariant_of-posed : goal.invariant_of-posed
invariant_of-posed c =
    let k = book_in c.args.times.now c.args.before.now in
    let size : c.from.result ≡ k.size = search rules in
    record {
      below = nothing_low _ c.none.ensures;
      ready = rw (size, c.starts.ensures) (nothing_ready _ _ _ _ c.none.ensures c.told-before (regular_ready _ _ c.told-times c.told-before c.requires));
    }

pub returns-then-tighten : goal.returns-then-tighten
returns-then-tighten c =
    let k = book_in c.args.times.now c.args.before.now in
    let row : c.copy_from_slice.new.self ≡ k.latest = search rules in
    let size : c.from.result ≡ k.size = search rules in
    let tight : Tightens cores k.size k.start k.before k.latest c.tighten.new.row c.tighten.result = nothing_tight _ _ _ _ _ _ _ _ c.none.ensures c.told-before (rw (size, c.starts.ensures, row) at c.tighten.ensures) in
    let same : Whether (k.latest ≡ c.tighten.new.row) c.eq.result = rw (← c.as_slice.ensures, ← c.latest-latest.ensures) (whether_as sym sym (whether_same _ _ _ c.eq.ensures)) in
    steady_whether _ _ c.told-times c.told-before c.requires _ _ tight c.if-tighten.true same

pub returns-else-tighten : goal.returns-else-tighten
returns-else-tighten c =
    let k = book_in c.args.times.now c.args.before.now in
    let row : c.copy_from_slice.new.self ≡ k.latest = search rules in
    let size : c.from.result ≡ k.size = search rules in
    let tight : Tightens cores k.size k.start k.before k.latest c.tighten.new.row c.tighten.result = nothing_tight _ _ _ _ _ _ _ _ c.none.ensures c.told-before (rw (size, c.starts.ensures, row) at c.tighten.ensures) in
    rw c.if-tighten.false (whether_no (steady_none _ _ c.told-times c.told-before c.requires _ _ tight c.if-tighten.false))
