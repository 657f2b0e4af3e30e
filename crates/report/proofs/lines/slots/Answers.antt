use mathlib.Core.Path.{◌≡◌}
use Rattle.std.specs.Iterator.Adapters.{enumerate_count}
use borrow.Author.Rules.{rules}
use Rattle.text.proofs.Each.{each_none, each_next}
use Rattle.planner.proofs.Pairs.{Met, pair_met}
use Rattle.report.proofs.lines.slots.Goals as goal

pub loop-slot-init : goal.loop-slot-init
loop-slot-init c =
    let none : enumerate_count c.into_iter-slot-iterator.result ≡ 0 = search rules in
    (record { two = search rules; rest = search rules; few = search rules }, rw none (each_none _ _))

pub loop-slot-preserved : goal.loop-slot-preserved
loop-slot-preserved c =
    let m : Met c.args.plan.now c.loop-slot.slot-iterator c.next.new.self c.in-Some.slot c.in-Some.pair.now = pair_met _ _ _ _ c.in-Some.pair c.loop-slot.invariant.0 (search rules) in
    (m.onward, rw m.counts (each_next _ c.loop-slot.invariant.1 (rw (m.first, m.second, m.place) at c.slot.ensures)))
