-- `plan::bytes::write` meets its contract. The invariant: the jobs passed are at their seats.
use mathlib.Core.Path.{◌≡◌}
use Rattle.plan.specs.Inner.Bytes.{seated}
use Rattle.plan.proofs.bytes.write.Given as goal

abbrev pub invariant-loop-i : goal.invariant-loop-i
invariant-loop-i l = l.out ≡ seated l.laid.slot l.laid.on_core_1 l.i l.initial.out
