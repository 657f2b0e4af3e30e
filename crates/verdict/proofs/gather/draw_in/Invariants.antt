-- `gather::draw_in` meets its contract. The invariant: no record passed is stray, and the row is drawn in by all of them.
use Prim.Native.Nat.{◌-◌}
use lib.ListN.{length}
use Rattle.verdict.proofs.Drawing.{Drawing}
use Rattle.verdict.proofs.gather.draw_in.Given as goal

abbrev pub invariant-loop-told : goal.invariant-loop-told
invariant-loop-told l = Drawing l.file l.initial.deadlines l.deadlines l.at l.place

abbrev pub decreases-loop-told : goal.decreases-loop-told
decreases-loop-told l = length l.file - l.at
