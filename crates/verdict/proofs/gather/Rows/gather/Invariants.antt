-- `Rows::gather` meets its contract. The invariant: the rows hold what the records passed give.
use Prim.Native.Nat.{◌-◌}
use lib.ListN.{length}
use Rattle.verdict.proofs.Gathering.{Gathering}
use Rattle.verdict.proofs.gather.Rows.gather.Given as goal

abbrev pub invariant-loop-told : goal.invariant-loop-told
invariant-loop-told l = Gathering l.file l.at l.self

abbrev pub decreases-loop-told : goal.decreases-loop-told
decreases-loop-told l = length l.file - l.at
