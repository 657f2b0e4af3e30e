-- `keying::lined::walk` meets its contract: record by record.
use denote.Param.Always.{always_mut}
use Prim.Native.Nat.{◌-◌}
use lib.ListN.{length}
use Rattle.keying.proofs.Pages.{Passed}
use Rattle.keying.proofs.lined.walk.Given as goal

abbrev pub invariant-loop-told : goal.invariant-loop-told
invariant-loop-told g l = (always_mut g.F.FnMut l.initial.tell → always_mut g.F.FnMut l.tell) × Passed l.file (λ f r h. goal.F-step g f r tt h) l.initial.tell l.at l.tell

abbrev pub decreases-loop-told : goal.decreases-loop-told
decreases-loop-told g l = length l.file - l.at
