-- `keying::keyed::walk` meets its contract: what each byte means.
use denote.Param.Always.{always_mut}
use Prim.Native.Nat.{◌+◌, ◌≤◌}
use lib.ListN.{length}
use Rattle.keying.proofs.Walk.{Told}
use Rattle.keying.proofs.keyed.walk.Given as goal

abbrev pub invariant-loop-i : goal.invariant-loop-i
invariant-loop-i g l =
    (l.i ≤ length l.text + 1) × (always_mut g.F.FnMut l.initial.put → always_mut g.F.FnMut l.put) × Told (λ f at r h. goal.F-step g f at r tt h) l.text l.initial.put l.reader l.i l.at l.put
