use native.Mathlib.Omega.{arith}
use Rattle.text.proofs.Putting.{adds_then}
use Rattle.text.proofs.Each.{filled_next}
use Rattle.text.proofs.Page.fill.Goals as goal

pub loop-byte-preserved : goal.loop-byte-preserved
loop-byte-preserved c =
    let a = c.args in
    rw (filled_next a.values.now a.pattern.now c.loop-byte.byte-index (omega arith)) (adds_then c.loop-byte.invariant c.piece.ensures)
