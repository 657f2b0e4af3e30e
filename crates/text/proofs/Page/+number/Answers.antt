use native.Mathlib.Omega.{arith}
use Rattle.text.specs.Put.{Adds}
use Rattle.text.proofs.Putting.{adds_none, adds_then}
use Rattle.text.proofs.Decimal.{front, front_small, front_large, decimal_last}
use Rattle.text.proofs.Page.+number.Goals as goal
use Rattle.text.proofs.Page.+number.Goals.{then-n-gt9, else-n-gt9}

-- what stands in front of the last digit, and the last
pub returns : goal.returns
returns t c =
    let a = c.args in
    let leading : Adds (front a.n) a.self.now c.if-n-gt9.self =
    elim c.if-n-gt9.branch [
      | then-n-gt9 w ↦ rw (w.self-is, front_large a.n (omega arith)) w.number.ensures
      | else-n-gt9 w ↦ rw (w.self-is, front_small a.n (omega arith)) (adds_none a.self.now)
    ]
    in
    rw (decimal_last a.n) (adds_then leading c.put.ensures)
