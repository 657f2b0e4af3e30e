use mathlib.Core.Path.{◌≡◌, ap}
use native.Mathlib.Omega.{arith}
use Prim.Native.Nat.{ℕ, ◌+◌, ◌-◌}
use lib.ListN.{take, drop}
use Rattle.book.specs.Told.{part}
use Rattle.book.proofs.rows.Goals as goal

pub returns : goal.returns
unfolding part
returns c =
    let a = c.args in
    let e : a.from + 64 - a.from ≡ 64 = omega arith in
    ap (λ (n : ℕ). take n (drop a.from a.times.now)) e
