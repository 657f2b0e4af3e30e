-- What the calls leave is one: a place in four lent numbers, and a lateness in one.
-- Assumes nothing.
use mathlib.Core.Bool.{cond}
use mathlib.Core.List.{List}
use mathlib.Core.Path.{◌≡◌, sym, ap, ap₂, ◌∙◌}
use Prim.Native.Nat.{ℕ}
use lib.Dec.{eqb}
use lib.IntN.{ℤ, pos, negsuc}
use Rattle.book.specs.Told.{Book}
use Rattle.planner.proofs.HowLate.{latens_only}
use Rattle.plan.proofs.Only.{places_only}
use Rattle.firmware.specs.List.{FindsLateness}
use Rattle.firmware.specs.Plans.{FindsPlace}

pub finds_place_only : (k : Book) (job : ℕ) (old new other : List ℕ) (n m : ℕ) → FindsPlace k job old new n → FindsPlace k job old other m → (n ≡ m) × (new ≡ other)
finds_place_only k job old new other n m x y =
    let e = places_only k job n m x.values y.values x.places y.places in
    (e.0, x.lent ∙ ap₂ (λ (number : ℕ) (values : List ℕ). cond (eqb number 0) values old) e.0 e.1 ∙ sym y.lent)

pub finds_lateness_only : (starts deadlines pairs : List ℕ) (old new other : ℤ) (n m a b : ℕ) → FindsLateness starts deadlines pairs old new n a → FindsLateness starts deadlines pairs old other m b →
    (n ≡ m) × (new ≡ other) × (a ≡ b)
finds_lateness_only starts deadlines pairs old new other n m a b x y =
    let e = latens_only starts deadlines pairs n m x.value y.value x.latens y.latens in (
      e.0,
      x.late ∙ ap₂ (λ (number : ℕ) (value : ℤ). cond (eqb number 0) value old) e.0 e.1 ∙ sym y.late,
      ap size (x.answers ∙ ap₂ (λ (number : ℕ) (value : ℤ). cond (eqb number 0) (pos 0) value) e.0 e.1 ∙ sym y.answers),
    )
  where
    size : ℤ → ℕ
    size (pos n) = n
    size (negsuc n) = 0
