-- The least number of a family, found by halving where the family goes on holding once it holds; so do rows that rise, of which a plan meets one.
-- Assumes nothing.
use mathlib.Core.Logic.{◌↔◌}
use mathlib.Core.Path.{◌≡◌}
use Prim.Native.Nat.{ℕ, ◌+◌, ◌≤◌}
use native.Mathlib.Nat.{le_trans, le_antisymm}
use native.Mathlib.Omega.{arith}
use Rattle.schedule.specs.Jobs.{Jobs}
use Rattle.schedule.specs.Plan.{HasPlan}
use Rattle.schedule.specs.Theory.Lowest.{Lowest, Narrowed}
use Rattle.schedule.proofs.Tests.{le_by}

-- it is one number
pub lowest_one : (P : ℕ → Type 0) (n k : ℕ) → Lowest P n → Lowest P k → n ≡ k
lowest_one P n k a b = le_antisymm (a.least k b.member) (b.least n a.member)

-- families that hold together have one least number
pub lowest_along : (P Q : ℕ → Type 0) → ((k : ℕ) → P k ↔ Q k) → (n : ℕ) → Lowest P n → Lowest Q n
lowest_along P Q f n a = record { member = (f n).0 a.member; least = λ k x. a.least k ((f k).1 x) }

module _ (P : ℕ → Type 0) where
  -- it holds at mid
  pub narrow_down : (low high mid : ℕ) → Narrowed P low high → P mid → Narrowed P low mid
  narrow_down low high mid a x = record { some = x; none = a.none }

  -- nothing is left between: the least
  pub narrow_end : (low high : ℕ) → Narrowed P low high → high ≤ low → Lowest P high
  narrow_end low high a h = record { member = a.some; least = λ k x. omega (arith, a.none k x) }

  -- a family that goes on holding once it holds does not hold at mid, and so nowhere up to mid
  pub narrow_up : ((j k : ℕ) → j ≤ k → P j → P k) → (low high mid : ℕ) → Narrowed P low high → (P mid → ⊥) → Narrowed P (mid + 1) high
  narrow_up stays low high mid a f = record { some = a.some; none = λ k x. le_by (mid + 1) k (λ l. f (stays k mid (omega arith) x)) }

-- a plan that meets one row meets every later one
pub rising_stays : (m : ℕ) (J : Jobs) (rows : ℕ → ℕ → ℕ) → ((j k i : ℕ) → j ≤ k → rows j i ≤ rows k i) → (j k : ℕ) → j ≤ k → HasPlan m J (rows j) → HasPlan m J (rows k)
rising_stays m J rows rising j k h p = (p.0, p.1, record { ends = λ i l. le_trans (p.2.ends i l) (rising j k i h) })
