-- The invariant of a tightening loop.
-- Assumes nothing.
use Rattle.std.specs.Prelude.{ℕ}
use Rattle.schedule.specs.Jobs.{Jobs}
use Rattle.schedule.specs.Plan.{Valid, Meets}
use Rattle.schedule.specs.Times.{Consistent, Beneath}

-- a row on the way down from the deadlines: no plan and no consistent row is lost
pub record Bound (m : ℕ) (J : Jobs) (early due row : ℕ → ℕ) : Type 0 where
  pub beneath : Beneath J row due
  pub plans : (slot : ℕ → ℕ) → Valid m J slot → Meets J due slot → Meets J row slot
  pub rows : (low : ℕ → ℕ) → Consistent m J early low → Beneath J low due → Beneath J low row
