-- The least number of a family, and the invariant of a search for it by halving.
-- Assumes nothing.
use Rattle.std.specs.Prelude.{ℕ, ◌≤◌}

-- n is the least number at which P holds
pub record Lowest (P : ℕ → Type 0) (n : ℕ) : Type 0 where
  pub member : P n
  pub least : (k : ℕ) → P k → n ≤ k

-- P holds at `high`, and nowhere below `low`
pub record Narrowed (P : ℕ → Type 0) (low high : ℕ) : Type 0 where
  pub some : P high
  pub none : (k : ℕ) → P k → low ≤ k
