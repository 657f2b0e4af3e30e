-- The sum of a row.
-- Assumes nothing.
use Rattle.std.specs.Prelude.{ℕ, zero, suc, ◌+◌}

-- the first n entries together
unfoldable pub sum : ℕ → (ℕ → ℕ) → ℕ
sum zero row = 0
sum (suc n) row = row n + sum n row
