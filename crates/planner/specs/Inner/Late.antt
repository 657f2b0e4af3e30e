-- Deadlines tried at a number, and the least at which they leave a plan.
-- Assumes nothing.
use Rattle.std.specs.Prelude.{Bool, true, false, List, ◌≡◌, ℕ, min, ◌+◌, ◌-◌, ◌≤◌, ◌<◌, length, get_or}
use Rattle.schedule.specs.Plan.{HasPlan}
use Rattle.book.specs.Told.{cores, jobs_in}

-- moved by k - 4,096
abbrev pub moved_by : ℕ → ℕ → ℕ
moved_by deadline k = deadline + k - 4096

-- at most k
abbrev pub capped_at : ℕ → ℕ → ℕ
capped_at deadline k = min deadline k

-- the deadlines tried, in a row of 64; or one of them is not above its job's start
pub record Fills (tried : ℕ → ℕ → ℕ) (starts deadlines : List ℕ) (k : ℕ) (row : List ℕ) (wide : Bool) : Type 0 where
  pub long : length row ≡ 64
  pub tries : wide ≡ true → (i : ℕ) → i < length starts → get_or row i 0 ≡ tried (get_or deadlines i 0) k
  pub shut : wide ≡ false → (i : ℕ) × (i < length starts) × (tried (get_or deadlines i 0) k ≤ get_or starts i 0)

-- some plan meets the deadlines tried at k
abbrev pub Leaves : (ℕ → ℕ → ℕ) → List ℕ → List ℕ → List ℕ → ℕ → Type 0
Leaves tried starts deadlines before k = HasPlan cores (jobs_in (length starts) starts before) (λ i. tried (get_or deadlines i 0) k)
