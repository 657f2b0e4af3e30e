-- A set of jobs as a number of 64 bits, and what the calls make of it.
-- Assumes nothing.
use Rattle.std.specs.Prelude.{◌≡◌, ℕ, ◌/◌, ◌%◌, ◌^◌, ◌<◌, Bool, false, not, ◌&&◌, ◌||◌, T, ◌==◌, nat_lt}

-- job j is in the set where digit j is one (01, Tightened deadlines: "A set of jobs is 64 bits")
unfoldable pub has : ℕ → ℕ → Bool
has set j = (set / 2 ^ j % 2) == 1

-- r is the set with one job more, if it is one of the 64 (01, Numbers and limits: "At most 64 jobs")
abbrev pub With : ℕ → ℕ → ℕ → Type 0
With set job r = (j : ℕ) → has r j ≡ (has set j || (j == job && nat_lt j 64))

-- r is the set without a job (01, Code places: "without job i")
abbrev pub Without : ℕ → ℕ → ℕ → Type 0
Without set job r = (j : ℕ) → has r j ≡ (has set j && not (j == job))

-- r is the set of the jobs below n, of the 64 (01, Numbers and limits: "At most 64 jobs, numbered 0, 1, 2..")
abbrev pub Below : ℕ → ℕ → Type 0
Below n r = (j : ℕ) → has r j ≡ (nat_lt j n && nat_lt j 64)

-- job is the first of the set, and 64 where the set is empty (01, The plan made: "lower number")
pub record First (set job : ℕ) : Type 0 where
  pub lowest : (j : ℕ) → j < job → has set j ≡ false
  pub met : (set ≡ 0 → ⊥) → (job < 64) × T (has set job)
  pub none : set ≡ 0 → job ≡ 64

-- r is the set without its first job (01, The plan made: "lower number")
abbrev pub Rest : ℕ → ℕ → Type 0
Rest set r = (first : ℕ) → First set first → Without set first r
