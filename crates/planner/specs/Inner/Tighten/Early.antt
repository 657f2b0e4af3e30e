-- Earliest times, job by job.
-- Assumes nothing.
use Rattle.std.specs.Prelude.{List, ◌⊎◌, ◌≡◌, ℕ, ◌+◌, ◌≤◌, ◌<◌, T, All, length, get_or, take}
use Rattle.schedule.specs.Jobs.{Closed, Loopless}
use Rattle.schedule.specs.Times.{Earliest}
use Rattle.sets.specs.Sets.{has}
use Rattle.book.specs.Told.{jobs_in, row_in}

-- job i is to do, and none that precedes it is
pub record Unblocked (i before todo : ℕ) : Type 0 where
  pub member : T (has todo i)
  pub ready : (a : ℕ) → T (has before a) → T (has todo a) → ⊥

-- the least time from start on that is after every job of the set
pub record After (start set : ℕ) (early : List ℕ) (time : ℕ) : Type 0 where
  pub from : start ≤ time
  pub later : (a : ℕ) → T (has set a) → get_or early a 0 + 1 ≤ time
  pub some : (time ≡ start) ⊎ ((a : ℕ) × T (has set a) × (time ≡ get_or early a 0 + 1))

-- rows that may be tightened: at most 64 jobs, starts so early that each earliest time is below 65535, closed under chains, without a loop
pub record Startable (size : ℕ) (start before : List ℕ) : Type 0 where
  pub few : size ≤ 64
  pub long : size ≤ length start
  pub starts : (i : ℕ) → i < size → get_or start i 0 ≤ 65470
  pub closed : Closed (jobs_in size start before)
  pub loopless : Loopless (jobs_in size start before)
  pub inside : (a b : ℕ) → T (has (get_or before b 0) a) → (a < size) × (b < size)

-- the earliest times, and an order of jobs
pub record Begins (size : ℕ) (start before early order : List ℕ) : Type 0 where
  pub earliest : Earliest (jobs_in size start before) (row_in early)
  pub low : (i : ℕ) → i < size → get_or early i 0 < 65535
  pub jobs : All (λ job. job < size) (take size order)
