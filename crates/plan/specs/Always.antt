-- A book always has a plan (01, The plan made).
-- Assumes nothing.
use Rattle.std.specs.Prelude.{List, ◌≡◌, ℕ, ◌*◌, ◌≤◌, length}
use Rattle.schedule.specs.Plan.{Valid, Meets}
use Rattle.book.specs.Told.{Book, Made, jobs_of, latest_of, cores}
use Rattle.plan.specs.Plan.{horizon, plan_of, finish_of, Plans}

-- of every book: the plan is valid, meets the latest times and ends by the horizon, and with bytes lent for that many slots it is never refused (01, The plan made: "A book always has a plan")
pub record AlwaysPlanned : Type 0 where
  pub valid : (k : Book) → Made k → Valid cores (jobs_of k) (plan_of k)
  pub in_time : (k : Book) → Made k → Meets (jobs_of k) (latest_of k) (plan_of k)
  pub ends : (k : Book) → Made k → finish_of k ≤ horizon
  pub granted : (k : Book) → Made k → (old new : List ℕ) (number value : ℕ) → cores * horizon ≤ length old → Plans k old new number value → number ≡ 0
