-- Each job's end, from one walk over the bytes of a plan.
-- Assumes nothing.
use Rattle.std.specs.Prelude.{List, ◌≡◌, ℕ, zero, suc, ◌+◌, ◌-◌, ◌*◌, ◌/◌, ◌≤◌, ◌<◌, length, get_or, set, replicate}
use Rattle.book.specs.Told.{cores, part}
use Rattle.plan.specs.Plan.{horizon}
use Rattle.report.specs.Line.{job_line}

-- the row once the first n bytes are passed: the entry of a byte is the end of the slot it stands in, and an idle core has one that nobody reads
unfoldable pub passed : List ℕ → ℕ → List ℕ → List ℕ
passed plan zero row = row
passed plan (suc n) row = set (passed plan n row) (get_or plan n 0) (n / cores + 1)

-- an entry for every byte
abbrev pub ends_in : List ℕ → List ℕ
ends_in plan = passed plan (length plan) (replicate 256 0)

-- the line of a job by its rows: starts and latest times, and ends
abbrev pub row_text : List ℕ → List ℕ → ℕ → List ℕ
row_text times ends job =
    job_line job (get_or (part 1 times) job 0) (get_or (part 65 times) job 0) (get_or ends job 0) (get_or (part 65 times) job 0 - get_or ends job 0)

-- a job of the rows that does not end after its latest time
pub record Timed (times ends : List ℕ) (job : ℕ) : Type 0 where
  pub few : job < 64
  pub starts : length (part 1 times) ≡ 64
  pub latests : length (part 65 times) ≡ 64
  pub in_time : get_or ends job 0 ≤ get_or (part 65 times) job 0

-- a plan of the jobs of the rows, each in time
pub record InTime (times plan : List ℕ) : Type 0 where
  pub short : length plan ≤ cores * horizon
  pub timed : (job : ℕ) → job < get_or times 0 0 → Timed times (ends_in plan) job
