-- What the engine is asked about.
-- Assumes nothing.
use Rattle.std.specs.Prelude.{List, ℕ, ◌<◌, All, take}
use Rattle.schedule.specs.Times.{Earliest}
use Rattle.book.specs.Told.{jobs_in}
use Rattle.planner.specs.declared.tighten.posed.Posed.{Posed}
use Rattle.planner.specs.declared.tighten.tables.Starts.{Starts}
use Rattle.planner.specs.Inner.Chains.{joined_rows}
use Rattle.planner.specs.Inner.Tighten.Tables.{Levels, Ranks}

-- the rows with the order taken in
abbrev pub rows_of : Posed → List ℕ
rows_of p = joined_rows p.before.now p.pending

-- the tables of earliest times, and an order of jobs
pub record Begun (p : Posed) (order : List ℕ) (starts : Starts) (rank : List ℕ) : Type 0 where
  pub early : ℕ → ℕ
  pub earliest : Earliest (jobs_in p.size p.start.now (rows_of p)) early
  pub levels : Levels p.size early starts.times starts.late
  pub ranks : Ranks p.size early starts.times rank
  pub jobs : All (λ job. job < p.size) (take p.size order)
