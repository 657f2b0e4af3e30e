-- What the tables tell of the jobs.
-- Assumes nothing.
use Rattle.std.specs.Prelude.{◌≡◌, ℕ}
use Rattle.schedule.specs.Jobs.{Jobs}
use Rattle.schedule.specs.Times.{Earliest}
use Rattle.planner.specs.declared.tighten.tables.Tables.{Tables}
use Rattle.planner.specs.Inner.Tighten.Tables.{Levels, Ranks, Follows}

-- these are the tables of the jobs, with their earliest times
pub record Known (J : Jobs) (early : ℕ → ℕ) (t : Tables) : Type 0 where
  pub size : J.size ≡ t.size
  pub levels : Levels J.size early t.times.now t.late.now
  pub ranks : Ranks J.size early t.times.now t.rank.now
  pub earliest : Earliest J early
  pub follow : Follows J t.followers.now

-- and so of some jobs
abbrev pub SomeKnown : Tables → Type 0
SomeKnown t = (J : Jobs) × (early : ℕ → ℕ) × Known J early t
