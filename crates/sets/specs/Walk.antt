-- The jobs of a set, one after the other.
-- Assumes nothing.
use Rattle.std.specs.Prelude.{◌≡◌, ℕ, ◌<◌, T, Option, Some, None}
use Rattle.schedule.specs.declared.JobIndex.{JobIndex}
use Rattle.sets.specs.Sets.{has, First, Without}

-- the first job of the set, and the set without it; nothing of the empty set (01, The plan made: "lower number")
abbrev pub Walks : ℕ → Option JobIndex → ℕ → Type 0
Walks set None left = (set ≡ 0) × (left ≡ 0)
Walks set (Some job) left = record { first : First set job.0; few : job.0 < 64; member : T (has set job.0); left : Without set job.0 left }
