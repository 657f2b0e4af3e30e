-- Each job one below its least follower: the row sinks, and no plan and no consistent row is lost.
-- Assumes nothing.
use Rattle.std.specs.Prelude.{Bool, true, false, List, ◌≡◌, ℕ, ◌≤◌, get_or}
use Rattle.schedule.specs.Jobs.{Jobs}
use Rattle.schedule.specs.Row.{put}
use Rattle.schedule.specs.Plan.{HasPlan}
use Rattle.schedule.specs.Theory.Bound.{Bound}
use Rattle.book.specs.Told.{row_in}

-- a time for job i that loses nothing; 0 is no time
pub record Eased (m : ℕ) (J : Jobs) (early row : ℕ → ℕ) (i time : ℕ) : Type 0 where
  pub below : time ≤ row i
  pub bound : Bound m J early row (put row i time)

-- a row that loses nothing
pub record Sunk (m : ℕ) (J : Jobs) (early : ℕ → ℕ) (row next : List ℕ) : Type 0 where
  pub rest : (i : ℕ) → J.size ≤ i → get_or next i 0 ≡ get_or row i 0
  pub bound : Bound m J early (row_in row) (row_in next)

-- lowered or shut
pub record Fits (m : ℕ) (J : Jobs) (early : ℕ → ℕ) (row next : List ℕ) (fits : Bool) : Type 0 where
  pub sunk : fits ≡ true → Sunk m J early row next
  pub none : fits ≡ false → HasPlan m J (row_in row) → ⊥
