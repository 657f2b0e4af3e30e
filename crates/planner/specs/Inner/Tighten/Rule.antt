-- The rule for one job and one d.
-- Assumes nothing.
use Rattle.std.specs.Prelude.{Bool, not, ◌&&◌, ◌||◌, ◌⊎◌, ◌≡◌, ℕ, ◌+◌, ◌≤◌, ◌<◌, eqb, leb, ltb}
use Rattle.schedule.specs.Jobs.{Jobs}
use Rattle.schedule.specs.Times.{N, Within, Full, Breach}
use Rattle.sets.specs.Sets.{has}
use Rattle.planner.specs.declared.tighten.Due.{Due}
use Rattle.planner.specs.declared.tighten.tables.Tables.{Tables}
use Rattle.planner.specs.Inner.Tighten.Known.{Known}
use Rattle.planner.specs.Inner.Tighten.Sink.{Eased}

-- job j is due, and (follows job i or starts late), and is not i (01, Code places: "count_ones of the due set and (followers or late starters), without job i")
abbrev pub pressed : ℕ → ℕ → ℕ → ℕ → ℕ → Bool
pressed due followers late i j = (has due j && (has followers j || has late j)) && not (eqb j i)

-- the jobs of the row that are due by d
abbrev pub DueBy : ℕ → (ℕ → ℕ) → ℕ → ℕ → Type 0
DueBy size row d due = (j : ℕ) → has due j ≡ (ltb j size && leb (row j) d)

-- job i with its time held, among the jobs that are due by d
pub record At (J : Jobs) (early row : ℕ → ℕ) (i held : ℕ) (due : Due) (t : Tables) : Type 0 where
  pub known : Known J early t
  pub job : i < J.size
  pub holds : row i ≡ held
  pub soon : DueBy J.size row due.d due.jobs

-- n is N at some s at which the rule speaks, or 0; and N is no more at any s tried
pub record Pressure (m : ℕ) (J : Jobs) (early row : ℕ → ℕ) (i d n : ℕ) : Type 0 where
  pub some : (n ≡ 0) ⊎ ((s : ℕ) × Within J early row i s d × Full m J early row i s d × (N J early row i s d ≡ n))
  pub own : Full m J early row i (row i) d → N J early row i (row i) d ≤ n
  pub other : (j : ℕ) → j < J.size → early i ≤ early j → early j ≤ row i → Full m J early row i (early j) d → N J early row i (early j) d ≤ n

-- the window of i is open, and no s tried breaks the rule at d
pub record Obeys (m : ℕ) (J : Jobs) (early row : ℕ → ℕ) (i d : ℕ) : Type 0 where
  pub window : early i + 1 ≤ row i
  pub own : Breach m J early row i (row i) d → ⊥
  pub other : (j : ℕ) → j < J.size → Breach m J early row i (early j) d → ⊥

-- what the rule leaves job i at d
pub record Ruled (m : ℕ) (J : Jobs) (early row : ℕ → ℕ) (i d time : ℕ) : Type 0 where
  pub eased : Eased m J early row i time
  pub obeys : time ≡ row i → Obeys m J early row i d
