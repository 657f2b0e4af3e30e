-- A row of deadlines tightened to the latest times beneath it, pass by pass.
-- Assumes nothing.
use Rattle.std.specs.Prelude.{Bool, true, false, ◌&&◌, List, Option, Some, None, ◌≡◌, ℕ, ◌≤◌, ◌<◌, T, ltb, length, get_or}
use Rattle.schedule.specs.Jobs.{Jobs}
use Rattle.schedule.specs.Plan.{HasPlan}
use Rattle.schedule.specs.Times.{Earliest, Latest}
use Rattle.planner.specs.declared.tighten.Due.{Due}
use Rattle.sets.specs.Sets.{has}
use Rattle.book.specs.Told.{jobs_in, row_in}
use Rattle.planner.specs.Inner.Tighten.Sink.{Sunk}
use Rattle.planner.specs.Inner.Tighten.Rule.{Obeys}
-- what is asked, the tables of the rule, earliest times, followers, the rule itself
pub mod Posed
pub mod Tables
pub mod Known
pub mod Early
pub mod Sink
pub mod Rule

-- the latest times beneath the row, and the entries beyond the jobs as they were; or that no plan meets the row
pub record Tightens (m size : ℕ) (start before row next : List ℕ) (fits : Bool) : Type 0 where
  pub length : length next ≡ 64
  pub latest : fits ≡ true → (early : ℕ → ℕ) → Earliest (jobs_in size start before) early → Latest m (jobs_in size start before) early (row_in row) (row_in next)
  pub rest : fits ≡ true → (i : ℕ) → size ≤ i → get_or next i 0 ≡ get_or row i 0
  pub none : fits ≡ false → HasPlan m (jobs_in size start before) (row_in row) → ⊥

-- the jobs of a set whose time is below a limit, and the greatest such time
pub record DueAmong (limit among : ℕ) (row : List ℕ) (r : Due) : Type 0 where
  pub jobs : (j : ℕ) → has r.jobs j ≡ (has among j && ltb (get_or row j 0) limit)
  pub top : (j : ℕ) → T (has r.jobs j) → get_or row j 0 ≤ r.d
  pub below : r.d < limit

-- or no job of the set is below the limit
abbrev pub NoneAmong : ℕ → ℕ → List ℕ → Type 0
NoneAmong limit among row = (j : ℕ) → T (has among j) → limit ≤ get_or row j 0

-- every job that is due obeys the rule at d
abbrev pub AtD : ℕ → Jobs → (ℕ → ℕ) → (ℕ → ℕ) → ℕ → Type 0
AtD m J early row d = (i : ℕ) → i < J.size → row i ≤ d → Obeys m J early row i d

-- and so at every d of the row
abbrev pub Swept : ℕ → Jobs → (ℕ → ℕ) → (ℕ → ℕ) → Type 0
Swept m J early row = (k : ℕ) → k < J.size → AtD m J early row (row k)

-- lower somewhere
abbrev pub Fell : Jobs → List ℕ → List ℕ → Type 0
Fell J row next = (k : ℕ) × (k < J.size) × (get_or next k 0 < get_or row k 0)

-- which jobs moved: where none did the row is as it was, and more is known of it; or no plan meets the row
abbrev pub Moves : ℕ → Jobs → (ℕ → ℕ) → List ℕ → List ℕ → Type 0 → Option ℕ → Type 0
Moves m J early row next still (Some moved) =
    Sunk m J early row next
    × (moved ≡ 0 → (next ≡ row) × still)
    × ((moved ≡ 0 → ⊥) → Fell J row next)
Moves m J early row next still None = HasPlan m J (row_in row) → ⊥

-- the greatest consistent row beneath, or none
pub record Settles (m : ℕ) (J : Jobs) (early : ℕ → ℕ) (row next : List ℕ) (fits : Bool) : Type 0 where
  pub sunk : fits ≡ true → Sunk m J early row next
  pub swept : fits ≡ true → Swept m J early (row_in next)
  pub none : fits ≡ false → HasPlan m J (row_in row) → ⊥
