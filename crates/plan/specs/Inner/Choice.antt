-- Which job can begin at a slot, by sets: `left` the jobs not placed, `undone` those not in earlier slots.
-- Assumes nothing.
use Rattle.std.specs.Prelude.{Bool, true, not, ◌&&◌, ◌≡◌, ℕ, ◌≤◌, ◌<◌, T, eqb, leb, ltb, get_or, Option, Some, None, IfSome}
use Rattle.std.specs.Int.Bits.{bit_and}
use Rattle.schedule.specs.declared.JobIndex.{JobIndex}
use Rattle.schedule.specs.Make.{choose}
use Rattle.sets.specs.Sets.{has}
use Rattle.book.specs.Told.{Book, latest_of}
use Rattle.plan.specs.declared.choice.Chosen.{Chosen}
use Rattle.plan.specs.Plan.{horizon}

-- a job's start is at most t and no predecessor of it is undone
abbrev pub begins : Book → ℕ → ℕ → ℕ → Bool
begins k undone t i = leb (get_or k.start i 0) t && eqb (bit_and (get_or k.before i 0) undone) 0

-- a job left begins
abbrev pub ready_by : Book → ℕ → ℕ → ℕ → ℕ → Bool
ready_by k left undone t i = has left i && begins k undone t i

-- any that passes but one
abbrev pub others : ℕ → (ℕ → Bool) → ℕ → Bool
others one ok i = ok i && not (eqb i one)

-- only jobs held are left
abbrev pub Held : ℕ → ℕ → Type 0
Held size left = (j : ℕ) → T (has left j) → j < size

-- a job by its number, or another number for none
abbrev pub number_or : ℕ → Option JobIndex → ℕ
number_or none None = none
number_or none (Some job) = job.0

-- a job's key is below another's, as any is below none
abbrev pub sooner : (ℕ → ℕ) → ℕ → Option JobIndex → Bool
sooner key job None = true
sooner key job (Some other) = ltb (key job) (key other.0)

-- of the numbers below n the first that passes, by its key, or none
pub record Picks (size : ℕ) (key : ℕ → ℕ) (ok : ℕ → Bool) (n : ℕ) (c : Option JobIndex) : Type 0 where
  pub chosen : number_or size c ≡ choose size key ok n
  pub below : IfSome c (λ job. job.0 < n)

-- of the jobs left that begin at t the first, and the first of the others
pub record Chooses (k : Book) (left t : ℕ) (r : Chosen) : Type 0 where
  pub best : Picks k.size (latest_of k) (ready_by k left left t) k.size r.best
  pub next : Picks k.size (latest_of k) (others (number_or k.size r.best) (ready_by k left left t)) k.size r.next

-- a slot after t, with no start between the two
pub record Wakes (size : ℕ) (start : ℕ → ℕ) (t next : ℕ) : Type 0 where
  pub later : t < next
  pub within : next ≤ horizon
  pub none : (i : ℕ) → i < size → t < start i → next ≤ start i
