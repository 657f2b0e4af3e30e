-- A layout in the making, on m cores: after t slots, and whole.
-- Assumes nothing.
use Rattle.std.specs.Prelude.{Bool, cond, ◌&&◌, List, ◌≡◌, ℕ, ◌+◌, ◌≤◌, ◌<◌, T, eqb, leb, ltb, length, get_or}
use Rattle.schedule.specs.Jobs.{Jobs}
use Rattle.sets.specs.Sets.{has}
use Rattle.book.specs.Told.{Book, jobs_of, latest_of}
use Rattle.plan.specs.declared.layout.Layout.{Layout}
use Rattle.plan.specs.declared.layout.Stage.{Stage}
use Rattle.plan.specs.Plan.{horizon, unplaced, slots_by, seat_at, plan_of, finish_of}
use Rattle.plan.specs.Place.{core_of}

-- job i is placed, and on core 1
abbrev pub is_on_core_1 : ℕ → Jobs → (ℕ → ℕ) → (ℕ → ℕ) → ℕ → Bool
is_on_core_1 m J row slot_of i = ltb (slot_of i) unplaced && eqb (seat_at m J row (slot_of i) 1) i

-- the core of a job, by the set of those on core 1
abbrev pub core_in : ℕ → ℕ → ℕ
core_in on_1 job = cond (has on_1 job) 1 0

-- the slots of the jobs placed so far as a row, and the jobs left as a set
pub record Kept (size : ℕ) (slot_of : ℕ → ℕ) (slot : List ℕ) (left : ℕ) : Type 0 where
  pub row : length slot ≡ 64
  pub at : (i : ℕ) → i < size → slot_of i < unplaced → get_or slot i 0 ≡ slot_of i
  pub free : (i : ℕ) → i < size → has left i ≡ leb unplaced (slot_of i)
  pub held : (i : ℕ) → T (has left i) → i < size

-- the layout of the slots before the next
pub record Laid (m : ℕ) (J : Jobs) (row : ℕ → ℕ) (slot : List ℕ) (g : Stage) : Type 0 where
  pub kept : Kept J.size (slots_by m J row g.next.0) slot g.left
  pub on_1 : (i : ℕ) → i < J.size → has g.on_core_1 i ≡ is_on_core_1 m J row (slots_by m J row g.next.0) i

-- one slot more is to be served
pub record Serving (m : ℕ) (k : Book) (slot : List ℕ) (g : Stage) : Type 0 where
  pub few : k.size ≤ 64
  pub early : g.next.0 < horizon
  pub some : g.left ≡ 0 → ⊥
  pub laid : Laid m (jobs_of k) (latest_of k) slot g

-- some job is in no slot before the last of the first t
abbrev pub Late : ℕ → Jobs → (ℕ → ℕ) → ℕ → Type 0
Late m J row t = (i : ℕ) × (i < J.size) × (t ≤ slots_by m J row t i + 1)

-- the slot served, and idle ones after it
pub record Serves (m : ℕ) (k : Book) (g : Stage) (slot : List ℕ) (r : Stage) : Type 0 where
  pub later : g.next.0 < r.next.0
  pub within : r.next.0 ≤ horizon
  pub laid : Laid m (jobs_of k) (latest_of k) slot r
  pub late : Late m (jobs_of k) (latest_of k) r.next.0

-- the layout of a book
pub record Lays (k : Book) (r : Layout) : Type 0 where
  pub at : (i : ℕ) → i < k.size → get_or r.slot i 0 ≡ plan_of k i
  pub core : (i : ℕ) → i < k.size → core_in r.on_core_1 i ≡ core_of k i
  pub ends : r.finish ≡ finish_of k
