-- The customer's three demands, of what the public calls promise: apply (`Applies`), judge (`Judges`), lateness (`Latens`), shortest (`Shortens`), plan (`Plans`), place (`Places`), read (`ReadsRecord`) and write (`WritesBook`).
-- A promise gives the number of an answer, 0 where it is accepted, and its value. That a call ends is what a proved function means.
-- Assumes nothing.
use Rattle.std.specs.Prelude.{List, ◌++◌, ◌↔◌, ◌⊎◌, ◌≡◌, ℕ, ◌+◌, ◌*◌, ◌≤◌, ◌<◌, ℤ, length, get_or, drop}
use Rattle.schedule.specs.Jobs.{Jobs}
use Rattle.schedule.specs.Plan.{Valid, Meets, HasPlan, finish}
use Rattle.schedule.specs.Timed.{HasTimed}
use Rattle.schedule.specs.Clock.{Clock, Clocked, ClockedMeets, HasClocked}
use Rattle.schedule.specs.Make.{slots, bytes}
use Rattle.schedule.specs.Listed.{Listed, Chain, Reads, written}
use Rattle.schedule.specs.Book.{Holds}
use Rattle.schedule.specs.declared.JobIndex.{JobIndex}
use Rattle.book.specs.Told.{Book, cores, jobs_of, latest_of, Told, Made}
use Rattle.planner.specs.declared.requests.Request.{Request}
use Rattle.planner.specs.declared.requests.Request.TheVariants.{Before, Earlier}
use Rattle.planner.specs.Requests.{Plannable, Sound, grow, accepts_with, Applied, answered, Applies, Run}
use Rattle.planner.specs.List.{list_of, Misshapen, SoundRows, Judged, Judges}
use Rattle.planner.specs.Late.{Latens, Shortens}
use Rattle.plan.specs.Plan.{horizon, unplaced, Plans}
use Rattle.plan.specs.Place.{Places}
use Rattle.records.specs.declared.Record.{Record}
use Rattle.records.specs.Record.{length_of, Stands}
use Rattle.jobfile.specs.Reader.{AfterRead, ReadsRecord}
use Rattle.jobfile.specs.Writer.{WritesBook}
use Rattle.jobfile.specs.RoundTrip.{ReadsBack}
use Rattle.firmware.specs.List.{FindsLateness}
use Rattle.firmware.specs.Plans.{FindsPlace}

-- ---- 1. "Each refusal has a number; the book of jobs is then as it was before the call, and so is every byte of lent memory."
-- a number of the table (01, Numbers of refusal; 02: 12 and 13 by A1, 14 by A2)
abbrev pub Numbered : ℕ → Type 0
Numbered n = (1 ≤ n) × (n ≤ 14)

pub record Demand1 : Type 0 where
  pub request : (k : Book) (q : Request) (r : Applied) → Made k → Applies k q r → 1 ≤ r.number → Numbered r.number × (r.book ≡ k)
  pub list : (starts deadlines pairs old : List ℕ) (r : Judged) → Judges starts deadlines pairs old r → 1 ≤ r.number → Numbered r.number × (r.row ≡ old)
  pub lateness : (starts deadlines pairs : List ℕ) (n : ℕ) (v : ℤ) → Latens starts deadlines pairs n v → 1 ≤ n → Numbered n
  pub shortest : (starts deadlines pairs : List ℕ) (n v : ℕ) → Shortens starts deadlines pairs n v → 1 ≤ n → Numbered n
  pub plan : (k : Book) (old new : List ℕ) (n v : ℕ) → Plans k old new n v → 1 ≤ n → Numbered n × (new ≡ old)
  pub place : (k : Book) (job n : ℕ) (values : List ℕ) → Places k job n values → 1 ≤ n → Numbered n
  -- the calls for firmware promise these same relations of lent memory, in numbers; a place goes into four lent numbers, a lateness into one, and a refusal leaves them
  pub lateness_lent : (starts deadlines pairs : List ℕ) (old new : ℤ) (n v : ℕ) → FindsLateness starts deadlines pairs old new n v → 1 ≤ n → Numbered n × (new ≡ old)
  pub place_lent : (k : Book) (job n : ℕ) (old new : List ℕ) → FindsPlace k job old new n → 1 ≤ n → Numbered n × (new ≡ old)
  -- one record read: a refused request moves the offset past its record, a stop leaves it; 255 is the end of the file and no refusal
  pub record_read : (k : Book) (file : List ℕ) (at : ℕ) (r : AfterRead) → Made k → ReadsRecord k file at r → 1 ≤ r.number → (r.number ≡ 255 → ⊥) →
      Numbered r.number × (r.book ≡ k) × ((r.at ≡ at) ⊎ ((told : Record) × Stands file at told × (r.at ≡ at + length_of told)))
  pub written : (k : Book) (old new : List ℕ) (n v : ℕ) → WritesBook k old new n v → 1 ≤ n → Numbered n × (new ≡ old)

-- ---- 2. "A plan it hands out is a valid two-processor schedule .. and the finishing time told is that plan's."
-- the bytes show a valid plan of the list, in time, that finishes when told
pub record Shown (L : Listed) (k : Book) (old new : List ℕ) (told : ℕ) : Type 1 where
  pub slot : ℕ → ℕ
  pub core : ℕ → ℕ
  pub valid : Valid cores (jobs_of k) slot
  pub meets : Meets (jobs_of k) (written L) slot
  -- "as Garey and Johnson define it": by any clock, each job begins where its slot does
  pub clocks : (C : Clock) → Clocked C cores (jobs_of k) (λ i. C.begin (slot i)) × ClockedMeets C (jobs_of k) (written L) (λ i. C.begin (slot i))
  pub finishes : told ≡ finish (jobs_of k) slot
  -- each job stands in its slot on its core; a core that none has in a slot is idle; bytes beyond the plan stay
  pub seats : (i : ℕ) → i < k.size → (core i < cores) × (get_or new (cores * slot i + core i) 255 ≡ i)
  pub others : (u c : ℕ) → u < told → c < cores → (get_or new (cores * u + c) 0 ≡ 255) ⊎ ((i : ℕ) × (i < k.size) × (slot i ≡ u) × (core i ≡ c))
  pub rest : drop (cores * told) new ≡ drop (cores * told) old

-- "It says no plan only if no such schedule exists at all": in whole slots, in units of 1/u of a slot, or by any clock
pub record NoSchedule (L : Listed) : Type 1 where
  pub whole : (J : Jobs) → Reads L J → HasPlan cores J (written L) → ⊥
  pub parts : (J : Jobs) (u : ℕ) → Reads L J → 1 ≤ u → HasTimed cores u J (written L) → ⊥
  pub clocks : (J : Jobs) (C : Clock) → Reads L J → HasClocked C cores J (written L) → ⊥

pub record Demand2 : Type 1 where
  pub plan : (L : Listed) (k : Book) (old new : List ℕ) (told : ℕ) → Told k L → Plans k old new 0 told → Shown L k old new told
  pub none : (L : Listed) (k : Book) (q : Request) (r : Applied) → Told k L → Applies k q r → r.number ≡ 4 → NoSchedule (grow L q)
  pub none_listed : (starts deadlines pairs old : List ℕ) (r : Judged) → Judges starts deadlines pairs old r → r.number ≡ 4 → NoSchedule (list_of starts deadlines pairs)
  -- "A book written to a file and read into an empty book is the same book."
  pub same_book : (k : Book) → Made k → ReadsBack k

-- ---- 3. "Take any run of new jobs, new orders and earlier deadlines on a book that began empty, and strike out the refused ones": `Run L k`, where L is the remaining list
pub record Demand3 : Type 0 where
  -- "The tightened deadlines .. are then exactly those that the definition gives for the remaining list"
  pub told : (L : Listed) (k : Book) → Run L k → Told k L
  -- "handed in at once": in whatever rows, it is accepted unless their form is bad, and the receiving row gets the book's latest times
  pub at_once : (starts deadlines pairs old : List ℕ) (k : Book) (r : Judged) → Run (list_of starts deadlines pairs) k → (Misshapen starts deadlines pairs old → ⊥) →
      Judges starts deadlines pairs old r → (r.number ≡ 0) × ((i : ℕ) → i < k.size → get_or r.row i 0 ≡ latest_of k i)
  -- every remaining list can be so handed in
  pub in_rows : (L : Listed) (k : Book) → Run L k → (pairs : List ℕ) × (list_of L.starts L.deadlines pairs ≡ L) × (length pairs ≡ 2 * length L.orders)
  -- "and the plan": jobs J and latest times that the definition gives for the remaining list have this finishing time and these bytes
  pub plan : (L : Listed) (k : Book) (J : Jobs) (times : ℕ → ℕ) (old new : List ℕ) (told : ℕ) → Run L k → Holds cores L J times → Plans k old new 0 told →
      (told ≡ finish J (slots cores J times unplaced horizon)) × (new ≡ bytes J times unplaced told ++ drop (cores * told) old)
  -- one remaining list leaves one book, whatever the run
  pub one_book : (L : Listed) (k b : Book) → Run L k → Run L b → k ≡ b
  -- "A sound request is refused for want of a plan exactly when the list accepted so far, with it added, has none."
  pub refused : (L : Listed) (k : Book) (q : Request) (r : Applied) → Run L k → Applies k q r → Sound L q → (r ≡ answered k 4 0) ↔ (Plannable (grow L q) → ⊥)
  -- and else it is accepted, with its value; so is a sound list that has a plan
  pub accepted : (L : Listed) (k : Book) (q : Request) (r : Applied) → Run L k → Applies k q r → Sound L q → Plannable (grow L q) → r ≡ answered r.book 0 (accepts_with L q)
  pub list_accepted : (starts deadlines pairs old : List ℕ) (r : Judged) → Judges starts deadlines pairs old r → SoundRows starts deadlines pairs old → Plannable (list_of starts deadlines pairs) →
      (r.number ≡ 0) × (r.value ≡ 0)

-- ---- "An order that already follows, and a deadline not below the latest time held, are accepted and change nothing." (01, Requests on a book)
pub record Unchanged : Type 0 where
  pub order : (L : Listed) (k : Book) (a b : JobIndex) (r : Applied) → Told k L → Chain L.orders a.0 b.0 → Applies k (Before a b) r → r ≡ answered k 0 0
  pub deadline : (k : Book) (j : JobIndex) (d : ℕ) (r : Applied) → Made k → j.0 < k.size → latest_of k j.0 ≤ d → d ≤ 4096 → Applies k (Earlier j d) r → r ≡ answered k 0 0
