-- The last check of a request.
-- Assumes nothing.
use Rattle.std.specs.Prelude.{true, List, ◌≡◌, ℕ, ◌≤◌, ◌<◌, length, set, Result, Ok, Err, ⊤}
use Rattle.schedule.specs.Plan.{HasPlan}
use Rattle.refusal.specs.declared.Reason.{Reason}
use Rattle.refusal.specs.declared.Reason.TheVariants.{NoPlan}
use Rattle.book.specs.Told.{cores, part, book_in, jobs_in, row_in}
use Rattle.planner.specs.declared.chains.Pending.{Pending}
use Rattle.planner.specs.Inner.Chains.{joined_rows}
use Rattle.planner.specs.Inner.Tighten.{Tightens}
use Rattle.planner.specs.Inner.Tighten.Early.{Startable}

-- a book in lent memory whose latest times, one of them changed, may be tightened
pub record Settleable (size : ℕ) (times before : List ℕ) (pending : Pending) (job : ℕ) : Type 0 where
  pub long : 129 ≤ length times
  pub below : job < 64
  pub waits : pending.job.0 < 64
  pub ready : Startable size (part 1 times) (joined_rows before pending)

-- a book with other latest times
pub record Keeps (row times after : List ℕ) : Type 0 where
  pub same_length : length after ≡ length times
  pub book : (before : List ℕ) → book_in after before ≡ record { size = (book_in times before).size; start = (book_in times before).start; latest = row; before = before }

-- a book with its latest times tightened
pub record Kept (size : ℕ) (times before : List ℕ) (pending : Pending) (job deadline : ℕ) (after : List ℕ) : Type 0 where
  pub row : List ℕ
  pub tight : Tightens cores size (part 1 times) (joined_rows before pending) (set (part 65 times) job deadline) row true
  pub book : Keeps row times after

-- no plan meets the times
abbrev pub NoneMeets : ℕ → List ℕ → List ℕ → Pending → ℕ → ℕ → Type 0
NoneMeets size times before pending job deadline = HasPlan cores (jobs_in size (part 1 times) (joined_rows before pending)) (row_in (set (part 65 times) job deadline)) → ⊥

-- tightened and kept; or 4, and nothing changed
abbrev pub Settles : ℕ → List ℕ → List ℕ → Pending → ℕ → ℕ → List ℕ → Result ⊤ Reason → Type 0
Settles size times before pending job deadline after (Ok x) = Kept size times before pending job deadline after
Settles size times before pending job deadline after (Err reason) = (reason ≡ NoPlan) × (after ≡ times) × NoneMeets size times before pending job deadline
