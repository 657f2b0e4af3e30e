-- The planners that document 01 shuts out by name: no call that meets the contract of `apply`, `judge` or `plan` is one of them (01, How much each contract has to settle: "These are shut out").
-- A call is what it answers to each book and request; it meets its contract where the answer does for every book that was made.
-- Assumes nothing.
use Rattle.std.specs.Prelude.{List, ◌≡◌, ℕ, ◌≤◌}
use Rattle.schedule.specs.Plan.{finish}
use Rattle.schedule.specs.Listed.{Listed}
use Rattle.book.specs.Told.{Book, jobs_of, Told, Made}
use Rattle.planner.specs.declared.requests.Request.{Request}
use Rattle.planner.specs.Requests.{Applied, Applies}
use Rattle.planner.specs.List.{Judged, Judges}
use Rattle.plan.specs.Plan.{Plans}
use Rattle.demands.specs.Demands.{Shown}

-- a call that meets the contract of apply
abbrev pub Applying : (Book → Request → Applied) → Type 0
Applying call = (k : Book) (q : Request) → Made k → Applies k q (call k q)

-- a call that meets the contract of judge
abbrev pub Judging : (List ℕ → List ℕ → List ℕ → List ℕ → Judged) → Type 0
Judging call = (starts deadlines pairs row : List ℕ) → Judges starts deadlines pairs row (call starts deadlines pairs row)

pub record ShutOut : Type 1 where
  -- "a planner that refuses everything"
  pub refuses_everything : (call : Book → Request → Applied) → Applying call → ((k : Book) (q : Request) → Made k → 1 ≤ (call k q).number) → ⊥
  pub refuses_every_list : (call : List ℕ → List ℕ → List ℕ → List ℕ → Judged) → Judging call → ((starts deadlines pairs row : List ℕ) → 1 ≤ (call starts deadlines pairs row).number) → ⊥
  -- "one that answers alike each time"
  pub answers_alike : (call : Book → Request → Applied) (n v : ℕ) → Applying call → ((k : Book) (q : Request) → Made k → ((call k q).number ≡ n) × ((call k q).value ≡ v)) → ⊥
  -- "one that accepts and changes nothing"
  pub changes_nothing : (call : Book → Request → Applied) → Applying call → ((k : Book) (q : Request) → Made k → (call k q).book ≡ k) → ⊥
  -- "one that works only on the first request and then pretends": whatever it answers, a book that holds a job it leaves as it is
  pub first_request_only : (call : Book → Request → Applied) → Applying call → ((k : Book) (q : Request) → Made k → 1 ≤ k.size → (call k q).book ≡ k) → ⊥
  -- "one whose finishing time isn't the greatest end in the plan written"
  pub other_finish : (L : Listed) (k : Book) (old new : List ℕ) (told : ℕ) → Told k L → Plans k old new 0 told → ((shown : Shown L k old new told) → told ≡ finish (jobs_of k) shown.slot → ⊥) → ⊥
