-- What a request does, check by check (01, Requests on a book; Numbers of refusal).
-- Assumes nothing.
use Rattle.std.specs.Prelude.{cond, ◌⊎◌, List, ◌≡◌, ℕ, ◌≤◌, ◌<◌, eqb, length, get_or}
use Rattle.schedule.specs.Jobs.{Jobs}
use Rattle.schedule.specs.Plan.{HasPlan}
use Rattle.schedule.specs.Listed.{Listed, Chain, Reads, written, with_job, with_order, with_deadline}
use Rattle.refusal.specs.Table.{Checks, check, ◌then◌, Clear, Table}
use Rattle.book.specs.Told.{Book, cores, Told, Made, nothing_listed}
use Rattle.planner.specs.declared.requests.Request.{Request}
use Rattle.planner.specs.declared.requests.Request.TheVariants.{Job, Before, Earlier}

-- some valid plan of the list meets its deadlines (01, Numbers of refusal: 4)
abbrev pub Plannable : Listed → Type 0
Plannable L = (J : Jobs) × Reads L J × HasPlan cores J (written L)

-- ---- the checks that requests and whole lists share, at a place (01, Numbers of refusal: "Given exactly when", "Returned with it")
-- a job's times
abbrev pub times_checks : ℕ → ℕ → ℕ → Checks
times_checks place start deadline = check 2 place ((4095 < start) ⊎ (4096 < deadline)) then check 3 place (deadline ≤ start)

-- the two jobs of an order, of so many held (02, A1: "For an order, 5 now means the first job isn't held, and a new number the second")
abbrev pub held_checks : ℕ → ℕ → ℕ → ℕ → Checks
held_checks place size first second = check 5 place (size ≤ first) then check 12 place (size ≤ second)

-- a job before itself, and the loop that an order closes with those before it (02, A1: "6 is left for a loop through other jobs")
abbrev pub loop_checks : ℕ → List (ℕ × ℕ) → ℕ → ℕ → Checks
loop_checks place orders first second = check 13 place (first ≡ second) then check 6 place (Chain orders second first)

-- "sound, but no valid plan meets the deadlines"
abbrev pub plan_check : Listed → Checks
plan_check L = check 4 0 (Plannable L → ⊥)

-- ---- requests
-- the list enlarged by a request (01, Requests on a book: "the enlarged list")
abbrev pub grow : Listed → Request → Listed
grow L (Job s d) = with_job L s d
grow L (Before a b) = with_order L a.0 b.0
grow L (Earlier j d) = with_deadline L j.0 d

-- "Order of checks: new job 1, 2, 3, 4; .. earlier deadline 5, 2, 3, 4", and "an order is checked 5, 12, 13, 6, 4" (02, A1), all but 4
abbrev pub sound_checks : Listed → Request → Checks
sound_checks L (Job s d) = check 1 0 (64 ≤ length L.starts) then times_checks 0 s d
sound_checks L (Before a b) = held_checks 0 (length L.starts) a.0 b.0 then loop_checks 0 L.orders a.0 b.0
sound_checks L (Earlier j d) = check 5 0 (length L.starts ≤ j.0) then check 2 0 (4096 < d) then check 3 0 (d ≤ get_or L.starts j.0 0)

-- a request that earns no refusal before 4 (demand 3: "A sound request")
abbrev pub Sound : Listed → Request → Type 0
Sound L q = Clear (sound_checks L q)

abbrev pub request_checks : Listed → Request → Checks
request_checks L q = sound_checks L q then plan_check (grow L q)

-- "An accepted new job answers its number; the other requests .. answer 0"
abbrev pub accepts_with : Listed → Request → ℕ
accepts_with L (Job s d) = length L.starts
accepts_with L (Before a b) = 0
accepts_with L (Earlier j d) = 0

-- ---- outcomes
-- the book left, and the answer's number, 0 for accepted, and value
pub record Applied : Type 0 where
  pub book : Book
  pub number : ℕ
  pub value : ℕ

abbrev pub answered : Book → ℕ → ℕ → Applied
answered k number value = record { book = k; number = number; value = value }

-- refused: the same book (01, Numbers of refusal: "All of them leave book .. untouched")
abbrev pub Turned : Book → ℕ → ℕ → Applied → Type 0
Turned k number value r = r ≡ answered k number value

-- accepted: a book that holds the enlarged list (01, Requests on a book)
pub record Grown (L : Listed) (value : ℕ) (r : Applied) : Type 0 where
  pub accepts : r ≡ answered r.book 0 value
  pub told : Told r.book L

abbrev pub Outcome : Listed → Book → Request → Applied → Type 0
Outcome L k q = Table (request_checks L q) (Turned k) (Grown (grow L q) (accepts_with L q))

-- for every list that the book holds
abbrev pub Outcomes : Book → Request → Applied → Type 0
Outcomes k q r = (L : Listed) → Told k L → Outcome L k q r

-- what apply promises; `made` follows from the rest, and serves the next call
pub record Applies (k : Book) (q : Request) (r : Applied) : Type 0 where
  pub outcome : Outcomes k q r
  pub made : Made r.book

-- the list as the number leaves it: what is refused is struck out (demand 3)
abbrev pub kept : Listed → Request → ℕ → Listed
kept L q number = cond (eqb number 0) (grow L q) L

-- a book opened empty and changed by requests alone, and the list of those that it accepted
pub data Run : Listed → Book → Type 0 where
  opened : (k : Book) → Told k nothing_listed → Run nothing_listed k
  asked : (L : Listed) (k : Book) (q : Request) (r : Applied) → Run L k → Applies k q r → Run (kept L q r.number) r.book
