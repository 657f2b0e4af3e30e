-- The records of a file, and the list that they are together (01, Job file; 02, A2).
-- Assumes nothing.
use Rattle.std.specs.Prelude.{List, [], ◌∷◌, ◌++◌, ℕ, min, ◌+◌, ◌≤◌, length, get_or, set}
use Rattle.refusal.specs.Table.{Checks, check, places, Clear, Refuses}
use Rattle.records.specs.declared.Record.{Record}
use Rattle.records.specs.declared.Record.TheVariants.{Job, Order, Deadline}
use Rattle.records.specs.Record.{length_of, Stands}
use Rattle.records.specs.Find.{find_checks}

-- from an offset on a file has these records, up to its end or to what stops it, with its number and value (255 and 0 are the end)
pub data Contains (file : List ℕ) : ℕ → List Record → ℕ → ℕ → Type 0 where
  stops : {at n v : ℕ} → Refuses (find_checks file at) n v → Contains file at [] n v
  shows : {at n v : ℕ} {more : List Record} (r : Record) → Clear (find_checks file at) → Stands file at r → Contains file (at + length_of r) more n v → Contains file at (r ∷ more) n v

-- what each record gives to a row, one behind the other
unfoldable pub given : (Record → List ℕ) → List Record → List ℕ
given part [] = []
given part (r ∷ more) = part r ++ given part more

-- "`JB` start, deadline; `OR` first, second" (01, Job file)
abbrev pub start_of : Record → List ℕ
start_of (Job start deadline) = start ∷ []
start_of (Order first second) = []
start_of (Deadline job deadline) = []

abbrev pub deadline_of : Record → List ℕ
deadline_of (Job start deadline) = deadline ∷ []
deadline_of (Order first second) = []
deadline_of (Deadline job deadline) = []

abbrev pub pair_of : Record → List ℕ
pair_of (Job start deadline) = []
pair_of (Order first second) = first ∷ second ∷ []
pair_of (Deadline job deadline) = []

-- `TG` is "an earlier deadline for a job" (01, Requests on a book): the earlier of the two holds
abbrev pub drawn_by : Record → List ℕ → List ℕ
drawn_by (Job start deadline) row = row
drawn_by (Order first second) row = row
drawn_by (Deadline job deadline) row = set row job (min (get_or row job 0) deadline)

unfoldable pub drawn : List Record → List ℕ → List ℕ
drawn [] row = row
drawn (r ∷ more) row = drawn more (drawn_by r row)

-- the list of all records together: a `TG` counts wherever it stands
abbrev pub starts_of : List Record → List ℕ
starts_of records = given start_of records

abbrev pub deadlines_of : List Record → List ℕ
deadlines_of records = drawn records (given deadline_of records)

abbrev pub pairs_of : List Record → List ℕ
pairs_of records = given pair_of records

-- a `TG` of a job that is not among so many
abbrev pub Stray : ℕ → Record → Type 0
Stray size (Job start deadline) = ⊥
Stray size (Order first second) = ⊥
Stray size (Deadline job deadline) = size ≤ job

-- 5, "a job number not held" (01, Numbers of refusal), with the record's place; no place is beyond the records
abbrev pub stray_checks : ℕ → List Record → Checks
stray_checks size records = places (length records) (λ place. check 5 place (Stray size (get_or records place (Order 0 0))))
