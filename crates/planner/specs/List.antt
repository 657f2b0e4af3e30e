-- What is answered to a whole list, and what the receiving row then holds, check by check (01, The whole list at once; Numbers of refusal).
-- Assumes nothing.
use Rattle.std.specs.Prelude.{List, [], ◌∷◌, ◌++◌, ◌⊎◌, ◌≡◌, ℕ, zero, suc, ◌+◌, ◌*◌, ◌/◌, ◌%◌, ◌≤◌, ◌<◌, length, get_or}
use Rattle.schedule.specs.Jobs.{Jobs}
use Rattle.schedule.specs.Listed.{Listed}
use Rattle.schedule.specs.Book.{Holds}
use Rattle.refusal.specs.Table.{Checks, check, ◌then◌, places, Clear, Table}
use Rattle.book.specs.Told.{Book, cores, row_in, latest_of, Told}
use Rattle.planner.specs.Requests.{times_checks, held_checks, loop_checks, plan_check, Run}

-- the jobs of a pair (01, The whole list at once: "pairs "first, second" laid flat")
abbrev pub first_of : List ℕ → ℕ → ℕ
first_of pairs p = get_or pairs (2 * p) 0

abbrev pub second_of : List ℕ → ℕ → ℕ
second_of pairs p = get_or pairs (2 * p + 1) 0

-- the first n pairs
unfoldable pub pairs_of : List ℕ → ℕ → List (ℕ × ℕ)
pairs_of pairs zero = []
pairs_of pairs (suc n) = pairs_of pairs n ++ ((first_of pairs n, second_of pairs n) ∷ [])

-- the list that the three rows say (01, The whole list at once: "Three lent rows")
abbrev pub list_of : List ℕ → List ℕ → List ℕ → Listed
list_of starts deadlines pairs = record { starts = starts; deadlines = deadlines; orders = pairs_of pairs (length pairs / 2) }

-- 7: "starts and deadlines differ in length, the pair row is odd", with or without a row that receives (01, Numbers of refusal)
abbrev pub Uneven : List ℕ → List ℕ → List ℕ → Type 0
Uneven starts deadlines pairs = (length starts ≡ length deadlines → ⊥) ⊎ (length pairs % 2 ≡ 1)

-- "or the receiving row is shorter than the starts"
abbrev pub Misshapen : List ℕ → List ℕ → List ℕ → List ℕ → Type 0
Misshapen starts deadlines pairs row = Uneven starts deadlines pairs ⊎ (length row < length starts)

-- the checks of a job, of a pair, and of the loop that a pair closes with those before it, each with its place
abbrev pub job_at : List ℕ → List ℕ → ℕ → Checks
job_at starts deadlines i = times_checks i (get_or starts i 0) (get_or deadlines i 0)

abbrev pub pair_at : ℕ → List ℕ → ℕ → Checks
pair_at size pairs p = held_checks p size (first_of pairs p) (second_of pairs p)

abbrev pub order_at : List ℕ → ℕ → Checks
order_at pairs p = loop_checks p (pairs_of pairs p) (first_of pairs p) (second_of pairs p)

-- "then 2, 3 job by job", and "5 then 12 pair by pair, then 13 or 6 at the first pair that earns one" (02, A1)
abbrev pub entries_checks : List ℕ → List ℕ → List ℕ → Checks
entries_checks starts deadlines pairs =
    places (length starts) (job_at starts deadlines)
    then places (length pairs / 2) (pair_at (length starts) pairs)
    then places (length pairs / 2) (order_at pairs)

-- "Whole list: 7, 1", then its entries, all but 4
abbrev pub rows_checks : List ℕ → List ℕ → List ℕ → List ℕ → Checks
rows_checks starts deadlines pairs row =
    check 7 0 (Misshapen starts deadlines pairs row)
    then check 1 0 (64 < length starts)
    then entries_checks starts deadlines pairs

-- a list that earns no refusal before 4
abbrev pub SoundRows : List ℕ → List ℕ → List ℕ → List ℕ → Type 0
SoundRows starts deadlines pairs row = Clear (rows_checks starts deadlines pairs row)

abbrev pub list_checks : List ℕ → List ℕ → List ℕ → List ℕ → Checks
list_checks starts deadlines pairs row = rows_checks starts deadlines pairs row then plan_check (list_of starts deadlines pairs)

-- the receiving row as it is left, and the answer's number, 0 for accepted, and value
pub record Judged : Type 0 where
  pub row : List ℕ
  pub number : ℕ
  pub value : ℕ

abbrev pub judged : List ℕ → ℕ → ℕ → Judged
judged row number value = record { row = row; number = number; value = value }

-- refused: the row as it was (01, Numbers of refusal: "All of them leave .. lent memory untouched")
abbrev pub TurnedDown : List ℕ → ℕ → ℕ → Judged → Type 0
TurnedDown row number value r = r ≡ judged row number value

-- accepted with 0: the row receives the latest times of the list (01, The whole list at once: "Its entries beyond the number of jobs stay")
pub record Fitted (L : Listed) (row : List ℕ) (r : Judged) : Type 0 where
  pub accepts : r ≡ judged r.row 0 0
  pub same_length : length r.row ≡ length row
  pub jobs : Jobs
  pub holds : Holds cores L jobs (row_in r.row)
  pub rest : (i : ℕ) → length L.starts ≤ i → get_or r.row i 0 ≡ get_or row i 0

-- what judge promises
abbrev pub Judges : List ℕ → List ℕ → List ℕ → List ℕ → Judged → Type 0
Judges starts deadlines pairs row = Table (list_checks starts deadlines pairs row) (TurnedDown row) (Fitted (list_of starts deadlines pairs) row)

-- the whole list at once is the requests one by one (01, The whole list at once; Requests on a book):
-- what is accepted, a book can be brought to hold by requests alone; what a book holds is accepted, unless by its form,
-- with the same latest times; and what is refused by 4, no book holds
pub record AsRequests (starts deadlines pairs row : List ℕ) (r : Judged) : Type 0 where
  pub run : r.number ≡ 0 → (k : Book) × Run (list_of starts deadlines pairs) k
  pub accepted : (Misshapen starts deadlines pairs row → ⊥) → (k : Book) → Told k (list_of starts deadlines pairs) → r.number ≡ 0
  pub times : r.number ≡ 0 → (k : Book) → Told k (list_of starts deadlines pairs) → (i : ℕ) → i < length starts → row_in r.row i ≡ latest_of k i
  pub refused : r.number ≡ 4 → (k : Book) → Told k (list_of starts deadlines pairs) → ⊥
