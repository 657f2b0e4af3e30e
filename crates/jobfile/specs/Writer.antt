-- A book written out (01, Job file).
-- Assumes nothing.
use Rattle.std.specs.Prelude.{cond, List, [], ◌∷◌, ◌++◌, ◌≡◌, ℕ, zero, suc, ◌≤◌, ◌<◌, length, get_or, drop}
use Rattle.book.specs.Told.{Book}
use Rattle.records.specs.declared.Record.{Record}
use Rattle.records.specs.declared.Record.TheVariants.{Job, Order}
use Rattle.records.specs.Record.{bytes_of}
use Rattle.refusal.specs.Table.{check, Table}
use Rattle.sets.specs.Sets.{has}

-- what 0, 1, .. below n give, in their order
unfoldable pub gather : {A : Type 0} → ℕ → (ℕ → List A) → List A
gather zero f = []
gather (suc n) f = gather n f ++ f n

-- the bytes of records, one after the other
unfoldable pub bytes_of_all : List Record → List ℕ
bytes_of_all [] = []
bytes_of_all (r ∷ rest) = bytes_of r ++ bytes_of_all rest

-- job i with its latest time (01, Job file: "`JB` for each job with its latest time")
abbrev pub job_record : List ℕ → List ℕ → ℕ → List Record
job_record start latest i = Job (get_or start i 0) (get_or latest i 0) ∷ []

-- job a before job b, where it precedes b
abbrev pub order_record : List ℕ → ℕ → ℕ → List Record
order_record before a b = cond (has (get_or before b 0) a) (Order a b ∷ []) []

-- by b
abbrev pub follower_records : ℕ → List ℕ → ℕ → List Record
follower_records size before a = gather size (order_record before a)

-- a book as records (01, Job file: "then `OR` for every pair where a precedes b, by a, then b")
unfoldable pub records_of : Book → List Record
unfolding gather
records_of k = gather k.size (job_record k.start k.latest) ++ gather k.size (follower_records k.size k.before)

-- a book as a job file
unfoldable pub file_of : Book → List ℕ
unfolding bytes_of_all records_of
file_of k = bytes_of_all (records_of k)

-- the bytes lent, and the answer's number, 0 for accepted, and value
pub record Output : Type 0 where
  pub bytes : List ℕ
  pub number : ℕ
  pub value : ℕ

abbrev pub output : List ℕ → ℕ → ℕ → Output
output bytes number value = record { bytes = bytes; number = number; value = value }

-- what write promises: 8 with the bytes needed, and nothing written; or the file and its length, and the bytes beyond stay (01, Numbers of refusal: 8; Job file)
pub record WritesBook (k : Book) (old new : List ℕ) (n v : ℕ) : Type 0 where
  pub outcome : Table (check 8 (length (file_of k)) (length old < length (file_of k))) (λ number value r. r ≡ output old number value)
      (λ r. r ≡ output (file_of k ++ drop (length (file_of k)) old) 0 (length (file_of k))) (output new n v)

-- 12,480 bytes are enough: 64 jobs and 2,016 pairs (01, Numbers of refusal: 8)
pub record Enough (k : Book) : Type 0 where
  pub short : length (file_of k) ≤ 12480
  pub accepted : (old new : List ℕ) (n v : ℕ) → 12480 ≤ length old → WritesBook k old new n v → n ≡ 0
