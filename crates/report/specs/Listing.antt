-- The listing of a job file (01, Job file).
-- Assumes nothing.
use Rattle.std.specs.Prelude.{cond, ◌||◌, List, [], ◌++◌, ◌≡◌, ℕ, ◌+◌, ◌*◌, ◌/◌, ◌<◌, ◌≤◌, eqb, length, get_or, drop}
use Rattle.refusal.specs.Table.{Table, check}
use Rattle.book.specs.Told.{Book, Told, latest_of, nothing_listed}
use Rattle.plan.specs.Plan.{finish_of, bytes_of}
use Rattle.plan.specs.Place.{place_of}
use Rattle.jobfile.specs.Reader.{AfterRead}
use Rattle.jobfile.specs.File.{SingleReads}
use Rattle.text.specs.Text.{each}
use Rattle.report.specs.Line.{refused_line, stopped_line, too_long_line, jobs_line, slot_line, job_line}

-- "First, a line for each refused request": from the number of each record's answer
abbrev pub refused_lines : List ℕ → List ℕ
refused_lines numbers = each (length numbers) (λ place. refused_line place (get_or numbers place 0))

-- "A stop by 10 or 11 prints" a line "before the `jobs` line": from the number and the value of the last read
abbrev pub stop_line : ℕ → ℕ → List ℕ
stop_line number offset = cond (eqb number 10 || eqb number 11) (stopped_line offset number) []

-- "a line for each slot with a job": from the plan's bytes, two a slot
abbrev pub slot_lines : List ℕ → List ℕ
slot_lines plan = each (length plan / 2) (λ slot. slot_line slot (get_or plan (2 * slot) 0) (get_or plan (2 * slot + 1) 0))

-- "a line for each job": its start, its latest time, and its end and spare as its place has them, behind slot and core
abbrev pub job_text : Book → ℕ → List ℕ
job_text k job = job_line job (get_or k.start job 0) (latest_of k job) (get_or (place_of k job) 2 0) (get_or (place_of k job) 3 0)

abbrev pub job_lines : Book → List ℕ
job_lines k = each k.size (job_text k)

-- "Then jobs held and finishing time; a line for each slot with a job ..; a line for each job"
abbrev pub book_lines : Book → List ℕ
book_lines k = jobs_line k.size (finish_of k) ++ slot_lines (bytes_of k) ++ job_lines k

-- the text of a file that is not too long: its records are read one by one into an empty book, up to the read that ends or stops
pub record Prints (file text : List ℕ) : Type 0 where
  pub opened : Book
  pub empty : Told opened nothing_listed
  pub numbers : List ℕ
  pub last : AfterRead
  pub reads : SingleReads file opened 0 numbers last
  pub printed : text ≡ refused_lines numbers ++ stop_line last.number last.value ++ book_lines last.book

-- the listing's text: "9 prints `file refused 9` alone"
abbrev pub Listing : List ℕ → List ℕ → Type 0
Listing file = Table (check 9 0 (24576 < length file)) (λ n v text. text ≡ too_long_line) (Prints file)

-- what listing promises: the text stands at the front of the bytes lent, those beyond it stay, and the answer is its length
pub record Lists (file old new : List ℕ) (r : ℕ) : Type 0 where
  pub text : List ℕ
  pub listing : Listing file text
  pub bytes : new ≡ text ++ drop (length text) old
  pub answer : r ≡ length text
  pub within : r ≤ length new
