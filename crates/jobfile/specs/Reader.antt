-- One record read at an offset (01, Job file).
-- Assumes nothing.
use Rattle.std.specs.Prelude.{Bool, not, ◌||◌, List, ◌≡◌, ℕ, ◌+◌, T, eqb, Option, Some, None, Result, Ok, Err}
use Rattle.book.specs.Told.{Book, Made}
use Rattle.planner.specs.declared.requests.Request.{Request}
use Rattle.planner.specs.declared.requests.Request.TheVariants as request
use Rattle.planner.specs.Requests.{answered, Applies}
use Rattle.records.specs.declared.Record.{Record}
use Rattle.records.specs.declared.Record.TheVariants.{Job, Order, Deadline}
use Rattle.records.specs.Record.{length_of, Stands}
use Rattle.records.specs.Find.{find_checks}
use Rattle.refusal.specs.declared.Refusal.{Refusal}
use Rattle.refusal.specs.Says.{Says, reason_number, number_of, value_of}
use Rattle.refusal.specs.Table.{Table}

-- the book and the offset after a read, and its number and value; the end has no number in 01: it takes 255, which no refusal has
pub record AfterRead : Type 0 where
  pub book : Book
  pub at : ℕ
  pub number : ℕ
  pub value : ℕ

abbrev pub after_read : Book → ℕ → ℕ → ℕ → AfterRead
after_read k at number value = record { book = k; at = at; number = number; value = value }

-- "9, 10 and 11 stop"
abbrev pub stops : ℕ → Bool
stops n = eqb n 9 || eqb n 10 || eqb n 11

-- the end, or a stop: no request was read
abbrev pub halts : ℕ → Bool
halts n = eqb n 255 || stops n

-- what a read comes to: the answer to a request, nothing at the end, or the refusal that stops it
abbrev pub ReadEvent : Type 0
ReadEvent = Result (Option (Result ℕ Refusal)) Refusal

-- the number and the value of every event, of which a promise says P (01, Code places: "a definition gives this paper's number and values for every case of the enum")
abbrev pub Tells : ReadEvent → (ℕ → ℕ → Type 0) → Type 0
Tells (Ok (Some answer)) P = Says answer (λ number value. T (not (halts number)) × P number value)
Tells (Ok None) P = P 255 0
Tells (Err refusal) P = T (stops (reason_number refusal.reason)) × P (reason_number refusal.reason) refusal.value

-- the number, and the value
abbrev pub event_number : ReadEvent → ℕ
event_number (Ok (Some answer)) = number_of answer
event_number (Ok None) = 255
event_number (Err refusal) = reason_number refusal.reason

abbrev pub event_value : ReadEvent → ℕ
event_value (Ok (Some answer)) = value_of answer
event_value (Ok None) = 0
event_value (Err refusal) = refusal.value

-- what a record asks (01, Job file: "`JB` start, deadline; `OR` first, second; `TG` job, deadline")
abbrev pub asks : Record → Request
asks (Job start deadline) = request.Job start deadline
asks (Order first second) = request.Before (record { 0 = first }) (record { 0 = second })
asks (Deadline job deadline) = request.Earlier (record { 0 = job }) deadline

-- "At the end and at a stop the offset and the book stay"
abbrev pub Stays : Book → ℕ → ℕ → ℕ → AfterRead → Type 0
Stays k at number value r = r ≡ after_read k at number value

-- the record that stands at the offset is answered as the planner promises, and passed, "refused or not" (01, Job file: "A refused request still moves the offset by six")
pub record Answers (k : Book) (file : List ℕ) (at : ℕ) (r : AfterRead) : Type 0 where
  pub stood : Record
  pub stands : Stands file at stood
  pub moved : r.at ≡ at + length_of stood
  pub applies : Applies k (asks stood) (answered r.book r.number r.value)

-- what read promises: "9; end if the offset equals the length; 11; 10; then the request's own refusals"; `made` follows from the rest, and serves the next call
pub record ReadsRecord (k : Book) (file : List ℕ) (at : ℕ) (r : AfterRead) : Type 0 where
  pub outcome : Table (find_checks file at) (Stays k at) (Answers k file at) r
  pub made : Made r.book
