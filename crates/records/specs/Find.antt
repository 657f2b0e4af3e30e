-- The record at an offset (01, Job file).
-- Assumes nothing.
use Rattle.std.specs.Prelude.{cond, List, ◌⊎◌, ◌≡◌, ℕ, ◌+◌, ◌<◌, eqb, length, Option, Some, None, Result, Ok, Err}
use Rattle.refusal.specs.declared.Reason.TheVariants.{UnknownMark}
use Rattle.refusal.specs.declared.Refusal.{Refusal}
use Rattle.refusal.specs.Says.{reason_number, refused_by}
use Rattle.refusal.specs.Table.{Checks, check, ◌then◌, Table}
use Rattle.records.specs.declared.Record.{Record}
use Rattle.records.specs.declared.Record.TheVariants.{Job, Order, Deadline}
use Rattle.records.specs.Record.{JB, OR, TG, word_at, Stands}

-- the number and the value of every case, or the record found (01, Code places: "a definition gives this paper's number and values for every case of the enum")
-- the end has no number in 01: it takes 255, which no refusal has, as in the C header
abbrev pub Says : Result (Option Record) Refusal → (ℕ → ℕ → Type 0) → (Record → Type 0) → Type 0
Says (Ok (Some r)) P Q = Q r
Says (Ok None) P Q = P 255 0
Says (Err refusal) P Q = P (reason_number refusal.reason) refusal.value

-- this number and value
abbrev pub Stops : ℕ → ℕ → Result (Option Record) Refusal → Type 0
Stops n v r = Says r (λ number value. (number ≡ n) × (value ≡ v)) (λ told. ⊥)

-- the record that stands at the offset
abbrev pub Shows : List ℕ → ℕ → Result (Option Record) Refusal → Type 0
Shows file at r = Says r (λ number value. ⊥) (Stands file at)

-- a mark of 01 stands at the offset
abbrev pub Marked : List ℕ → ℕ → Type 0
Marked file at = (word_at file at ≡ JB) ⊎ (word_at file at ≡ OR) ⊎ (word_at file at ≡ TG)

-- the record that a mark and two fields make; where the mark is unknown, 10 with a value
abbrev pub record_named : ℕ → ℕ → ℕ → ℕ → Result Record Refusal
record_named mark first second value =
    cond (eqb mark JB) (Ok (Job first second))
    (cond (eqb mark OR) (Ok (Order first second))
    (cond (eqb mark TG) (Ok (Deadline first second)) (Err (refused_by UnknownMark value))))

-- "mark unknown"
abbrev pub mark_check : List ℕ → ℕ → Checks
mark_check file at = check 10 at (Marked file at → ⊥)

-- "9; end if the offset equals the length; 11; 10"; past the end, or fewer than six bytes left, is one fault, since none left has gone before
abbrev pub find_checks : List ℕ → ℕ → Checks
find_checks file at =
    check 9 0 (24576 < length file)
    then check 255 0 (at ≡ length file)
    then check 11 at (length file < at + 6)
    then mark_check file at

-- what record_at promises
pub record Finds (file : List ℕ) (at : ℕ) (r : Result (Option Record) Refusal) : Type 0 where
  pub outcome : Table (find_checks file at) Stops (Shows file at) r
