-- What the walks over a text and over a job file promise.
-- Assumes nothing.
use Rattle.std.specs.Prelude.{List, [], ◌∷◌, ◌++◌, ◌≡◌, ℕ, ◌+◌, ◌-◌, ◌≤◌, length, Result, Ok, Err}
use Rattle.refusal.specs.declared.Refusal.{Refusal}
use Rattle.refusal.specs.Says.{reason_number}
use Rattle.records.specs.declared.Record.{Record}
use Rattle.records.specs.Record.{bytes_of, length_of}
use Rattle.keying.specs.Text.{meaning}
use Rattle.keying.specs.Keys.{Answers}
use Rattle.keying.specs.Lines.{line_of, Printed}
use Rattle.keying.specs.declared.entry.Slip.{Slip}
use Rattle.keying.specs.declared.reader.Reader.{Reader}
use Rattle.keying.specs.declared.keyed.Mistake.{Mistake}

-- a mistake where a reader stands before a byte, behind a word of this size
abbrev pub mistake_at : Reader → Slip → ℕ → ℕ → Mistake
mistake_at r slip i size = record { line = r.line; entry = r.entry; slip = slip; start = i - size; size = size }

-- records told one after the other, each with the place of its bytes in the file
abbrev pub Calls : {F : Type 0} → (F → ℕ → Record → F → Type 0) → F → ℕ → List Record → F → Type 0
Calls call f at [] g = f ≡ g
Calls call f at (r ∷ more) g = (h : _) × call f at r h × Calls call h (at + length_of r) more g

-- their bytes
abbrev pub joined : List Record → List ℕ
joined [] = []
joined (r ∷ more) = bytes_of r ++ joined more

-- the answer; and the records up to the end or the first mistake are told
pub record Walks {F : Type 0} (text : List ℕ) (call : F → ℕ → Record → F → Type 0) (f : F) (r : Result ℕ Mistake) (g : F) : Type 0 where
  pub told : List Record
  pub file : (meaning text).file ≡ joined told
  pub answer : Answers (meaning text) r
  pub calls : Calls call f 0 told g

-- the lines of records, one behind the other
abbrev pub lines_of : List Record → List ℕ
lines_of [] = []
lines_of (r ∷ more) = line_of r ++ lines_of more

-- the number and value of the end, and of what stops a walk over a job file
abbrev pub Ended : Result (Unit {0}) Refusal → ℕ → ℕ → Type 0
Ended (Ok done) number value = (number ≡ 255) × (value ≡ 0)
Ended (Err refusal) number value = (number ≡ reason_number refusal.reason) × (value ≡ refusal.value)

-- the records of a job file up to its end or what stops it are told
pub record Reads {F : Type 0} (file : List ℕ) (call : F → Record → F → Type 0) (f : F) (r : Result (Unit {0}) Refusal) (g : F) : Type 0 where
  pub told : List Record
  pub number : ℕ
  pub value : ℕ
  pub printed : Printed file 0 (lines_of told) number value
  pub within : length (lines_of told) ≤ 61440
  pub answer : Ended r number value
  pub calls : Calls (λ f at r g. call f r g) f 0 told g
