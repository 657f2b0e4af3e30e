-- A job file as lines that people read and `key` takes: `JB 0 4`.
-- Assumes nothing.
use Rattle.std.specs.Prelude.{cond, List, [], ◌∷◌, ◌++◌, ◌≡◌, ℕ, ◌+◌, ◌≤◌, eqb, length, Result}
use Rattle.std.proofs.lemmas.List.Edits.{sets}
use Rattle.refusal.specs.declared.Refusal.{Refusal}
use Rattle.refusal.specs.Table.{Clear, Refuses}
use Rattle.refusal.specs.Says.{Says}
use Rattle.records.specs.declared.Record.{Record}
use Rattle.records.specs.declared.Record.TheVariants.{Job, Order, Deadline}
use Rattle.records.specs.Record.{length_of, Stands}
use Rattle.records.specs.Find.{find_checks}
use Rattle.text.specs.Text.{word, decimal, joined}

abbrev pub fields_of : ℕ → ℕ → List ℕ
fields_of first second = joined (word " " ∷ decimal first ∷ word " " ∷ decimal second ∷ word "\n" ∷ [])

abbrev pub line_of : Record → List ℕ
line_of (Job start deadline) = word "JB" ++ fields_of start deadline
line_of (Order first second) = word "OR" ++ fields_of first second
line_of (Deadline job deadline) = word "TG" ++ fields_of job deadline

-- the lines of the records from an offset on, up to the end or to what stops it, with its number and value (255 and 0 are the end)
pub data Printed (file : List ℕ) : ℕ → List ℕ → ℕ → ℕ → Type 0 where
  stops : {at n v : ℕ} → Refuses (find_checks file at) n v → Printed file at [] n v
  shows : {at n v : ℕ} {text : List ℕ} (r : Record) → Clear (find_checks file at) → Stands file at r → Printed file (at + length_of r) text n v → Printed file at (line_of r ++ text) n v

-- what lines promises; `within` follows from the rest, and serves the caller: at the end the lines, and the bytes beyond them as they were; at a stop its number and value, and all as it was
pub record Lines (file out : List ℕ) (r : Result ℕ Refusal) (after : List ℕ) : Type 0 where
  pub text : List ℕ
  pub number : ℕ
  pub value : ℕ
  pub printed : Printed file 0 text number value
  pub within : length text ≤ length out
  pub answer : Says r (λ n v. (n ≡ cond (eqb number 255) 0 number) × (v ≡ cond (eqb number 255) (length text) value))
  pub bytes : after ≡ cond (eqb number 255) (sets out 0 text) out
