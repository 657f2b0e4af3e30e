-- The verdict on a job file: how late its list is, and how short a plan of it can be (02, A2).
-- Assumes nothing.
use Rattle.std.specs.Prelude.{cond, List, ◌++◌, ◌≡◌, ℕ, ◌≤◌, eqb, ℤ, length, drop}
use Rattle.refusal.specs.Table.{Table, check}
use Rattle.records.specs.declared.Record.{Record}
use Rattle.planner.specs.Late.{Latens, Shortens}
use Rattle.report.specs.Line.{refused_line}
use Rattle.verdict.specs.Gathered.{Contains, starts_of, deadlines_of, pairs_of, stray_checks}
use Rattle.verdict.specs.Line.{late_line, short_line, turned_down_line, stop_line}

-- the lines of a list: from the number, 0 for accepted, and the value that each of the two calls answers to it
pub record Weighs (starts deadlines pairs text : List ℕ) : Type 0 where
  pub number : ℕ
  pub value : ℤ
  pub late : Latens starts deadlines pairs number value
  pub other : ℕ
  pub end : ℕ
  pub short : Shortens starts deadlines pairs other end
  pub told : text ≡ cond (eqb number 0) (late_line (length starts) value ++ short_line other end) (turned_down_line number value)

-- of records: the line of the first `TG` of a job that they have not, or those of the list that they are together
abbrev pub Together : List Record → List ℕ → Type 0
Together records =
    Table
    (stray_checks (length (starts_of records)) records)
    (λ n v text. text ≡ refused_line v n)
    (Weighs (starts_of records) (deadlines_of records) (pairs_of records))

-- of a file: the line of what stops it, or those of its records; 255 is its end
pub record Verdict (file text : List ℕ) : Type 0 where
  pub records : List Record
  pub number : ℕ
  pub value : ℕ
  pub contains : Contains file 0 records number value
  pub told : Table (check number value (number ≡ 255 → ⊥)) (λ n v text. text ≡ stop_line n v) (Together records) text

-- a text of some kind stands at the front of the bytes lent, those beyond it stay, and the answer is its length
pub record Writes (Kind : List ℕ → Type 0) (old new : List ℕ) (r : ℕ) : Type 0 where
  pub text : List ℕ
  pub kind : Kind text
  pub bytes : new ≡ text ++ drop (length text) old
  pub answer : r ≡ length text
  pub within : r ≤ length new

-- what verdict promises
abbrev pub Verdicts : List ℕ → List ℕ → List ℕ → ℕ → Type 0
Verdicts file = Writes (Verdict file)
