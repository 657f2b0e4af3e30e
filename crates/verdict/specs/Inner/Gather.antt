-- What the two walks over a file promise: one gathers the rows of its list, the other draws the deadlines in.
-- Assumes nothing.
use Rattle.std.specs.Prelude.{Bool, true, false, List, ◌++◌, ◌≡◌, ℕ, ◌+◌, ◌≤◌, ◌<◌, length, Result, Ok, Err, ⊤}
use Rattle.refusal.specs.declared.Refusal.{Refusal}
use Rattle.refusal.specs.Says.{reason_number}
use Rattle.refusal.specs.Table.{Clear, Refuses}
use Rattle.records.specs.declared.Record.{Record}
use Rattle.verdict.specs.Gathered.{Contains, given, start_of, deadline_of, pair_of, drawn_by, drawn, Stray, stray_checks}
use Rattle.verdict.specs.declared.gather.Rows.{Rows}

-- ---- gathered
-- what records give stands in the rows
pub record Holds (records : List Record) (rows : Rows) : Type 0 where
  pub starts : rows.starts ≡ given start_of records
  pub deadlines : rows.deadlines ≡ given deadline_of records
  pub pairs : rows.pairs ≡ given pair_of records

-- room for what a record gives
pub record Room (rows : Rows) : Type 0 where
  pub starts : length rows.starts < 4096
  pub deadlines : length rows.deadlines < 4096
  pub pairs : length rows.pairs + 2 ≤ 8192

-- a record more: what it gives stands behind what the rows held
pub record Enters (told : Record) (from to : Rows) : Type 0 where
  pub starts : to.starts ≡ from.starts ++ start_of told
  pub deadlines : to.deadlines ≡ from.deadlines ++ deadline_of told
  pub pairs : to.pairs ≡ from.pairs ++ pair_of told

-- of the whole file, or what stops it
abbrev pub Ends : List ℕ → List Record → Rows → Result ⊤ Refusal → Type 0
Ends file records rows (Ok x) = Contains file 0 records 255 0 × Holds records rows
Ends file records rows (Err refusal) = Contains file 0 records (reason_number refusal.reason) refusal.value

pub record Gathers (file : List ℕ) (rows : Rows) (r : Result ⊤ Refusal) : Type 0 where
  pub records : List Record
  pub ends : Ends file records rows r

-- ---- drawn in
-- a record's deadline, or nothing changed where it is stray
abbrev pub Drew : Record → List ℕ → List ℕ → Bool → Type 0
Drew told old new true = (Stray (length old) told → ⊥) × (new ≡ drawn_by told old)
Drew told old new false = Stray (length old) told × (new ≡ old)

-- those of every record, or the place of the first that is stray
abbrev pub Draws : List Record → List ℕ → List ℕ → Result ⊤ ℕ → Type 0
Draws records old new (Ok x) = Clear (stray_checks (length old) records) × (new ≡ drawn records old)
Draws records old new (Err place) = Refuses (stray_checks (length old) records) 5 place

-- ---- for those who have gathered: what holds of the records of a file, whatever ends it
abbrev pub ForRecords : List ℕ → (List Record → Type 0) → Type 0
ForRecords file Kind = (records : List Record) (number value : ℕ) → Contains file 0 records number value → Kind records
