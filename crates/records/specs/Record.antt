-- A record and its bytes (01, Job file).
-- Assumes nothing.
use Rattle.std.specs.Prelude.{List, [], ◌∷◌, ◌++◌, ◌≡◌, ℕ, ◌+◌, ◌*◌, ◌/◌, ◌%◌, get_or, take, drop}
use Rattle.records.specs.declared.Record.{Record}
use Rattle.records.specs.declared.Record.TheVariants.{Job, Order, Deadline}

-- a 16-bit number as two bytes (01, Job file: "high byte first")
abbrev pub word : ℕ → List ℕ
word value = value / 256 ∷ value % 256 ∷ []

-- the 16-bit number at an offset
abbrev pub word_at : List ℕ → ℕ → ℕ
word_at file at = 256 * get_or file at 0 + get_or file (at + 1) 0

-- the marks `JB`, `OR` and `TG` in ASCII, as 16-bit numbers
abbrev pub JB : ℕ
JB = 0x4a42

abbrev pub OR : ℕ
OR = 0x4f52

abbrev pub TG : ℕ
TG = 0x5447

-- a mark and two fields (01, Job file: "a two-byte ASCII mark and two 16-bit fields")
abbrev pub record_of : ℕ → ℕ → ℕ → List ℕ
record_of mark first second = word mark ++ word first ++ word second

-- the bytes of a record (01, Job file: "`JB` start, deadline; `OR` first, second; `TG` job, deadline")
abbrev pub bytes_of : Record → List ℕ
bytes_of (Job start deadline) = record_of JB start deadline
bytes_of (Order first second) = record_of OR first second
bytes_of (Deadline job deadline) = record_of TG job deadline

-- how many they are (01, Job file: "six bytes in all")
abbrev pub length_of : Record → ℕ
length_of (Job start deadline) = 6
length_of (Order first second) = 6
length_of (Deadline job deadline) = 6

-- the record's bytes stand in the file from the offset on
unfoldable pub Stands : List ℕ → ℕ → Record → Type 0
Stands file at r = take (length_of r) (drop at file) ≡ bytes_of r
