-- What a keyed text means: the job file that it tells, and its first mistake.
-- A text is lines, a line is entries parted by commas, an entry is words parted by blanks; `#` begins a remark that ends with its line.
-- Assumes nothing.
use Rattle.std.specs.Prelude.{Bool, true, false, cond, not, ◌&&◌, ◌||◌, List, [], ◌∷◌, ◌++◌, ℕ, ◌+◌, ◌-◌, ◌*◌, eqb, leb, ltb, length, get_or, drop, Result, Ok, Err}
use Rattle.refusal.specs.declared.Refusal.{Refusal}
use Rattle.records.specs.declared.Record.{Record}
use Rattle.records.specs.declared.Record.TheVariants.{Job, Order, Deadline}
use Rattle.records.specs.Record.{bytes_of, length_of}
use Rattle.records.specs.Find.{record_named}
use Rattle.keying.specs.declared.entry.Slip.{Slip}
use Rattle.keying.specs.declared.entry.Slip.TheVariants.{UnknownWord, MissingField, ExtraField, NotNumber, TooLarge, TooMany, CommaNumber}
use Rattle.keying.specs.declared.entry.Entry.{Entry}
use Rattle.keying.specs.declared.entry.Entry.TheVariants.{Empty, Marked, Begun, Whole}
use Rattle.keying.specs.Slip.{slip_number}

-- ---- bytes and words
-- a space, a tab, or a carriage return
abbrev pub blank : ℕ → Bool
blank b = eqb b 32 || eqb b 9 || eqb b 13

-- part of a word or of a remark: no newline, and outside a remark no comma, no `#` and no blank
abbrev pub inner : Bool → ℕ → Bool
inner remark b = cond (eqb b 10) false (cond remark true (cond (eqb b 44) false (cond (eqb b 35) false (not (blank b)))))

-- `0` to `9`
abbrev pub digit : ℕ → Bool
digit b = leb 48 b && leb b 57

unfoldable pub digits : List ℕ → Bool
digits [] = true
digits (b ∷ word) = digit b && digits word

-- the number n with more digits after it
unfoldable pub counted : ℕ → List ℕ → ℕ
counted n [] = n
counted n (b ∷ word) = counted (10 * n + (b - 48)) word

-- a word of two bytes as a mark, high byte first, and 0 for any other word
unfoldable pub mark : List ℕ → ℕ
mark [] = 0
mark (a ∷ []) = 0
mark (a ∷ b ∷ []) = 256 * a + b
mark (a ∷ b ∷ c ∷ word) = 0

-- ---- an entry, word by word: empty, with its mark, with its first field, whole; the record that it tells so far, with 0 for a field to come
abbrev pub set_first : Record → ℕ → Record
set_first (Job a b) n = Job n b
set_first (Order a b) n = Order n b
set_first (Deadline a b) n = Deadline n b

abbrev pub set_second : Record → ℕ → Record
set_second (Job a b) n = Job a n
set_second (Order a b) n = Order a n
set_second (Deadline a b) n = Deadline a n

-- one field more
abbrev pub grown_by : Entry → ℕ → Entry
grown_by (Marked r) n = Begun (set_first r n)
grown_by (Begun r) n = Whole (set_second r n)
grown_by Empty n = Empty
grown_by (Whole r) n = Whole r

-- a field is a number of 16 bits (01, Numbers and limits: "All fields arrive as 16-bit numbers")
unfoldable pub field : Entry → List ℕ → Result Entry Slip
field e word = cond (digits word) (cond (leb (counted 0 word) 65535) (Ok (grown_by e (counted 0 word))) (Err TooLarge)) (Err NotNumber)

-- a record by its mark, or else
abbrev pub or_else : Result Record Refusal → Result Entry Slip → Result Entry Slip
or_else (Ok r) other = Ok (Marked r)
or_else (Err refusal) other = other

-- the first word is a mark of 01; digits alone, behind a comma, are a number that was keyed with a comma in it
unfoldable pub first_word : ℕ → List ℕ → Result Entry Slip
first_word place word = or_else (record_named (mark word) 0 0 0) (Err (cond (ltb 1 place && digits word) CommaNumber UnknownWord))

-- the entry at a place of its line, with a word more, or what is wrong with the word
unfoldable pub worded : ℕ → Entry → List ℕ → Result Entry Slip
worded place e [] = Ok e
worded place Empty (b ∷ word) = first_word place (b ∷ word)
worded place (Marked r) (b ∷ word) = field (Marked r) (b ∷ word)
worded place (Begun r) (b ∷ word) = field (Begun r) (b ∷ word)
worded place (Whole r) (b ∷ word) = Err ExtraField

-- ---- a page: where a reader stands
-- the line; the entry of the line, both counted from 1; within a remark or not; the entry so far, and the word under way
pub record Page : Type 0 where
  pub line : ℕ
  pub entry : ℕ
  pub remark : Bool
  pub partial : Entry
  pub word : List ℕ

-- the start of an entry
unfoldable pub fresh : ℕ → ℕ → Page
fresh line entry = record { line = line; entry = entry; remark = false; partial = Empty; word = [] }

-- what a byte does: the reader goes on; an entry ended, with its record; a mistake, with the size of the word that is wrong, and 0 where none is
pub data Turn : Type 0 where
  on : Page → Turn
  entered : Page → Record → Turn
  wrong : Slip → ℕ → Turn

-- a byte of a word, or of a remark
unfoldable pub grown : Page → ℕ → Page
grown p b = cond p.remark p (record { line = p.line; entry = p.entry; remark = false; partial = p.partial; word = p.word ++ (b ∷ []) })

-- the end of an entry: it has no word, or three
unfoldable pub finished : Entry → Page → Turn
finished Empty next = on next
finished (Marked r) next = wrong MissingField 0
finished (Begun r) next = wrong MissingField 0
finished (Whole r) next = entered next r

-- a word ended: newline; comma; else `#` or a blank
unfoldable pub ended : Page → ℕ → Result Entry Slip → Turn
ended p b (Err slip) = wrong slip (length p.word)
ended p b (Ok e) =
    cond (eqb b 10) (finished e (fresh (p.line + 1) 1))
    (cond (eqb b 44) (finished e (fresh p.line (p.entry + 1)))
    (on (record { line = p.line; entry = p.entry; remark = eqb b 35; partial = e; word = [] })))

unfoldable pub turn : Page → ℕ → Turn
turn p b = cond (inner p.remark b) (on (grown p b)) (ended p b (worded p.entry p.partial p.word))

-- ---- a whole text
-- no mistake; or its line, its entry, its number, where the word that is wrong stands in the text, and the word's size
pub data Ending : Type 0 where
  complete : Ending
  mistake : (line entry number start size : ℕ) → Ending

-- the bytes of the records before the ending
pub record Meaning : Type 0 where
  pub file : List ℕ
  pub ending : Ending

unfoldable pub stopped : List ℕ → Page → Slip → ℕ → ℕ → Meaning
stopped done p slip start size = record { file = done; ending = mistake p.line p.entry (slip_number slip) start size }

-- what follows from a byte at a place (01, Numbers and limits: "A job file holds at most 24,576 bytes")
unfoldable pub heard : List ℕ → Page → ℕ → Turn → (List ℕ → Page → Meaning) → Meaning
heard done p i (on q) next = next done q
heard done p i (entered q r) next = cond (leb (length done + length_of r) 24576) (next (done ++ bytes_of r) q) (stopped done p TooMany i 0)
heard done p i (wrong slip size) next = stopped done p slip (i - size) size

-- the bytes found already, then those of the rest, which begins at a place
unfoldable pub read : List ℕ → Page → ℕ → List ℕ → Meaning
read done p i [] = record { file = done; ending = complete }
read done p i (b ∷ rest) = heard done p i (turn p b) (λ more q. read more q (i + 1) rest)

-- past a byte order mark
unfoldable pub begin : List ℕ → ℕ
begin text = cond (eqb (get_or text 0 10) 0xEF && eqb (get_or text 1 10) 0xBB && eqb (get_or text 2 10) 0xBF) 3 0

-- the end of the text ends its last line
unfoldable pub meaning : List ℕ → Meaning
meaning text = read [] (fresh 1 1) (begin text) (drop (begin text) (text ++ (10 ∷ [])))
