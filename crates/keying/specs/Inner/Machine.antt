-- The reader of a text with a word counted in place of kept.
-- Assumes nothing.
use Rattle.std.specs.Prelude.{Bool, true, false, cond, not, ◌&&◌, ℕ, ◌+◌, ◌-◌, ◌*◌, ◌^◌, ◌<◌, eqb, leb, ltb, Option, Some, None, Result, Ok, Err}
use Rattle.std.specs.Result.{result_ok}
use Rattle.records.specs.declared.Record.{Record}
use Rattle.records.specs.Find.{record_named}
use Rattle.keying.specs.Slip.{slip_number}
use Rattle.keying.specs.Text.{digit, inner, grown_by}
use Rattle.keying.specs.declared.word.Word.{Word}
use Rattle.keying.specs.declared.entry.Entry.{Entry}
use Rattle.keying.specs.declared.entry.Entry.TheVariants.{Empty, Marked, Begun, Whole}
use Rattle.keying.specs.declared.entry.Slip.{Slip}
use Rattle.keying.specs.declared.entry.Slip.TheVariants.{UnknownWord, MissingField, ExtraField, NotNumber, TooLarge, CommaNumber}
use Rattle.keying.specs.declared.reader.Reader.{Reader}

-- a number with one digit more
abbrev pub longer : Result ℕ Slip → ℕ → Result ℕ Slip
longer (Ok n) digit = cond (leb (10 * n + digit) 65535) (Ok (10 * n + digit)) (Err TooLarge)
longer (Err slip) digit = Err slip

abbrev pub number_with : Result ℕ Slip → ℕ → Result ℕ Slip
number_with n b = cond (digit b) (longer n (b - 48)) (Err NotNumber)

-- no byte was anything but a digit
abbrev pub digits_alone : Result ℕ Slip → Bool
digits_alone (Ok n) = true
digits_alone (Err slip) = not (eqb (slip_number slip) 4)

abbrev pub word_with : Word → ℕ → Word
word_with w b =
    cond (eqb w.size 0) (record { size = 1; high = b; low = 0; number = number_with w.number b })
    (cond (eqb w.size 1) (record { size = 2; high = w.high; low = b; number = number_with w.number b })
    (record { size = w.size + 1; high = w.high; low = w.low; number = number_with w.number b }))

-- the record by its mark
abbrev pub word_record : Word → Option Record
word_record w = cond (eqb w.size 2) (result_ok (record_named (256 * w.high + w.low) 0 0 0)) None

-- a field by its number
abbrev pub numbered : Entry → Result ℕ Slip → Result Entry Slip
numbered e (Ok n) = Ok (grown_by e n)
numbered e (Err slip) = Err slip

-- the first word: a mark, or what is wrong with it
abbrev pub marked : Slip → Option Record → Result Entry Slip
marked slip (Some r) = Ok (Marked r)
marked slip None = Err slip

abbrev pub first_by : ℕ → Word → Result Entry Slip
first_by place w = marked (cond (ltb 1 place && digits_alone w.number) CommaNumber UnknownWord) (word_record w)

abbrev pub entry_more : Entry → ℕ → Word → Result Entry Slip
entry_more Empty place w = first_by place w
entry_more (Marked r) place w = numbered (Marked r) w.number
entry_more (Begun r) place w = numbered (Begun r) w.number
entry_more (Whole r) place w = Err ExtraField

abbrev pub entry_with : Entry → ℕ → Word → Result Entry Slip
entry_with e place w = cond (eqb w.size 0) (Ok e) (entry_more e place w)

abbrev pub no_word : Word
no_word = record { size = 0; high = 0; low = 0; number = Ok 0 }

abbrev pub blank_reader : ℕ → ℕ → Reader
blank_reader line entry = record { line = line; entry = entry; remark = false; partial = Empty; word = no_word }

-- where the reader stands after a byte, and the record of an entry that ended; or what is wrong, with the size of the word that is wrong
abbrev pub Turned : Type 0
Turned = Result (Reader × Option Record) (Slip × ℕ)

abbrev pub reader_grown : Reader → ℕ → Reader
reader_grown r b = cond r.remark r (record r { word = word_with r.word b })

abbrev pub reader_finished : Entry → Reader → Turned
reader_finished Empty next = Ok (next, None)
reader_finished (Marked r) next = Err (MissingField, 0)
reader_finished (Begun r) next = Err (MissingField, 0)
reader_finished (Whole r) next = Ok (next, Some r)

abbrev pub reader_ended : Reader → Entry → ℕ → Turned
reader_ended r e b =
    cond (eqb b 10) (reader_finished e (blank_reader (r.line + 1) 1))
    (cond (eqb b 44) (reader_finished e (blank_reader r.line (r.entry + 1)))
    (Ok (record { line = r.line; entry = r.entry; remark = eqb b 35; partial = e; word = no_word }, None)))

abbrev pub reader_taken : Reader → ℕ → Result Entry Slip → Turned
reader_taken r b (Err slip) = Err (slip, r.word.size)
reader_taken r b (Ok e) = reader_ended r e b

abbrev pub reader_turn : Reader → ℕ → Turned
reader_turn r b = cond (inner r.remark b) (Ok (reader_grown r b, None)) (reader_taken r b (entry_with r.partial r.entry r.word))

-- what is counted can go up by one
pub record Counts (r : Reader) : Type 0 where
  pub line : r.line + 1 < 2 ^ 64
  pub entry : r.entry + 1 < 2 ^ 64
  pub size : r.word.size + 1 < 2 ^ 64
