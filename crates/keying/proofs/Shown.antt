-- What the reader in the code shows of a page: a word counted in place of kept.
-- Assumes nothing.
use mathlib.Core.Bool.{Bool, true, false, cond, ◌&&◌}
use mathlib.Core.List.{List, [], ◌∷◌, ◌++◌}
use mathlib.Core.Logic.{◌⊎◌, inl, inr}
use mathlib.Core.Path.{◌≡◌, refl, sym, ap, ap₂, ◌∙◌}
use Prim.Native.Nat.{ℕ, ◌+◌, ◌-◌, ◌*◌, ◌≤◌, ◌<◌}
use native.Mathlib.Omega.{arith}
use native.Mathlib.Decide.{dec_le}
use native.Mathlib.Nat.{lt_of_not-le}
use lib.Dec.{eqb, leb, ltb}
use lib.ListN.{length, get_or, length-append}
use borrow.Author.Tests.{le-leb, lt-leb, ne_eqb}
use Rattle.std.specs.Prelude.{Some, None, Result, Ok, Err}
use Rattle.std.specs.Result.{result_ok}
use Rattle.std.proofs.Math.Bool.{and-true, and_assoc}
use Rattle.refusal.specs.declared.Refusal.{Refusal}
use Rattle.records.specs.declared.Record.{Record}
use Rattle.records.specs.Find.{record_named}
use Rattle.keying.specs.Text.{inner, digit, digits, counted, mark, grown_by, field, or_else, first_word, worded, Page, Turn, on, entered, wrong, fresh, grown, finished, ended, turn}
use Rattle.keying.specs.Inner.Machine.{longer, number_with, digits_alone, word_with, word_record, numbered, marked, first_by, entry_more, entry_with, no_word, blank_reader, Turned, reader_grown, reader_finished, reader_taken, reader_turn}
use Rattle.keying.specs.declared.word.Word.{Word}
use Rattle.keying.specs.declared.entry.Entry.{Entry}
use Rattle.keying.specs.declared.entry.Entry.TheVariants.{Empty, Marked, Begun, Whole}
use Rattle.keying.specs.declared.entry.Slip.{Slip}
use Rattle.keying.specs.declared.entry.Slip.TheVariants.{UnknownWord, NotNumber, TooLarge, CommaNumber}
use Rattle.keying.specs.declared.reader.Reader.{Reader}

-- ---- a word
-- its number
abbrev pub capped : Bool → ℕ → Result ℕ Slip
capped all n = cond all (cond (leb n 65535) (Ok n) (Err TooLarge)) (Err NotNumber)

unfoldable pub tally : List ℕ → Result ℕ Slip
tally w = capped (digits w) (counted 0 w)

fits : (n : ℕ) → (n ≤ 65535) ⊎ (65535 < n)
fits n = go (dec_le n 65535)
  where
    go : Dec (n ≤ 65535) → (n ≤ 65535) ⊎ (65535 < n)
    go (yes h) = inl h
    go (no f) = inr (lt_of_not-le f)

digits_with : (w : List ℕ) (b : ℕ) → digits (w ++ (b ∷ [])) ≡ digits w && digit b
unfolding digits
digits_with [] b = and-true (digit b)
digits_with (x ∷ w) b = rw (digits_with w b) (sym (and_assoc (digit x) (digits w) (digit b)))

counted_with : (n : ℕ) (w : List ℕ) (b : ℕ) → counted n (w ++ (b ∷ [])) ≡ 10 * counted n w + (b - 48)
unfolding counted
counted_with n [] b = refl
counted_with n (x ∷ w) b = counted_with (10 * n + (x - 48)) w b

number_shown : (w : List ℕ) (b : ℕ) → number_with (tally w) b ≡ tally (w ++ (b ∷ []))
unfolding tally
number_shown w b = rw (digits_with w b, counted_with 0 w b) (go (digits w) (digit b) (counted 0 w) (b - 48) (fits (counted 0 w)))
  where
    go : (all more : Bool) (n k : ℕ) → (n ≤ 65535) ⊎ (65535 < n) → cond more (longer (capped all n) k) (Err NotNumber) ≡ capped (all && more) (10 * n + k)
    go false false n k h = refl
    go false true n k h = refl
    go true false n k h = refl
    go true true n k (inl h) = simp (le-leb n 65535 h)
    go true true n k (inr h) = simp (lt-leb n 65535 h, lt-leb (10 * n + k) 65535 (omega arith))

-- digits alone, by the number
digits_shown : (w : List ℕ) → digits_alone (tally w) ≡ digits w
unfolding tally
digits_shown w = go (digits w) (leb (counted 0 w) 65535) (counted 0 w)
  where
    go : (all short : Bool) (n : ℕ) → digits_alone (cond all (cond short (Ok n) (Err TooLarge)) (Err NotNumber)) ≡ all
    go false short n = refl
    go true true n = refl
    go true false n = refl

unfoldable pub seen : List ℕ → Word
seen w = record { size = length w; high = get_or w 0 0; low = get_or w 1 0; number = tally w }

no_seen : no_word ≡ seen []
unfolding seen tally digits counted
no_seen = refl

word_shown : (w : List ℕ) (b : ℕ) → word_with (seen w) b ≡ seen (w ++ (b ∷ []))
unfolding seen
word_shown [] x = rw (number_shown [] x)
word_shown (a ∷ []) x = rw (number_shown (a ∷ []) x)
word_shown (a ∷ b ∷ w) x =
    let n = length (a ∷ b ∷ w) in
    let long : length (a ∷ b ∷ (w ++ (x ∷ []))) ≡ n + 1 = simp length-append (omega arith) in
    simp (ne_eqb n 0 (λ e. omega arith), ne_eqb n 1 (λ e. omega arith), number_shown (a ∷ b ∷ w) x, long)

-- ---- an entry
-- a mark, if its two bytes are one
marked_shown : (slip : Slip) (w : List ℕ) → marked slip (word_record (seen w)) ≡ or_else (record_named (mark w) 0 0 0) (Err slip)
unfolding seen mark
marked_shown slip [] = refl
marked_shown slip (a ∷ []) = refl
marked_shown slip (a ∷ b ∷ []) = go (record_named (256 * a + b) 0 0 0)
  where
    go : (named : Result Record Refusal) → marked slip (result_ok named) ≡ or_else named (Err slip)
    go (Ok r) = refl
    go (Err refusal) = refl
marked_shown slip (a ∷ b ∷ c ∷ w) = rw (ne_eqb (length (a ∷ b ∷ c ∷ w)) 2 (λ e. omega arith))

first_shown : (place : ℕ) (w : List ℕ) → first_by place (seen w) ≡ first_word place w
unfolding first_word seen
first_shown place w = rw (digits_shown w) (marked_shown (cond (ltb 1 place && digits w) CommaNumber UnknownWord) w)

field_shown : (e : Entry) (w : List ℕ) → numbered e (tally w) ≡ field e w
unfolding tally field
field_shown e w = go (digits w) (leb (counted 0 w) 65535) (counted 0 w)
  where
    go : (all short : Bool) (n : ℕ) → numbered e (cond all (cond short (Ok n) (Err TooLarge)) (Err NotNumber)) ≡ cond all (cond short (Ok (grown_by e n)) (Err TooLarge)) (Err NotNumber)
    go false short n = refl
    go true true n = refl
    go true false n = refl

entry_shown : (e : Entry) (place : ℕ) (w : List ℕ) → entry_with e place (seen w) ≡ worded place e w
unfolding worded
entry_shown e place [] = unfold seen in refl
entry_shown e place (b ∷ w) =
    let begun : eqb (seen (b ∷ w)).size 0 ≡ false = unfold seen in ne_eqb (length (b ∷ w)) 0 (λ e. omega arith) in
    rw begun (go e)
  where
    go : (e : Entry) → entry_more e place (seen (b ∷ w)) ≡ worded place e (b ∷ w)
    go Empty = first_shown place (b ∷ w)
    go (Marked r) = unfold seen in field_shown (Marked r) (b ∷ w)
    go (Begun r) = unfold seen in field_shown (Begun r) (b ∷ w)
    go (Whole r) = refl

-- ---- a page
unfoldable pub shown : Page → Reader
shown p = record { line = p.line; entry = p.entry; remark = p.remark; partial = p.partial; word = seen p.word }

abbrev pub shown_turn : Turn → Turned
shown_turn (on p) = Ok (shown p, None)
shown_turn (entered p r) = Ok (shown p, Some r)
shown_turn (wrong slip size) = Err (slip, size)

pub fresh_shown : (line entry : ℕ) → blank_reader line entry ≡ shown (fresh line entry)
unfolding shown fresh
fresh_shown line entry = rw no_seen

grown_shown : (p : Page) (b : ℕ) → reader_grown (shown p) b ≡ shown (grown p b)
unfolding shown grown
grown_shown p b = go p.remark refl
  where
    go : (t : Bool) → p.remark ≡ t → cond t (shown p) (record (shown p) { word = word_with (seen p.word) b })
        ≡ shown (cond t p (record { line = p.line; entry = p.entry; remark = false; partial = p.partial; word = p.word ++ (b ∷ []) }))
    go true e = refl
    go false e = rw (word_shown p.word b, e)

finished_shown : (e : Entry) (p : Page) → reader_finished e (shown p) ≡ shown_turn (finished e p)
unfolding finished
finished_shown Empty p = refl
finished_shown (Marked r) p = refl
finished_shown (Begun r) p = refl
finished_shown (Whole r) p = refl

ended_shown : (p : Page) (b : ℕ) (t : Result Entry Slip) → reader_taken (shown p) b t ≡ shown_turn (ended p b t)
unfolding ended shown
ended_shown p b (Err slip) = unfold seen in refl
ended_shown p b (Ok e) = go (eqb b 10) (eqb b 44)
  where
    gap : Page
    gap = record { line = p.line; entry = p.entry; remark = eqb b 35; partial = e; word = [] }

    go : (line comma : Bool)
        → cond line (reader_finished e (blank_reader (p.line + 1) 1))
        (cond comma (reader_finished e (blank_reader p.line (p.entry + 1)))
        (Ok (record { line = p.line; entry = p.entry; remark = eqb b 35; partial = e; word = no_word }, None)))
        ≡ shown_turn (cond line (finished e (fresh (p.line + 1) 1)) (cond comma (finished e (fresh p.line (p.entry + 1))) (on gap)))
    go true comma = rw (fresh_shown (p.line + 1) 1) (finished_shown e (fresh (p.line + 1) 1))
    go false true = rw (fresh_shown p.line (p.entry + 1)) (finished_shown e (fresh p.line (p.entry + 1)))
    go false false = rw no_seen

pub turn_shown : (p : Page) (b : ℕ) → reader_turn (shown p) b ≡ shown_turn (turn p b)
unfolding turn shown
turn_shown p b =
    ap₂ (λ x y. cond (inner p.remark b) (Ok (x, None)) y) (grown_shown p b)
    (ap (reader_taken (shown p) b) (entry_shown p.partial p.entry p.word) ∙ ended_shown p b (worded p.entry p.partial p.word))
    ∙ go (inner p.remark b) (grown p b) (ended p b (worded p.entry p.partial p.word))
  where
    go : (t : Bool) (q : Page) (u : Turn) → cond t (Ok (shown q, None)) (shown_turn u) ≡ shown_turn (cond t (on q) u)
    go true q u = refl
    go false q u = refl

-- what a page shows of its counts
pub shown_counts : (p : Page) → ((shown p).line ≡ p.line) × ((shown p).entry ≡ p.entry) × ((shown p).word.size ≡ length p.word)
unfolding shown seen
shown_counts p = (refl, refl, refl)
