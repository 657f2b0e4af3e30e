-- A record's bytes: how many, whose, and where they stand.
-- Assumes nothing.
use mathlib.Core.List.{List, ◌++◌, append_assoc}
use mathlib.Core.Logic.{inl, inr}
use mathlib.Core.Path.{◌≡◌, refl, sym, ap, ap₂, ◌∙◌}
use Prim.Native.Nat.{ℕ, suc, ◌+◌, ◌*◌, ◌/◌, ◌%◌, ◌≤◌, ◌<◌}
use native.Mathlib.Nat.{add-zero}
use native.Mathlib.Omega.{arith}
use lib.ListN.{length, get_or, take, drop, length-take, length-drop}
use lib.Seq.{sets, sets-eq, get_or-take, get_or-drop, take_at, drop-cons, drop-append_seam, length-take-le}
use Rattle.records.specs.declared.Record.{Record}
use Rattle.records.specs.declared.Record.TheVariants.{Job, Order, Deadline}
use Rattle.records.specs.Record.{JB, OR, TG, word, word_at, record_of, bytes_of, length_of, Stands}
use Rattle.records.specs.Find.{Marked}

-- ---- the bytes
pub length_six : (r : Record) → length_of r ≡ 6
length_six (Job a b) = refl
length_six (Order a b) = refl
length_six (Deadline a b) = refl

pub bytes_length : (r : Record) → length (bytes_of r) ≡ length_of r
bytes_length (Job a b) = refl
bytes_length (Order a b) = refl
bytes_length (Deadline a b) = refl

-- a number by its two bytes
word_back : (n : ℕ) → 256 * (n / 256) + n % 256 ≡ n
word_back n = omega arith

-- the mark of a record, and its two fields
abbrev pub mark_of : Record → ℕ
mark_of (Job a b) = JB
mark_of (Order a b) = OR
mark_of (Deadline a b) = TG

abbrev pub first_field : Record → ℕ
first_field (Job a b) = a
first_field (Order a b) = a
first_field (Deadline a b) = a

abbrev pub second_field : Record → ℕ
second_field (Job a b) = b
second_field (Order a b) = b
second_field (Deadline a b) = b

bytes_are : (r : Record) → bytes_of r ≡ record_of (mark_of r) (first_field r) (second_field r)
bytes_are (Job a b) = refl
bytes_are (Order a b) = refl
bytes_are (Deadline a b) = refl

-- the words that bytes of a record spell
words_of : (r : Record) → (word_at (bytes_of r) 0 ≡ mark_of r) × (word_at (bytes_of r) 2 ≡ first_field r) × (word_at (bytes_of r) 4 ≡ second_field r)
words_of r = rw (bytes_are r) (word_back (mark_of r), word_back (first_field r), word_back (second_field r))

-- one record by its mark and fields
by_words : (r s : Record) → mark_of r ≡ mark_of s → first_field r ≡ first_field s → second_field r ≡ second_field s → r ≡ s
by_words (Job a b) (Job c d) e f g = rw (f, g)
by_words (Job a b) (Order c d) e f g = absurd (omega arith)
by_words (Job a b) (Deadline c d) e f g = absurd (omega arith)
by_words (Order a b) (Job c d) e f g = absurd (omega arith)
by_words (Order a b) (Order c d) e f g = rw (f, g)
by_words (Order a b) (Deadline c d) e f g = absurd (omega arith)
by_words (Deadline a b) (Job c d) e f g = absurd (omega arith)
by_words (Deadline a b) (Order c d) e f g = absurd (omega arith)
by_words (Deadline a b) (Deadline c d) e f g = rw (f, g)

pub bytes_one : (r s : Record) → bytes_of r ≡ bytes_of s → r ≡ s
bytes_one r s e =
    let x = words_of r in
    let y = words_of s in
    by_words r s
    (sym x.0 ∙ ap (λ l. word_at l 0) e ∙ y.0)
    (sym x.1 ∙ ap (λ l. word_at l 2) e ∙ y.1)
    (sym x.2 ∙ ap (λ l. word_at l 4) e ∙ y.2)

-- ---- where they stand
module _ (file : List ℕ) (at : ℕ) where
  -- one record at most stands at an offset
  pub stands_one : (r s : Record) → Stands file at r → Stands file at s → r ≡ s
  unfolding Stands
  stands_one r s x y = bytes_one r s (sym (rw (length_six r) at x) ∙ (rw (length_six s) at y))

  -- and is whole
  pub stands_within : (r : Record) → Stands file at r → at + length_of r ≤ length file
  unfolding Stands
  stands_within r x = omega (arith, length_six r, bytes_length r, simp (length-take, length-drop) at (ap length x))

  taken : (n i : ℕ) → i < n → get_or (take n (drop at file)) i 0 ≡ get_or file (at + i) 0
  taken n i h = get_or-take n (drop at file) i 0 h ∙ get_or-drop at file i 0

  -- its fields are 16-bit numbers
  pub stands_fields : (r : Record) → ((i : ℕ) → get_or file i 0 < 256) → Stands file at r → (first_field r < 65536) × (second_field r < 65536)
  unfolding Stands
  stands_fields r small x =
      let e = rw (length_six r) at x ∙ bytes_are r in
      (omega (arith, taken 6 2 (omega arith), small (at + 2), ap (λ l. get_or l 2 0) e), omega (arith, taken 6 4 (omega arith), small (at + 4), ap (λ l. get_or l 4 0) e))

  -- with its mark
  pub stands_mark : (r : Record) → Stands file at r → word_at file at ≡ mark_of r
  unfolding Stands
  stands_mark r x =
      let e = rw (length_six r) at x in
      let first : get_or file (at + 0) 0 ≡ get_or file at 0 = ap (λ i. get_or file i 0) (add-zero at) in
      omega (arith, taken 6 0 (omega arith), taken 6 1 (omega arith), ap (λ l. get_or l 0 0) e, ap (λ l. get_or l 1 0) e, (words_of r).0)

  pub stands_marked : (r : Record) → Stands file at r → Marked file at
  stands_marked (Job a b) x = inl (stands_mark (Job a b) x)
  stands_marked (Order a b) x = inr (inl (stands_mark (Order a b) x))
  stands_marked (Deadline a b) x = inr (inr (stands_mark (Deadline a b) x))

-- ---- by the words there
two_bytes : (file : List ℕ) (at k : ℕ) → at + 2 ≤ length file → get_or file (at + 1) 0 < 256 → take (suc (suc k)) (drop at file) ≡ word (word_at file at) ++ take k (drop (at + 2) file)
two_bytes file at k h small =
    let high : (256 * get_or file at 0 + get_or file (at + 1) 0) / 256 ≡ get_or file at 0 = omega arith in
    let low : (256 * get_or file at 0 + get_or file (at + 1) 0) % 256 ≡ get_or file (at + 1) 0 = omega arith in
    let second : at + 1 ≡ suc at = omega arith in
    let third : at + 2 ≡ suc (suc at) = omega arith in
    let one : at < length file = omega arith in
    let two : suc at < length file = omega arith in
    rw (high, low, third, second, drop-cons file at 0, drop-cons file (suc at) 0)

pub stands_by : (file : List ℕ) (at : ℕ) (r : Record) → at + 6 ≤ length file → ((i : ℕ) → get_or file i 0 < 256) →
    word_at file at ≡ mark_of r → word_at file (at + 2) ≡ first_field r → word_at file (at + 4) ≡ second_field r → Stands file at r
unfolding Stands
stands_by file at r h small e f g =
    let four : at + 2 + 2 ≡ at + 4 = omega arith in
    let six : at + 4 + 2 ≡ at + 6 = omega arith in
    ap (λ n. take n (drop at file)) (length_six r)
    ∙ two_bytes file at 4 (omega arith) (small (at + 1))
    ∙ ap₂ (λ m l. word m ++ l) e
    (two_bytes file (at + 2) 2 (omega arith) (small (at + 2 + 1))
    ∙ ap₂ (λ m l. word m ++ l) f (rw four (two_bytes file (at + 4) 0 (omega arith) (small (at + 4 + 1)) ∙ ap word g)))
    ∙ sym (bytes_are r)

-- ---- where bytes are known
pub stands_here : (before after : List ℕ) (r : Record) → Stands (before ++ bytes_of r ++ after) (length before) r
unfolding Stands
stands_here before after r =
    ap (λ l. take (length_of r) (drop (length before) l)) (append_assoc before (bytes_of r) after)
    ∙ ap (take (length_of r)) (drop-append_seam before (bytes_of r ++ after)) ∙ take_at (bytes_of r) after (length_of r) (bytes_length r)

-- what is read at an offset depends on the bytes from there on, as many as the record takes
pub stands_same : (file file' : List ℕ) (at at' : ℕ) (r : Record) → take (length_of r) (drop at file) ≡ take (length_of r) (drop at' file') → Stands file at r → Stands file' at' r
unfolding Stands
stands_same file file' at at' r e x = sym e ∙ x

pub stands_stored : (out : List ℕ) (at : ℕ) (r : Record) → at + length_of r ≤ length out → Stands (sets out at (bytes_of r)) at r
stands_stored out at r h =
    let fits : at + length (bytes_of r) ≤ length out = omega (arith, bytes_length r) in
    let long : length (take at out) ≡ at = length-take-le at out (omega arith) in
    rw (sets-eq (bytes_of r) out at fits) (rw long at (stands_here (take at out) (drop (at + length (bytes_of r)) out) r))
