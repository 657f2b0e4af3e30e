-- The parts of a row, and a book one of whose fields changed.
-- Assumes nothing.
use mathlib.Core.List.{List}
use mathlib.Core.Logic.{◌⊎◌, inl, inr}
use mathlib.Core.Path.{◌≡◌, sym, ap, ◌∙◌}
use Prim.Native.Nat.{ℕ, ◌+◌, ◌-◌, ◌≤◌, ◌<◌}
use native.Mathlib.Omega.{arith}
use lib.ListN.{length, get_or, take, drop, set, length-take, length-drop}
use lib.Seq.{take-set-lt, take-set-le, drop-set-add, drop-set-lt, get_or-take, get_or-drop, get_or-set_same, get_or-set_other, ext_get_or}
use Rattle.schedule.proofs.Tests.{le_or_lt}
use Rattle.book.specs.Told.{Book, part, book_in, Shaped}

module _ (from : ℕ) (row : List ℕ) where
  pub part_length : from + 64 ≤ length row → length (part from row) ≡ 64
  unfolding part
  part_length h = simp (length-take, length-drop) (omega arith)

  pub part_at : (i : ℕ) → i < 64 → get_or (part from row) i 0 ≡ get_or row (from + i) 0
  unfolding part
  part_at i h = rw (get_or-take, get_or-drop)

  -- an entry stored in the part, and one stored elsewhere
  pub part_in : (i v : ℕ) → i < 64 → part from (set row (from + i) v) ≡ set (part from row) i v
  unfolding part
  part_in i v h = ap (take 64) (drop-set-add from row i v) ∙ take-set-lt 64 (drop from row) i v h

  pub part_out : (i v : ℕ) → (i < from) ⊎ (from + 64 ≤ i) → part from (set row i v) ≡ part from row
  unfolding part
  part_out i v (inl h) = ap (take 64) (drop-set-lt from row i v h)
  part_out i v (inr h) =
      let e : i ≡ from + (i - from) = omega arith in
      ap (λ (k : ℕ). take 64 (drop from (set row k v))) e ∙ ap (take 64) (drop-set-add from row (i - from) v) ∙ take-set-le 64 (drop from row) (i - from) v (omega arith)

-- a book's rows are whole
pub book_in_long : (times before : List ℕ) → Shaped (book_in times before) → 129 ≤ length times
unfolding part
book_in_long times before s = let e = simp (length-take, length-drop) at s.latests in omega arith

-- ---- one law for each field that changes
abbrev pub with_size : Book → ℕ → Book
with_size k size = record { size = size; start = k.start; latest = k.latest; before = k.before }

abbrev pub with_start : Book → List ℕ → Book
with_start k start = record { size = k.size; start = start; latest = k.latest; before = k.before }

abbrev pub with_latest : Book → List ℕ → Book
with_latest k latest = record { size = k.size; start = k.start; latest = latest; before = k.before }

module _ (times before : List ℕ) (long : 129 ≤ length times) where
  pub book_in_size : (n : ℕ) → book_in (set times 0 n) before ≡ with_size (book_in times before) n
  book_in_size n = λ i. record { size = get_or-set_same times 0 n 0 (omega (arith, long)) i; start = part_out 1 times 0 n (inl (omega arith)) i; latest = part_out 65 times 0 n (inl (omega arith)) i; before = before }

  pub book_in_start : (j v : ℕ) → j < 64 → book_in (set times (1 + j) v) before ≡ with_start (book_in times before) (set (part 1 times) j v)
  book_in_start j v h = λ i. record { size = get_or-set_other times (1 + j) 0 v 0 (λ e. omega arith) i; start = part_in 1 times j v h i; latest = part_out 65 times (1 + j) v (inl (omega arith)) i; before = before }

  pub book_in_late : (j v : ℕ) → j < 64 → book_in (set times (65 + j) v) before ≡ with_latest (book_in times before) (set (part 65 times) j v)
  book_in_late j v h = λ i. record { size = get_or-set_other times (65 + j) 0 v 0 (λ e. omega arith) i; start = part_out 1 times (65 + j) v (inr (omega arith)) i; latest = part_in 65 times j v h i; before = before }

-- ---- a book lies in one way
pub book_in_one : (times row before sets : List ℕ) → length times ≡ 129 → length row ≡ 129 → book_in times before ≡ book_in row sets → (times ≡ row) × (before ≡ sets)
book_in_one times row before sets l m e = (ext_get_or 0 times row (l ∙ sym m) (λ i h. at i (omega (arith, l)) (le_or_lt 1 i) (le_or_lt 65 i)), ap (λ (k : Book). k.before) e)
  where
    entry : (from i : ℕ) → part from times ≡ part from row → from ≤ i → i < from + 64 → get_or times i 0 ≡ get_or row i 0
    entry from i p a b =
        let h : i - from < 64 = omega arith in
        let q : from + (i - from) ≡ i = omega arith in
        rw (← q) (sym (part_at from times (i - from) h) ∙ ap (λ (l : List ℕ). get_or l (i - from) 0) p ∙ part_at from row (i - from) h)

    at : (i : ℕ) → i < 129 → (1 ≤ i) ⊎ (i < 1) → (65 ≤ i) ⊎ (i < 65) → get_or times i 0 ≡ get_or row i 0
    at i h (inr a) b = let z : i ≡ 0 = omega arith in rw z (ap (λ (k : Book). k.size) e)
    at i h (inl a) (inl b) = entry 65 i (ap (λ (k : Book). k.latest) e) b (omega arith)
    at i h (inl a) (inr b) = entry 1 i (ap (λ (k : Book). k.start) e) a (omega arith)
