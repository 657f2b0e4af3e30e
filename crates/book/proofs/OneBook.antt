-- Two readings of one list are alike, and a list has one book.
-- Assumes nothing.
use mathlib.Core.Logic.{⊎_elim}
use mathlib.Core.List.{List}
use mathlib.Core.Path.{◌≡◌, sym, ◌∙◌}
use Prim.Native.Nat.{ℕ, ◌≤◌, ◌<◌}
use native.Mathlib.Omega.{arith}
use lib.ListN.{length, get_or}
use lib.Seq.{ext_get_or}
use Rattle.schedule.specs.Listed.{Listed}
use Rattle.schedule.proofs.Tests.{le_or_lt, same_test}
use Rattle.schedule.proofs.Readings.{reads_one, holds_one}
use Rattle.book.specs.Told.{Book}
use Rattle.sets.specs.Sets.{has}
use Rattle.book.specs.Told.{jobs_of, latest_of, Told}
use Rattle.sets.proofs.Bits.{digits_same}

-- rows that agree below n and are 0 from there on
row_same : (n : ℕ) (x y : List ℕ) → length x ≡ 64 → length y ≡ 64 → ((i : ℕ) → i < n → get_or x i 0 ≡ get_or y i 0) →
    ((i : ℕ) → n ≤ i → get_or x i 0 ≡ 0) → ((i : ℕ) → n ≤ i → get_or y i 0 ≡ 0) → x ≡ y
row_same n x y lx ly h zx zy = ext_get_or 0 x y (lx ∙ sym ly) (λ i l. ⊎_elim (λ le. zx i le ∙ sym (zy i le)) (λ lt. h i lt) (le_or_lt n i))

module _ (L : Listed) (b k : Book) (s : Told b L) (t : Told k L) where
  size_same : b.size ≡ k.size
  size_same = s.holds.reads.size ∙ sym t.holds.reads.size

  start_same : b.start ≡ k.start
  start_same = row_same b.size b.start k.start s.shaped.starts t.shaped.starts
      (λ i l. sym ((reads_one L (jobs_of b) (jobs_of k) s.holds.reads t.holds.reads).starts i l))
      s.shaped.start_rest (λ i l. t.shaped.start_rest i (omega (arith, size_same)))

  latest_same : b.latest ≡ k.latest
  latest_same = row_same b.size b.latest k.latest s.shaped.latests t.shaped.latests
      (holds_one 2 L (jobs_of b) (jobs_of k) (latest_of b) (latest_of k) s.holds t.holds)
      s.shaped.latest_rest (λ i l. t.shaped.latest_rest i (omega (arith, size_same)))

  before_same : b.before ≡ k.before
  before_same = ext_get_or 0 b.before k.before (s.shaped.befores ∙ sym t.shaped.befores)
      (λ j l. digits_same (get_or b.before j 0) (get_or k.before j 0)
      (λ i. same_test (has (get_or b.before j 0) i) (has (get_or k.before j 0) i)
      (λ x. let y = s.shaped.before_rest i j x in
      (t.holds.reads.before i j (omega (arith, size_same)) (omega (arith, size_same))).1 ((s.holds.reads.before i j y.0 y.1).0 x))
      (λ x. let y = t.shaped.before_rest i j x in
      (s.holds.reads.before i j (omega (arith, size_same)) (omega (arith, size_same))).1 ((t.holds.reads.before i j y.0 y.1).0 x))))

  -- a list has one book
  pub told_one : b ≡ k
  told_one = λ i. record { size = size_same i; start = start_same i; latest = latest_same i; before = before_same i }
