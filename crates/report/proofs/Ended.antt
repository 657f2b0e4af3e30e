-- What a whole file read tells the listing: why it ended, and the numbers in the bytes lent.
-- Assumes nothing.
use mathlib.Core.List.{List, [], ◌++◌, append-nil}
use mathlib.Core.Logic.{inl, inr, ⊎_elim}
use mathlib.Core.Path.{◌≡◌, ap, ◌∙◌}
use Prim.Native.Nat.{ℕ, zero, suc, ◌+◌, ◌-◌, ◌≤◌, ◌<◌}
use native.Mathlib.Omega.{arith}
use lib.ListN.{length, get_or, drop, replicate, length-append, get_or-append}
use lib.Seq.{get_or-append-add, get_or-drop}
use Rattle.schedule.proofs.Tests.{le_or_lt}
use Rattle.refusal.specs.Table.{Refuses}
use Rattle.planner.specs.declared.requests.Request.{Request}
use Rattle.planner.specs.Requests.{Applied, Applies}
use Rattle.planner.proofs.Outcome.{sound_few, applied_number}
use Rattle.records.specs.Find.{find_checks}
use Rattle.book.specs.Told.{Book, Made}
use Rattle.book.proofs.Empty.{zeros}
use Rattle.jobfile.specs.Reader.{AfterRead, asks}
use Rattle.jobfile.specs.File.{SingleReads, last, more}
use Rattle.jobfile.proofs.Reading.{read_answers, read_stays, read_within}
use Rattle.text.specs.Text.{each}
use Rattle.report.specs.Line.{refused_line}
use Rattle.report.specs.Listing.{refused_lines}
use Rattle.report.proofs.Ends.{each_same}

-- the last read of a file that is not too long
pub record Ending (number value : ℕ) : Type 0 where
  pub no_nine : number ≡ 9 → ⊥
  pub small : number < 1000
  pub low : value ≤ 24576

module _ (file : List ℕ) (fits : length file ≤ 24576) where
  halted : (at n v : ℕ) → at ≤ 24576 → Refuses (find_checks file at) n v → Ending n v
  halted at n v h (inl x) = absurd (omega (arith, x.0))
  halted at n v h (inr (c, inl x)) = record { no_nine = λ e. omega (arith, x.1); small = omega (arith, x.1); low = omega (arith, x.2) }
  halted at n v h (inr (c, inr (d, inl x))) = record { no_nine = λ e. omega (arith, x.1); small = omega (arith, x.1); low = omega (arith, x.2) }
  halted at n v h (inr (c, inr (d, inr (f, x)))) = record { no_nine = λ e. omega (arith, x.1); small = omega (arith, x.1); low = omega (arith, x.2) }

  pub ending : (k : Book) (at : ℕ) (numbers : List ℕ) (r : AfterRead) → Made k → at ≤ 24576 → SingleReads file k at numbers r → Ending r.number r.value
  ending k at numbers r m h (last x f) = halted at _ _ h (read_stays k file at r x m f).1
  ending k at numbers r m h (more {numbers = others} t x f p) =
      let i = read_within k file at t x f in
      ending t.book t.at others r x.made (omega arith) p

-- ---- the numbers
-- no number of a request has more than three digits
applied_small : (k : Book) (q : Request) (r : Applied) → Made k → Applies k q r → r.number < 1000
applied_small = applied_number (λ n. n < 1000) (omega arith) (omega arith) (λ n t. omega (arith, sound_few n t))

pub numbers_small : (file : List ℕ) (k : Book) (at : ℕ) (numbers : List ℕ) (r : AfterRead) → Made k → SingleReads file k at numbers r → (i : ℕ) → get_or numbers i 0 < 1000
numbers_small file k at numbers r m (last x f) i = omega arith
numbers_small file k at numbers r m (more t x f p) zero = let a = (read_answers k file at t x f).1 in applied_small k (asks a.stood) _ m a.applies
numbers_small file k at numbers r m (more {numbers = others} t x f p) (suc i) = numbers_small file t.book t.at others r x.made p i

-- what gives no text adds nothing
each_more : (n m : ℕ) (f : ℕ → List ℕ) → n ≤ m → ((i : ℕ) → n ≤ i → f i ≡ []) → each m f ≡ each n f
unfolding each
each_more n zero f h e = let z : n ≡ 0 = omega arith in rw z
each_more n (suc m) f h e =
    ⊎_elim
    (λ (l : n ≤ m). ap (λ t. each m f ++ t) (e m l) ∙ append-nil (each m f) ∙ each_more n m f l e)
    (λ (l : m < n). let z : n ≡ suc m = omega arith in rw z)
    (le_or_lt n m)

module _ (size : ℕ) (numbers : List ℕ) (few : length numbers ≤ size) where
  row : List ℕ
  row = numbers ++ drop (length numbers) (replicate size 0)

  front : (i : ℕ) → i < length numbers → get_or row i 0 ≡ get_or numbers i 0
  unfolding row
  front i l = get_or-append numbers (drop (length numbers) (replicate size 0)) 0 i l

  beyond : (i : ℕ) → length numbers ≤ i → get_or row i 0 ≡ 0
  unfolding row
  beyond i l =
      let e : i ≡ length numbers + (i - length numbers) = omega arith in
      ap (λ j. get_or row j 0) e ∙ get_or-append-add numbers _ (i - length numbers) 0 ∙ get_or-drop (length numbers) (replicate size 0) (i - length numbers) 0 ∙ zeros size _

  -- bytes that hold the numbers first, and 0 from there on, give the same lines
  pub refused_lines_row : refused_lines (numbers ++ drop (length numbers) (replicate size 0)) ≡ refused_lines numbers
  unfolding row
  refused_lines_row =
      each_more (length numbers) (length row) (λ i. refused_line i (get_or row i 0)) (omega (arith, length-append numbers (drop (length numbers) (replicate size 0)))) (λ i l. ap (refused_line i) (beyond i l))
      ∙ each_same (length numbers) _ _ (λ i l. ap (refused_line i) (front i l))
