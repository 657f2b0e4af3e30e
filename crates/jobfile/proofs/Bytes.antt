-- The bytes of records one after the other, gathered number by number, and written on.
-- Assumes nothing.
use mathlib.Core.Bool.{true, false}
use mathlib.Core.List.{List, [], ◌∷◌, ◌++◌, append_assoc, append-nil}
use mathlib.Core.Logic.{⊎_elim}
use mathlib.Core.Path.{◌≡◌, refl, sym, ap, ap₂, ◌∙◌}
use Prim.Native.Nat.{ℕ, zero, suc, ◌+◌, ◌*◌, ◌≤◌, ◌<◌}
use native.Mathlib.Nat.{le_refl, add-zero}
use native.Mathlib.Numerals.{add-one}
use native.Mathlib.Omega.{arith}
use lib.ListN.{length, get_or, length-append}
use lib.Seq.{sets, length-sets}
use Rattle.schedule.proofs.Tests.{le_or_lt}
use Rattle.records.specs.declared.Record.{Record}
use Rattle.records.specs.declared.Record.TheVariants.{Order}
use Rattle.records.specs.Record.{bytes_of}
use Rattle.records.proofs.Standing.{bytes_length, length_six}
use Rattle.records.proofs.Stored.{sets_append}
use Rattle.sets.specs.Sets.{has}
use Rattle.jobfile.specs.declared.writer.Written.{Written}
use Rattle.jobfile.specs.Writer.{gather, bytes_of_all, order_record}
use Rattle.jobfile.specs.Inner.Writer.{HasRoom, Continues}

pub all_append : (xs ys : List Record) → bytes_of_all (xs ++ ys) ≡ bytes_of_all xs ++ bytes_of_all ys
unfolding bytes_of_all
all_append [] ys = refl
all_append (r ∷ xs) ys = ap (λ (l : List ℕ). bytes_of r ++ l) (all_append xs ys) ∙ rw append_assoc

pub all_length : (xs : List Record) → length (bytes_of_all xs) ≡ 6 * length xs
unfolding bytes_of_all
all_length [] = refl
all_length (r ∷ xs) = length-append (bytes_of r) (bytes_of_all xs) ∙ omega (arith, bytes_length r, length_six r, all_length xs)

-- one record
pub all_one : (r : Record) → bytes_of_all (r ∷ []) ≡ bytes_of r
unfolding bytes_of_all
all_one r = append-nil (bytes_of r)

module _ {A : Type 0} (f : ℕ → List A) where
  pub gather_more : (n : ℕ) → gather (n + 1) f ≡ gather n f ++ f n
  unfolding gather
  gather_more n = rw add-one

  -- what agrees below n gathers the same there
  pub gather_same : (n : ℕ) (g : ℕ → List A) → ((i : ℕ) → i < n → f i ≡ g i) → gather n f ≡ gather n g
  unfolding gather
  gather_same zero g h = refl
  gather_same (suc n) g h = ap₂ (λ front last. front ++ last) (gather_same n g (λ i l. h i (omega arith))) (h n (omega arith))

  gather_longer : (n m : ℕ) → n ≤ m → length (gather n f) ≤ length (gather m f)
  unfolding gather
  gather_longer n zero h = let e : n ≡ 0 = omega arith in rw e (le_refl 0)
  gather_longer n (suc m) h = ⊎_elim
      (λ le. let e : n ≡ suc m = omega arith in rw e (le_refl (length (gather (suc m) f))))
      (λ lt. omega (arith, gather_longer n m (omega arith), length-append (gather m f) (f m)))
      (le_or_lt (suc m) n)

-- ---- writing on
pub continues_length : {bytes : List ℕ} {a b : Written} → Continues bytes a b → length b.out.now ≡ length a.out.now
continues_length {bytes} {a} c = ap length c.stored ∙ length-sets a.out.now a.at bytes

-- none more, and more behind it
pub continues_none : (a : Written) → Continues (bytes_of_all []) a a
unfolding bytes_of_all
continues_none a = record { stored = refl; next = sym (add-zero a.at); lent = refl }

pub continues_then : {xs ys : List ℕ} {a b c : Written} → Continues xs a b → Continues ys b c → Continues (xs ++ ys) a c
continues_then {xs} {ys} {a} p q = record {
  stored = q.stored ∙ ap₂ (λ l n. sets l n ys) p.stored p.next ∙ sets_append xs ys a.out.now a.at;
  next = omega (arith, p.next, q.next, length-append xs ys);
  lent = q.lent ∙ p.lent;
}

-- ---- record by record: a loop that puts the records of 0, 1, 2..
module _ (f : ℕ → List Record) where
  all_more : (i : ℕ) → bytes_of_all (gather (i + 1) f) ≡ bytes_of_all (gather i f) ++ bytes_of_all (f i)
  all_more i = ap bytes_of_all (gather_more f i) ∙ all_append (gather i f) (f i)

  all_gather : (n : ℕ) → bytes_of_all (gather n f) ≡ gather n (λ i. bytes_of_all (f i))
  unfolding gather bytes_of_all
  all_gather zero = refl
  all_gather (suc n) = all_append (gather n f) (f n) ∙ ap (λ (l : List ℕ). l ++ bytes_of_all (f n)) (all_gather n)

  pub each_none : (a : Written) → Continues (bytes_of_all (gather 0 f)) a a
  unfolding gather
  each_none a = continues_none a

  pub each_next : (i : ℕ) {a b c : Written} → Continues (bytes_of_all (gather i f)) a b → Continues (bytes_of_all (f i)) b c → Continues (bytes_of_all (gather (i + 1) f)) a c
  each_next i p q = rw (all_more i) (continues_then p q)

  -- there is room for the next where there is for all
  pub each_room : (i n : ℕ) {a b : Written} → i < n → HasRoom (bytes_of_all (gather n f)) a → Continues (bytes_of_all (gather i f)) a b → HasRoom (bytes_of_all (f i)) b
  each_room i n l h c =
      let e = ap length (all_more i) ∙ length-append (bytes_of_all (gather i f)) (bytes_of_all (f i)) in
      omega (arith, h, continues_length c, c.next, e, ap length (all_gather (i + 1)), ap length (all_gather n), gather_longer (λ j. bytes_of_all (f j)) (i + 1) n (omega arith))

-- ---- an order, where there is one
module _ (before : List ℕ) (a b : ℕ) where
  pub order_some : has (get_or before b 0) a ≡ true → order_record before a b ≡ Order a b ∷ []
  order_some e = rw e

  pub order_none : has (get_or before b 0) a ≡ false → order_record before a b ≡ []
  order_none e = rw e
