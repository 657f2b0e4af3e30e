-- The choice of a job by sets is the plan's.
-- Assumes nothing.
use mathlib.Core.Bool.{Bool, true, false, not, ◌&&◌, ◌||◌}
use mathlib.Core.Path.{◌≡◌, refl, sym, ap₂, subst, ◌∙◌}
use Prim.Native.Nat.{ℕ, ◌<◌}
use native.Mathlib.Omega.{arith}
use lib.Bits.{bit_and}
use lib.Dec.{T, eqb, leb, ltb, eqb→eq, leb→le, le→leb}
use lib.ListN.{get_or}
use Rattle.schedule.specs.Row.{all}
use Rattle.schedule.specs.Make.{choose, ready, taken}
use Rattle.schedule.proofs.Tests.{and_pair, and_fst, and_snd, same_test, eq→eqb, lt_by, Says, itself, says_lt, says_then}
use Rattle.schedule.proofs.Choice.{all_each, each_all}
use Rattle.schedule.proofs.Loop.{choose_ext}
use Rattle.sets.specs.Sets.{has}
use Rattle.book.specs.Told.{Book, jobs_of, latest_of}
use Rattle.plan.specs.Plan.{unplaced}
use Rattle.plan.specs.Inner.Choice.{ready_by}
use Rattle.sets.proofs.Bits.{and_has, has_some, none_is}

-- no job of one set is in the other, as a test of each job
apart_all : (n set undone t : ℕ) (slot_of : ℕ → ℕ) → ((i : ℕ) → i < n → has undone i ≡ leb t (slot_of i)) → ((i : ℕ) → T (has undone i) → i < n) →
    eqb (bit_and set undone) 0 ≡ all n (λ a. not (has set a) || ltb (slot_of a) t)
apart_all n set undone t slot_of late held = same_test (eqb (bit_and set undone) 0) (all n earlier) (λ x. each_all n earlier (to x)) (λ x. eq→eqb (bit_and set undone) 0 (from x))
  where
    earlier : ℕ → Bool
    earlier a = not (has set a) || ltb (slot_of a) t

    says : (a : ℕ) → Says (earlier a) (T (has set a) → slot_of a < t)
    says a = says_then (itself (has set a)) (says_lt (slot_of a) t)

    to : T (eqb (bit_and set undone) 0) → (a : ℕ) → a < n → T (earlier a)
    to x a l = (says a).write (λ y. lt_by (slot_of a) t (λ le.
        has_some (bit_and set undone) a
        (subst T (sym (and_has set undone a)) (and_pair (has set a) (has undone a) y (subst T (sym (late a l)) (le→leb t (slot_of a) le))))
        (eqb→eq (bit_and set undone) 0 x)))

    from : T (all n earlier) → bit_and set undone ≡ 0
    from x = none_is (bit_and set undone) (λ j y.
        let both : T (has set j && has undone j) = subst T (and_has set undone j) y in
        let z : T (has undone j) = and_snd (has set j) (has undone j) both in
        omega (
          arith,
          leb→le t (slot_of j) (subst T (late j (held j z)) z),
          (says j).read (all_each n earlier x j (held j z)) (and_fst (has set j) (has undone j) both),
        ))

-- of three tests the first two may change places
swap_first : (a b c : Bool) → (a && (b && c)) ≡ ((b && a) && c)
swap_first true true c = refl
swap_first true false c = refl
swap_first false true c = refl
swap_first false false c = refl

module _ (k : Book) (t left undone : ℕ) (slot_of : ℕ → ℕ)
    (free : (i : ℕ) → i < k.size → has left i ≡ leb unplaced (slot_of i))
    (late : (i : ℕ) → i < k.size → has undone i ≡ leb t (slot_of i))
    (held : (i : ℕ) → T (has undone i) → i < k.size) where
  pub choice_taken : choose k.size (latest_of k) (ready_by k left undone t) k.size ≡ taken (jobs_of k) (latest_of k) unplaced t slot_of
  unfolding taken ready
  choice_taken = choose_ext k.size (latest_of k) (latest_of k) (ready_by k left undone t) (ready (jobs_of k) unplaced t slot_of) k.size
      (λ i l. refl)
      (λ i l.
      swap_first (has left i) (leb (get_or k.start i 0) t) (eqb (bit_and (get_or k.before i 0) undone) 0)
      ∙ ap₂ (λ x y. leb (get_or k.start i 0) t && x && y) (free i l) (apart_all k.size (get_or k.before i 0) undone t slot_of late held))
