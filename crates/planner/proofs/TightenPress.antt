-- N by sets, and the walk over the s that are tried.
-- Assumes nothing.
use mathlib.Core.Bool.{Bool, true, false, not, ◌&&◌, ◌||◌}
use mathlib.Core.List.{List, ◌∷◌}
use mathlib.Core.Logic.{◌⊎◌, inl, inr, ⊎_elim}
use mathlib.Core.Path.{◌≡◌, refl, sym, ap, ap₂, ◌∙◌}
use Prim.Native.Nat.{ℕ, ◌+◌, ◌-◌, ◌*◌, ◌≤◌, ◌<◌, min}
use native.Mathlib.Nat.{le_refl}
use native.Mathlib.Omega.{arith}
use borrow.Author.Tests.{lt-ltb, le-ltb, le-leb, lt-leb}
use lib.Dec.{eqb, ltb, leb}
use lib.ListN.{length, get_or, take, drop}
use Rattle.std.proofs.lemmas.List.{get_or-drop, drop-drop, length-drop, take_all}
use Rattle.schedule.specs.Count.{count}
use Rattle.schedule.specs.Jobs.{Jobs}
use Rattle.schedule.specs.Times.{N, presses}
use Rattle.schedule.proofs.Tests.{le_or_lt}
use Rattle.schedule.proofs.Round.{room_falls}
use Rattle.schedule.proofs.Press.{N_mono, N_bound}
use Rattle.sets.specs.Sets.{has}
use Rattle.planner.specs.declared.tighten.Due.{Due}
use Rattle.planner.specs.declared.tighten.tables.Tables.{Tables}
use Rattle.planner.specs.Inner.Tighten.Tables.{Levels}
use Rattle.planner.specs.Inner.Tighten.Rule.{pressed, At, Pressure}
use Rattle.sets.proofs.Bits.{count_cut}

turned : (x y n : Bool) → ((x && y) && n) ≡ ((n && x) && y)
turned true true true = refl
turned true true false = refl
turned true false true = refl
turned true false false = refl
turned false y true = refl
turned false y false = refl

-- ---- two rows of 65, walked side by side from entry k on
pub record Walked (t : Tables) (k : ℕ) (times late : List ℕ) : Type 0 where
  pub of_times : times ≡ drop k t.times.now
  pub of_late : late ≡ drop k t.late.now

from_on : (k : ℕ) (xs : List ℕ) → length xs ≡ 65 → take (65 - k) (drop k xs) ≡ drop k xs
from_on k xs long = take_all (65 - k) (drop k xs) (omega (arith, length-drop k xs))

head_is : (k x : ℕ) (xs rest : List ℕ) → drop k xs ≡ x ∷ rest → get_or xs k 0 ≡ x
head_is k x xs rest e = (let z : k ≡ k + 0 = omega arith in ap (λ (n : ℕ). get_or xs n 0) z) ∙ sym (get_or-drop k xs 0 0) ∙ ap (λ (l : List ℕ). get_or l 0 0) e

tail_is : (k x : ℕ) (xs rest : List ℕ) → drop k xs ≡ x ∷ rest → rest ≡ drop (k + 1) xs
tail_is k x xs rest e = sym (ap (λ (l : List ℕ). drop 1 l) e) ∙ drop-drop 1 k xs

pub walked_start : (t : Tables) (k : ℕ) (times late : List ℕ) → length t.times.now ≡ 65 → length t.late.now ≡ 65 →
    times ≡ take (65 - k) (drop k t.times.now) → late ≡ take (65 - k) (drop k t.late.now) → Walked t k times late
walked_start t k times late lt ll e f = record { of_times = e ∙ from_on k t.times.now lt; of_late = f ∙ from_on k t.late.now ll }

module _ {t : Tables} {k : ℕ} {times late : List ℕ} (w : Walked t k times late) where
  pub walked_end : length t.times.now ≡ 65 → length t.late.now ≡ 65 → (length times ≡ 0) ⊎ (length late ≡ 0) → 65 ≤ k
  walked_end lt ll e = ⊎_elim (λ z. omega (arith, ap length w.of_times, length-drop k t.times.now)) (λ z. omega (arith, ap length w.of_late, length-drop k t.late.now)) e

  module _ {x y : ℕ} {xs ys : List ℕ} (a : times ≡ x ∷ xs) (b : late ≡ y ∷ ys) where
    pub walked_time : get_or t.times.now k 0 ≡ x
    walked_time = head_is k x t.times.now xs (sym w.of_times ∙ a)

    pub walked_late : get_or t.late.now k 0 ≡ y
    walked_late = head_is k y t.late.now ys (sym w.of_late ∙ b)

    pub walked_more : Walked t (k + 1) xs ys
    walked_more = record { of_times = tail_is k x t.times.now xs (sym w.of_times ∙ a); of_late = tail_is k y t.late.now ys (sym w.of_late ∙ b) }

-- two tests of order that agree
pub same_leb : (a b x : ℕ) → (a ≤ x → b ≤ x) → (b ≤ x → a ≤ x) → leb a x ≡ leb b x
same_leb a b x f g = ⊎_elim (λ h. le-leb a x h ∙ sym (le-leb b x (f h)))
    (λ h. lt-leb a x h ∙ sym (⊎_elim (λ y. absurd (omega (arith, g y))) (λ y. lt-leb b x y) (le_or_lt b x))) (le_or_lt a x)

module _ (m : ℕ) {J : Jobs} {early row : ℕ → ℕ} {i held : ℕ} {due : Due} {t : Tables} (a : At J early row i held due t) where
  abbrev at : ℕ → ℕ
  at k = get_or t.times.now k 0

  abbrev d : ℕ
  d = due.d

  abbrev Ns : ℕ → ℕ
  Ns s = N J early row i s d

  -- what the code counts with some late starters
  abbrev counted : ℕ → ℕ
  counted late = count 64 (pressed due.jobs (get_or t.followers.now i 0) late i)

  levels : Levels J.size early t.times.now t.late.now
  levels = a.known.levels

  late_is : (k j : ℕ) → k < 65 → j < J.size → has (get_or t.late.now k 0) j ≡ leb (at k) (early j)
  late_is k j l lj = levels.set k j l ∙ ap (λ (b : Bool). b && leb (at k) (early j)) (lt-ltb j J.size lj)

  -- the count of ones is N, at any s that has the entry's late starters
  press_N : (k s : ℕ) → k < 65 → ((j : ℕ) → j < J.size → leb (at k) (early j) ≡ leb s (early j)) → counted (get_or t.late.now k 0) ≡ Ns s
  unfolding N
  press_N k s x same = count_cut J.size 64 (pressed due.jobs (get_or t.followers.now i 0) (get_or t.late.now k 0) i) (presses J early row i s d) levels.few inside beyond
    where
      inside : (j : ℕ) → j < J.size → pressed due.jobs (get_or t.followers.now i 0) (get_or t.late.now k 0) i j ≡ presses J early row i s d j
      inside j l =
          let in_row : ltb j J.size ≡ true = lt-ltb j J.size l in
          turned (has due.jobs j) (has (get_or t.followers.now i 0) j || has (get_or t.late.now k 0) j) (not (eqb j i))
          ∙ ap₂ (λ (x y : Bool). (not (eqb j i) && x) && y)
          (a.soon j ∙ ap (λ (b : Bool). b && leb (row j) d) in_row)
          (ap₂ (λ (x y : Bool). x || y) (a.known.follow i j a.job ∙ ap (λ (b : Bool). b && J.before i j) in_row) (late_is k j x l ∙ same j l))

      beyond : (j : ℕ) → J.size ≤ j → pressed due.jobs (get_or t.followers.now i 0) (get_or t.late.now k 0) i j ≡ false
      beyond j g = ap (λ (b : Bool). (b && (has (get_or t.followers.now i 0) j || has (get_or t.late.now k 0) j)) && not (eqb j i))
          (a.soon j ∙ ap (λ (b : Bool). b && leb (row j) d) (le-ltb j J.size g))

  N_falls : (s u : ℕ) → s ≤ u → Ns u ≤ Ns s
  N_falls s u h = N_mono J J early row early row i u d i s d (le_refl J.size)
      (λ j l p. record { other = p.other; due = p.due; late = ⊎_elim (λ t. inl t) (λ x. inr (omega arith)) p.late })

  -- what is known at entry k: no s before it speaks, and N from it on is no more than `most`
  pub record Passed (k most : ℕ) : Type 0 where
    pub entry : k < 65
    pub reached : early i ≤ at k
    pub below : (j : ℕ) → j < J.size → early j < at k → early j < held
    pub tried : (j : ℕ) → j < J.size → early i ≤ early j → early j < at k → Ns (early j) < m * (d - early j)
    pub bound : Ns (at k) ≤ most

  begins : at (get_or t.rank.now i 0) ≡ early i
  begins = (a.known.ranks i a.job).1

  module _ (begun : at (get_or t.rank.now i 0) < held) (by : held ≤ d) (fits : held < 65536) where
    pub passed_start : Passed (get_or t.rank.now i 0) 64
    passed_start = record {
      entry = (a.known.ranks i a.job).0;
      reached = omega (arith, begins);
      below = λ j l h. omega arith;
      tried = λ j l h g. absurd (omega (arith, begins));
      bound = omega (arith, N_bound J early row i (at (get_or t.rank.now i 0)) d, levels.few);
    }

    module _ {k most : ℕ} (p : Passed k most) where
      -- the count is N at the entry's time, and at the time held where the entry is not sooner
      count_here : counted (get_or t.late.now k 0) ≡ Ns (at k)
      count_here = press_N k (at k) p.entry (λ j l. refl)

      count_own : held ≤ at k → Ns held ≡ Ns (at k)
      count_own h = sym (press_N k held p.entry (λ j l. same_leb (at k) held (early j) (λ x. omega arith)
          (λ x. ⊎_elim (λ y. y) (λ y. absurd (omega (arith, p.below j l y))) (le_or_lt (at k) (early j))))) ∙ count_here

      -- the s that is tried at the entry
      tried_N : Ns (min held (at k)) ≡ Ns (at k)
      tried_N = ⊎_elim (λ h. let e : min held (at k) ≡ held = omega arith in ap Ns e ∙ count_own h)
          (λ h. let e : min held (at k) ≡ at k = omega arith in ap Ns e) (le_or_lt held (at k))

      pub count_by : (n late : ℕ) → n ≡ counted late → get_or t.late.now k 0 ≡ late → Ns (at k) ≡ n
      count_by n late c e = sym (c ∙ ap counted (sym e) ∙ count_here)

      -- N of the job's own time
      own_N : Ns (row i) ≤ Ns (at k)
      own_N = ⊎_elim (λ h. omega (arith, ap Ns a.holds, count_own h)) (λ h. omega (arith, a.holds, N_falls (at k) (row i) (omega (arith, a.holds)))) (le_or_lt held (at k))

      pub passed_next : (least : ℕ) → at k < held → Ns (at k) ≤ least → least < m * (d - at k) → Passed (k + 1) least
      passed_next least h g room =
          let step : (k < 64) × (at k < at (k + 1)) = levels.rising k p.entry (omega arith) in
          let back : (j : ℕ) → j < J.size → early j < at (k + 1) → early j ≤ at k =
          λ j l x. ⊎_elim (λ y. y) (λ y. absurd (omega (arith, levels.next k j step.0 l y))) (le_or_lt (early j) (at k)) in
          record {
            entry = omega (arith, step.0);
            reached = omega (arith, p.reached, step.1);
            below = λ j l x. omega (arith, back j l x);
            tried = λ j l x y. ⊎_elim (λ z. let e : early j ≡ at k = omega (arith, back j l y) in let n : Ns (early j) ≡ Ns (at k) = ap Ns e in let r : m * (d - early j) ≡ m * (d - at k) = ap (λ (x : ℕ). m * (d - x)) e in omega arith)
                (λ z. p.tried j l x z) (le_or_lt (at k) (early j));
            bound = omega (arith, N_falls (at k) (at (k + 1)) (omega (arith, step.1)));
          }

      pub passed_found : (n : ℕ) → Ns (at k) ≡ n → m * (d - min held (at k)) ≤ n → Pressure m J early row i d n
      passed_found n e full = record {
        some = inr (min held (at k), record { job = a.job; from = omega (arith, begins, p.reached); till = omega (arith, a.holds); by = omega (arith, a.holds) }, omega (arith, tried_N), tried_N ∙ e);
        own = λ x. omega (arith, own_N);
        other = λ j l x y z. ⊎_elim (λ u. omega (arith, N_falls (at k) (early j) u)) (λ u. absurd (omega (arith, p.tried j l x u))) (le_or_lt (at k) (early j));
      }

      pub passed_none : (n : ℕ) → Ns (at k) ≤ n → n < m * (d - held) → Pressure m J early row i d 0
      passed_none n g few = record {
        some = inl refl;
        own = λ x. absurd (omega (arith, own_N, room_falls m d (row i) held (omega (arith, a.holds))));
        other = λ j l x y z. ⊎_elim (λ u. absurd (omega (arith, N_falls (at k) (early j) u, room_falls m d (early j) held (omega (arith, a.holds))))) (λ u. absurd (omega (arith, p.tried j l x u))) (le_or_lt (at k) (early j));
      }
