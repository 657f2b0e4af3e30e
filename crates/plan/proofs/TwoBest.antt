-- A walk over the jobs left that keeps the two best so far makes the choice.
-- Assumes nothing.
use mathlib.Core.Bool.{Bool, true, false, cond, not, ◌&&◌, and-true, and-false}
use mathlib.Core.Logic.{⊎_elim}
use mathlib.Core.Path.{◌≡◌, refl, sym, ap, subst, ◌∙◌}
use Prim.Native.Nat.{ℕ, ◌+◌, ◌≤◌, ◌<◌}
use native.Mathlib.Decide.{le_ind}
use native.Mathlib.Numerals.{add-one}
use native.Mathlib.Omega.{arith}
use borrow.Author.Tests.{lt-ltb, le-ltb, le-leb, lt-leb, eq-eqb, ne_eqb}
use lib.Dec.{T, eqb, leb, ltb}
use Rattle.std.specs.Prelude.{Option, Some, None, IfSome}
use Rattle.schedule.specs.declared.JobIndex.{JobIndex}
use Rattle.schedule.specs.Make.{choose}
use Rattle.schedule.proofs.Loop.{choose_suc, choose_ext}
use Rattle.schedule.proofs.Tests.{and_fst, same_test, le_by, le_or_lt}
use Rattle.sets.specs.Sets.{has}
use Rattle.sets.specs.Walk.{Walks}
use Rattle.sets.proofs.Bits.{empty_has, walk_sub, walk_split, walk_out}
use Rattle.book.specs.Told.{Book, latest_of}
use Rattle.plan.specs.Inner.Choice.{begins, ready_by, others, number_or, sooner, Held, Picks, Chooses}

module _ (none : ℕ) (key : ℕ → ℕ) (ok : ℕ → Bool) where
  found_none : Picks none key ok 0 None
  unfolding choose
  found_none = record { chosen = refl; below = tt }

  module _ (n : ℕ) (in_range : n < none) where
    -- the best so far stays where n is not before it
    stays : (c : Option JobIndex) → IfSome c (λ job. job.0 < n) → (ltb (number_or none c) n && leb (key (number_or none c)) (key n)) ≡ not (sooner key n c)
    stays None h = simp (le-ltb none n (omega arith))
    stays (Some job) h = ⊎_elim
        (λ le. simp (lt-ltb job.0 n h, le-leb (key job.0) (key n) le, le-ltb (key n) (key job.0) le))
        (λ lt. simp (lt-ltb job.0 n h, lt-leb (key job.0) (key n) lt, lt-ltb (key n) (key job.0) lt))
        (le_or_lt (key job.0) (key n))

    longer : (c : Option JobIndex) → IfSome c (λ job. job.0 < n) → IfSome c (λ job. job.0 < n + 1)
    longer None h = tt
    longer (Some job) h = omega (arith, h)

    module _ (c : Option JobIndex) (f : Picks none key ok n c) where
      -- the next step, by whether n passes and whether it is before the best so far
      step : (passes before : Bool) → ok n ≡ passes → sooner key n c ≡ before → choose none key ok (n + 1) ≡ cond (passes && not (not before)) n (number_or none c)
      step passes before p k =
          ap (choose none key ok) (add-one n) ∙ choose_suc none key ok n
          ∙ rw (← f.chosen) (simp (p, stays c f.below, k))

      found_skip : ok n ≡ false → Picks none key ok (n + 1) c
      found_skip p = record { chosen = sym (step false (sooner key n c) p refl); below = longer c f.below }

      found_keep : ok n ≡ true → sooner key n c ≡ false → Picks none key ok (n + 1) c
      found_keep p h = record { chosen = sym (step true false p h); below = longer c f.below }

      found_take : ok n ≡ true → sooner key n c ≡ true → Picks none key ok (n + 1) (Some (record { 0 = n }))
      found_take p h = record { chosen = sym (step true true p h); below = omega arith }

  -- numbers that do not pass change nothing
  found_up_to : (n m : ℕ) (c : Option JobIndex) → n ≤ m → m ≤ none → Picks none key ok n c → ((j : ℕ) → n ≤ j → j < m → ok j ≡ false) → Picks none key ok m c
  found_up_to n m c l h f = le_ind
      (λ m. m ≤ none → ((j : ℕ) → n ≤ j → j < m → ok j ≡ false) → Picks none key ok m c)
      (λ h gap. f)
      (λ m l ih h gap. subst (λ m. Picks none key ok m c) (add-one m) (found_skip m (omega arith) c (ih (omega arith) (λ j x y. gap j x (omega arith))) (gap m l (omega arith))))
      m l h

-- tests that agree below n find the same there
found_ext : (none : ℕ) (key : ℕ → ℕ) (ok ok' : ℕ → Bool) (n : ℕ) (c : Option JobIndex) → ((j : ℕ) → j < n → ok j ≡ ok' j) → Picks none key ok n c → Picks none key ok' n c
found_ext none key ok ok' n c e f = record { chosen = f.chosen ∙ choose_ext none key key ok ok' n (λ j l. refl) e; below = f.below }

-- the best so far is not n
not_best : (none n : ℕ) (c : Option JobIndex) → n < none → IfSome c (λ job. job.0 < n) → n ≡ number_or none c → ⊥
not_best none n None l h e = omega arith
not_best none n (Some job) l h e = omega (arith, h)

-- ---- a walk over the jobs left alone, by rising number: `rest` are those from n on
module _ (k : Book) (left t : ℕ) where
  abbrev pub ok : ℕ → Bool
  ok = ready_by k left left t

  abbrev pub rival : Option JobIndex → ℕ → Bool
  rival best = others (number_or k.size best) ok

  pub record Walked (rest : ℕ) (best next : Option JobIndex) : Type 0 where
    pub n : ℕ
    pub short : n ≤ k.size
    pub first : Picks k.size (latest_of k) ok n best
    pub second : Picks k.size (latest_of k) (rival best) n next
    pub sound : (j : ℕ) → T (has rest j) → T (has left j) × (n ≤ j)
    pub whole : (j : ℕ) → T (has left j) → n ≤ j → T (has rest j)

  -- the walk one job on: it begins or not, and is before the two best so far, between them or after
  pub record Onward (job : JobIndex) (less : ℕ) (best next : Option JobIndex) : Type 0 where
    pub skipped : begins k left t job.0 ≡ false → Walked less best next
    pub third : begins k left t job.0 ≡ true → sooner (latest_of k) job.0 best ≡ false → sooner (latest_of k) job.0 next ≡ false → Walked less best next
    pub between : begins k left t job.0 ≡ true → sooner (latest_of k) job.0 best ≡ false → sooner (latest_of k) job.0 next ≡ true → Walked less best (Some job)
    pub ahead : begins k left t job.0 ≡ true → sooner (latest_of k) job.0 best ≡ true → Walked less (Some job) best

  pub walked_none : Walked left None None
  walked_none = record {
    n = 0;
    short = omega arith;
    first = found_none k.size (latest_of k) ok;
    second = found_none k.size (latest_of k) (rival None);
    sound = λ j x. (x, omega arith);
    whole = λ j x l. x;
  }

  module _ (rest : ℕ) (best next : Option JobIndex) (w : Walked rest best next) where
    -- where no job of the rest is below `to`, no number from n up to it passes
    module _ (to : ℕ) (l : w.n ≤ to) (h : to ≤ k.size) (none : (j : ℕ) → j < to → has rest j ≡ false) where
      idle : (j : ℕ) → w.n ≤ j → j < to → ok j ≡ false
      idle j x y = same_test (ok j) false (λ z. subst T (none j y) (w.whole j (and_fst (has left j) _ z) x)) (λ z. absurd z)

      first_at : Picks k.size (latest_of k) ok to best
      first_at = found_up_to k.size (latest_of k) ok w.n to best l h w.first idle

      second_at : Picks k.size (latest_of k) (rival best) to next
      second_at = found_up_to k.size (latest_of k) (rival best) w.n to next l h w.second (λ j x y. ap (λ b. b && not (eqb j (number_or k.size best))) (idle j x y))

    pub walked_all : rest ≡ 0 → Chooses k left t (record { best = best; next = next })
    walked_all e =
        let none : (j : ℕ) → j < k.size → has rest j ≡ false = λ j l. rw e (empty_has j) in
        record { best = first_at k.size w.short (omega arith) none; next = second_at k.size w.short (omega arith) none }

    -- the first job of the rest, and the rest without it
    module _ (held : Held k.size left) (job : JobIndex) (less : ℕ) (walk : Walks rest (Some job) less) where
      abbrev i : ℕ
      i = job.0

      in_left : T (has left i)
      in_left = (w.sound i walk.member).0

      passes : (b : Bool) → begins k left t job.0 ≡ b → ok i ≡ b
      passes b e = simp (same_test (has left i) true (λ x. tt) (λ x. in_left)) e

      first_here : Picks k.size (latest_of k) ok i best
      first_here = first_at i (w.sound i walk.member).1 (omega (arith, held i in_left)) walk.first.lowest

      second_here : Picks k.size (latest_of k) (rival best) i next
      second_here = second_at i (w.sound i walk.member).1 (omega (arith, held i in_left)) walk.first.lowest

      new : (b : Bool) → ok i ≡ b → rival best i ≡ b
      new b e = simp (ne_eqb i (number_or k.size best) (not_best k.size i best (held i in_left) first_here.below), and-true) e

      on : (a b : Option JobIndex) → Picks k.size (latest_of k) ok (i + 1) a → Picks k.size (latest_of k) (rival a) (i + 1) b → Walked less a b
      on a b x y = record {
        n = i + 1;
        short = omega (arith, held i in_left);
        first = x;
        second = y;
        sound = λ j x.
            let y : T (has rest j) = walk_sub rest less i walk.left j x in (
              (w.sound j y).0,
              le_by (i + 1) j (λ l. ⊎_elim
                  (λ h. walk_out rest less i walk.left (let e : j ≡ i = omega arith in subst (λ u. T (has less u)) e x))
                  (λ h. subst T (walk.first.lowest j h) y)
                  (le_or_lt i j)),
            );
        whole = λ j x l. ⊎_elim (λ e. absurd (omega arith)) (λ y. y) (walk_split rest less i walk.left j (w.whole j x (omega (arith, (w.sound i walk.member).1))));
      }

      -- where the job comes first, the best so far is the best of the others
      passed : Picks k.size (latest_of k) (rival (Some job)) (i + 1) best
      passed = found_skip k.size (latest_of k) (rival (Some job)) i (held i in_left) best
          (found_ext k.size (latest_of k) ok (rival (Some job)) i best (λ j l. sym (simp (ne_eqb j i (λ q. omega arith), and-true))) first_here)
          (simp (eq-eqb i i refl, and-false))

      pub walked_on : Onward job less best next
      walked_on = record {
        skipped = λ e. on best next
            (found_skip k.size (latest_of k) ok i (held i in_left) best first_here (passes false e))
            (found_skip k.size (latest_of k) (rival best) i (held i in_left) next second_here (new false (passes false e)));
        third = λ e h g. on best next
            (found_keep k.size (latest_of k) ok i (held i in_left) best first_here (passes true e) h)
            (found_keep k.size (latest_of k) (rival best) i (held i in_left) next second_here (new true (passes true e)) g);
        between = λ e h g. on best (Some job)
            (found_keep k.size (latest_of k) ok i (held i in_left) best first_here (passes true e) h)
            (found_take k.size (latest_of k) (rival best) i (held i in_left) next second_here (new true (passes true e)) g);
        ahead = λ e h. on (Some job) best
            (found_take k.size (latest_of k) ok i (held i in_left) best first_here (passes true e) h)
            passed;
      }
