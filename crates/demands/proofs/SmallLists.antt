-- The small lists of 01 (Small lists to hold it against), as the calls answer them: every row marked P, from what judge and plan promise.
-- Assumes nothing.
use mathlib.Core.Bool.{Bool, not, ◌&&◌, ◌||◌}
use mathlib.Core.List.{List, [], ◌∷◌, ◌++◌}
use mathlib.Core.Logic.{◌⊎◌, inl, inr, ⊎_elim}
use mathlib.Core.Path.{◌≡◌, refl, sym, ap, ap₂, subst, ◌∙◌}
use Prim.Native.Nat.{ℕ, zero, suc, ◌-◌, ◌*◌, ◌%◌, ◌≤◌, ◌<◌}
use native.Mathlib.Omega.{arith}
use lib.Dec.{T, eqb, leb, ltb}
use lib.ListN.{length, get_or, drop, length-append, length-drop, get_or-append}
use lib.Seq.{ext_get_or, get_or-append-add, get_or-drop}
use Rattle.schedule.specs.Row.{all}
use Rattle.schedule.specs.Plan.{finish}
use Rattle.schedule.specs.Times.{Beneath}
use Rattle.schedule.specs.Make.{slots}
use Rattle.schedule.specs.Listed.{Listed, Looped, Formed, written}
use Rattle.schedule.proofs.Tests.{le_or_lt, says_le, says_lt, says_eq, says_not, says_and, says_or}
use Rattle.schedule.proofs.Choice.{says_all}
use Rattle.schedule.proofs.Loop.{bytes_length}
use Rattle.schedule.proofs.Readings.{holds_one, plan_one, finish_one, bytes_one}
use Rattle.schedule.proofs.Onward.{holds_planned}
use Rattle.schedule.proofs.Certify.{entry}
use Rattle.schedule.proofs.Certify as certify
use Rattle.schedule.proofs.Table.{table}
use Rattle.schedule.proofs.Table as theory
use Rattle.refusal.specs.Table.{places, Table}
use Rattle.refusal.specs.Table as checks
use Rattle.refusal.proofs.Table.{refuses_not_clear, table_free, table_caught}
use Rattle.book.specs.Told.{Book, jobs_of, latest_of, row_in, Told}
use Rattle.planner.specs.Requests.{plan_check}
use Rattle.planner.specs.List.{first_of, second_of, pairs_of, list_of, Misshapen, order_at, Judged, judged, TurnedDown, Fitted, Judges}
use Rattle.planner.specs.Inner.Entries.{Held}
use Rattle.planner.proofs.Orders.{held_clear}
use Rattle.planner.proofs.Pairs.{pairs_loopless}
use Rattle.planner.proofs.ListSound.{Sound}
use Rattle.planner.proofs.ListOutcome.{sound_by, loops_last, sound_last}
use Rattle.plan.specs.Plan.{finish_of, bytes_of, Plans}
use Rattle.demands.specs.Small.{Accepts, Refuses, Lays, Small}

-- ---- the checks that need no theory, as one test: few jobs, whole pairs, every job in its limits
unfoldable tame : List ℕ → List ℕ → List ℕ → Bool
unfolding all
tame starts deadlines pairs =
    leb (length starts) 64 && eqb (length pairs % 2) 0
    && all (length starts) (λ i. not (ltb 4095 (get_or starts i 0) || ltb 4096 (get_or deadlines i 0) || leb (get_or deadlines i 0) (get_or starts i 0)))

module _ (starts deadlines pairs : List ℕ) (t : T (tame starts deadlines pairs)) where
  abbrev L : Listed
  L = list_of starts deadlines pairs

  checked : ((length starts ≤ 64) × (length pairs % 2 ≡ 0)) × ((i : ℕ) → i < length starts → ((4095 < get_or starts i 0) ⊎ (4096 < get_or deadlines i 0)) ⊎ (get_or deadlines i 0 ≤ get_or starts i 0) → ⊥)
  unfolding tame
  checked =
      (says_and (says_and (says_le (length starts) 64) (says_eq (length pairs % 2) 0))
      (says_all (length starts) (λ i. says_not (says_or (says_or (says_lt 4095 (get_or starts i 0)) (says_lt 4096 (get_or deadlines i 0))) (says_le (get_or deadlines i 0) (get_or starts i 0)))))
      ).read t

  shaped : length deadlines ≡ length starts → (old : List ℕ) → length starts ≤ length old → Misshapen starts deadlines pairs old → ⊥
  shaped e old room u = ⊎_elim (λ v. ⊎_elim (λ f. f (sym e)) (λ f. omega (arith, checked.0.1)) v) (λ f. omega arith) u

  sound : Formed L → (Looped L → ⊥) → Sound starts deadlines pairs
  sound formed loopless = sound_by starts deadlines pairs formed loopless checked.0.0 (λ i l. ((λ u. checked.1 i l (inl u)), λ u. checked.1 i l (inr u)))

  -- the check that needs it
  last : Formed L → (Looped L → ⊥) → (old : List ℕ) (r : Judged) → length starts ≤ length old → Judges starts deadlines pairs old r → Table (plan_check L) (TurnedDown old) (Fitted L old) r
  last formed loopless old r room j = sound_last starts deadlines pairs old r (shaped formed.even old room) j (sound formed loopless)

-- a row that has received its first entries
received : (times old new : List ℕ) → length times ≤ length old → length new ≡ length old → ((i : ℕ) → i < length times → get_or new i 0 ≡ get_or times i 0) →
    ((i : ℕ) → length times ≤ i → get_or new i 0 ≡ get_or old i 0) → new ≡ times ++ drop (length times) old
received times old new room e front rest =
    ext_get_or 0 new (times ++ drop n old) (simp (length-append, length-drop) (omega arith))
    (λ i l. ⊎_elim (λ le. rest i le ∙ sym (kept i le)) (λ lt. front i lt ∙ sym (get_or-append times (drop n old) 0 i lt)) (le_or_lt n i))
  where
    n : ℕ
    n = length times

    kept : (i : ℕ) → length times ≤ i → get_or (times ++ drop (length times) old) i 0 ≡ get_or old i 0
    kept i le = subst (λ k. get_or (times ++ drop (length times) old) k 0 ≡ get_or old k 0) (omega arith)
        (get_or-append-add times (drop (length times) old) (i - length times) 0 ∙ get_or-drop (length times) old (i - length times) 0)

-- ---- a row of the theory's table as the calls answer it
accepts : {starts deadlines pairs times : List ℕ} → T (tame starts deadlines pairs) → length times ≡ length starts → theory.Accepted (list_of starts deadlines pairs) times →
    Accepts starts deadlines pairs times
accepts {starts} {deadlines} {pairs} {times} t e a = record {
  answer = λ old r room j.
      let f : Fitted L old r =
      table_free _ _ _ _ (λ no. no (holds_planned 2 (omega arith) (omega arith) L a.jobs (entry times) a.holds))
      (last starts deadlines pairs t a.holds.formed a.holds.loopless old r room j) in
      let front : (i : ℕ) → i < length times → get_or r.row i 0 ≡ get_or times i 0 =
      λ i l. holds_one 2 L f.jobs a.jobs (row_in r.row) (entry times) f.holds a.holds i (omega (arith, f.holds.reads.size)) in
      f.accepts ∙ ap (λ (l : List ℕ). judged l 0 0) (subst (λ n. r.row ≡ times ++ drop n old) e (received times old r.row (omega arith) f.same_length front (λ i l. f.rest i (omega arith))));
}
  where
    L : Listed
    L = list_of starts deadlines pairs

refuses : {starts deadlines pairs : List ℕ} → T (tame starts deadlines pairs) → certify.Refused (list_of starts deadlines pairs) → Refuses starts deadlines pairs 4 0
refuses {starts} {deadlines} {pairs} t x = record {
  answer = λ old r room j.
      table_caught _ _ _ _ 4 0 ((λ p. x.none (plan_one 2 L p.0 x.jobs (written L) p.1 x.reads p.2)), refl, refl)
      (last starts deadlines pairs t x.formed x.loopless old r room j);
}
  where
    L : Listed
    L = list_of starts deadlines pairs

-- the book's own plan is the table's: nine slots are enough for its times, as many as the table looks at
module _ (L : Listed) (times plan : List ℕ) (n : ℕ) (low : T (all (length L.starts) (λ i. leb (entry times i) 9))) (size : length plan ≡ 2 * n) (a : theory.Planned L times plan)
    (k : Book) (told : Told k L) where
  top : Beneath a.jobs (entry times) (λ i. 9)
  top i l = (says_all (length L.starts) (λ i. says_le (entry times i) 9)).read low i (omega (arith, a.holds.reads.size))

  finished : finish_of k ≡ n
  finished =
      let f : ℕ = finish a.jobs (slots 2 a.jobs (entry times) 9 9) in
      let same : f ≡ finish_of k = finish_one L a.jobs (jobs_of k) (entry times) (latest_of k) a.holds told.holds 9 9 4096 4096 top (omega arith) (omega arith) (omega arith) in
      omega (arith, bytes_length a.jobs (entry times) 9 f, ap length a.plan_is)

  spelled : bytes_of k ≡ plan
  spelled = sym (bytes_one L a.jobs (jobs_of k) (entry times) (latest_of k) a.holds told.holds 9 9 4096 4096 top (omega arith) (omega arith) (omega arith)) ∙ a.plan_is

  laid : (old new : List ℕ) (number value : ℕ) → 2 * n ≤ length old → Plans k old new number value → (number ≡ 0) × (value ≡ n) × (new ≡ plan ++ drop (2 * n) old)
  laid old new number value room (checks.refused c v f e) = absurd (omega (arith, finished, f.0))
  laid old new number value room (checks.passed f e) = (
    ap (λ x. x.0) e,
    ap (λ x. x.1) e ∙ finished,
    ap (λ x. x.2) e ∙ ap₂ (λ l m. l ++ drop (2 * m) old) spelled finished,
  )

lays : {starts deadlines pairs times plan : List ℕ} {n : ℕ} → T (tame starts deadlines pairs) → length times ≡ length starts → T (all (length starts) (λ i. leb (entry times i) 9)) →
    length plan ≡ 2 * n → theory.Planned (list_of starts deadlines pairs) times plan → Lays starts deadlines pairs times n plan
lays {starts} {deadlines} {pairs} {times} {plan} {n} t e low size a =
    record { accepted = accepts t e (record { jobs = a.jobs; holds = a.holds }); planned = laid (list_of starts deadlines pairs) times plan n low size a }

-- the first pair closes no loop, and the second does
looped : Refuses (0 ∷ 0 ∷ []) (1 ∷ 2 ∷ []) (0 ∷ 1 ∷ 1 ∷ 0 ∷ []) 6 1
unfolding pairs_of tame
looped = record {
  answer = λ old r room j.
      go old r (loops_last starts deadlines pairs old r (shaped starts deadlines pairs tt refl old room) j alone.few alone.jobs held);
}
  where
    starts : List ℕ
    starts = 0 ∷ 0 ∷ []

    deadlines : List ℕ
    deadlines = 1 ∷ 2 ∷ []

    pairs : List ℕ
    pairs = 0 ∷ 1 ∷ 1 ∷ 0 ∷ []

    alone : Sound starts deadlines (0 ∷ 1 ∷ [])
    alone = sound starts deadlines (0 ∷ 1 ∷ []) tt table.loop_first.holds.formed table.loop_first.holds.loopless

    held : Held 2 pairs
    held = record {
      below = λ p l.
          let u = (says_all 2 (λ p. says_and (says_lt (first_of pairs p) 2) (says_lt (second_of pairs p) 2))).read tt p l in
          held_clear p 2 (first_of pairs p) (second_of pairs p) u.0 u.1;
    }

    go : (old : List ℕ) (r : Judged) → Table (places 2 (order_at pairs)) (TurnedDown old) (Table (plan_check (list_of starts deadlines pairs)) (TurnedDown old) (Fitted (list_of starts deadlines pairs) old)) r →
        r ≡ judged old 6 1
    go old r (checks.refused n v (zero, l, b, x) e) = absurd (refuses_not_clear (order_at pairs 0) n v x (alone.free 0 (omega arith)))
    go old r (checks.refused n v (suc zero, l, b, inl x) e) = let same : ◌≡◌ {A = ℕ} 1 0 = x.0 in absurd (omega arith)
    go old r (checks.refused n v (suc zero, l, b, inr x) e) = rw (sym x.1.1, sym x.1.2) e
    go old r (checks.refused n v (suc (suc i), l, b, x) e) = absurd (omega arith)
    go old r (checks.passed f y) = absurd (pairs_loopless pairs 2 f table.loop.0 table.loop.1)

pub small : Small
unfolding pairs_of tame
small = record {
  nothing = lays tt refl tt refl table.nothing;
  one = accepts tt refl table.one;
  two = accepts tt refl table.two;
  three = refuses tt table.three;
  four_wide = accepts tt refl table.four_wide;
  five_wide = refuses tt table.five_wide;
  ordered_pair = accepts tt refl table.ordered_pair;
  late_follower = refuses tt table.late_follower;
  waiting = accepts tt refl table.waiting;
  lone_order = lays tt refl tt refl table.lone_order;
  fan = lays tt refl tt refl table.fan;
  starts_raised = refuses tt table.starts_raised;
  loop = looped;
}
