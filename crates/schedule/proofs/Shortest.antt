-- The shortest finishing time is the least cap on the deadlines that leaves one, and is least in time too (02, A2).
-- Assumes nothing.
use mathlib.Core.Logic.{◌↔◌, ◌⊎◌, inl, inr}
use mathlib.Core.Path.{◌≡◌}
use Prim.Native.Nat.{ℕ, suc, ◌+◌, ◌≤◌, ◌<◌, zero-le}
use native.Mathlib.Nat.{le_trans, le_refl}
use native.Mathlib.Omega.{arith}
use lib.Dec.{T, eqb}
use Rattle.schedule.specs.Row.{greatest}
use Rattle.schedule.specs.Jobs.{Jobs}
use Rattle.schedule.specs.Plan.{Valid, Meets, HasPlan, finish}
use Rattle.schedule.specs.Clock.{Clock}
use Rattle.schedule.specs.Listed.{Listed, Reads}
use Rattle.schedule.specs.Shortest.{Shortest, capped, Cappable, ClockedShortest}
use Rattle.schedule.specs.Theory.Lowest.{Lowest, Narrowed}
use Rattle.schedule.proofs.Lowest.{lowest_one, lowest_along}
use Rattle.schedule.proofs.Counting.{count_bound}
use Rattle.schedule.proofs.Rows.{greatest_bound, greatest_least, greatest_some}
use Rattle.schedule.proofs.Readings.{plan_one}
use Rattle.schedule.proofs.Clock.{clock_valid, clock_meets, end_late, clocked_iff_plan}

module _ (m : ℕ) (J : Jobs) (due : ℕ → ℕ) where
  -- a plan meets the deadlines and has ended at D exactly if it meets them capped at D
  pub meets_capped : (D : ℕ) (slot : ℕ → ℕ) → (Meets J due slot × (finish J slot ≤ D)) ↔ Meets J (capped due D) slot
  unfolding capped finish
  meets_capped D slot = (
    (λ x. record { ends = λ i l. omega (arith, x.0.ends i l, x.1, greatest_bound J.size (λ j. slot j + 1) i l) }),
    (λ k. (record { ends = λ i l. omega (arith, k.ends i l) }, greatest_least J.size (λ j. slot j + 1) D (λ i l. omega (arith, k.ends i l)))),
  )

  -- the shortest finishing time is the least cap that leaves a plan
  pub shortest_iff : (D : ℕ) → Shortest m J due D ↔ Lowest (Cappable m J due) D
  shortest_iff D = (
    (λ x. record {
      member = (x.reached.0, x.reached.1, (meets_capped D x.reached.0).0 (x.reached.2, omega (arith, x.reached.3)));
      least = λ E p. let k = (meets_capped E p.0).1 p.2 in le_trans (x.least p.0 p.1 k.0) k.1;
    }),
    (λ x.
        let p = x.member in
        let k = (meets_capped D p.0).1 p.2 in
        let least : (slot : ℕ → ℕ) → Valid m J slot → Meets J due slot → D ≤ finish J slot =
        λ slot v c. x.least (finish J slot) (slot, v, (meets_capped (finish J slot) slot).0 (c, le_refl (finish J slot))) in
        record { reached = (p.0, p.1, k.0, omega (arith, k.1, least p.0 p.1 k.0)); least = least }),
  )

  -- it is one number
  pub shortest_one : (D E : ℕ) → Shortest m J due D → Shortest m J due E → D ≡ E
  shortest_one D E a b = lowest_one (Cappable m J due) D E ((shortest_iff D).0 a) ((shortest_iff E).0 b)

  -- some jobs, and a cap that no deadline passes: a search by halving starts at 1 and there
  pub short_outset : (top : ℕ) → 0 < J.size → ((i : ℕ) → i < J.size → due i ≤ top) → HasPlan m J due → Narrowed (Cappable m J due) 1 top
  unfolding capped
  short_outset top some h p = record {
    some = (p.0, p.1, record { ends = λ i l. omega (arith, p.2.ends i l, h i l) });
    none = λ D q. omega (arith, q.2.ends 0 some);
  }

  -- 0 for no jobs
  pub shortest_empty : J.size ≡ 0 → Shortest m J due 0
  shortest_empty z = (shortest_iff 0).1 (record {
    member = (
      (λ i. 0),
      record { room = λ t. omega (arith, count_bound J.size (λ i. eqb 0 t)); begun = λ i l. absurd (omega arith); ordered = λ a b la lb t. absurd (omega arith) },
      record { ends = λ i l. absurd (omega arith) },
    );
    least = λ E p. zero-le;
  })

  -- ---- in time: some job of the whole parts of a schedule ends at D or later, and ends no sooner than they say
  pub shortest_clocked : (D : ℕ) → Shortest m J due D → (C : Clock) → ClockedShortest C m J due D
  unfolding finish
  shortest_clocked D x C = record {
    reached = (clocked_iff_plan C m J (capped due D)).1 ((shortest_iff D).0 x).member;
    least = λ time s k.
        go time (x.least (λ i. C.whole (time i)) (clock_valid C m J time s) (clock_meets C m J time due k)) (greatest_some J.size (λ i. C.whole (time i) + 1));
  }
    where
      go : (time : ℕ → C.Time) →
          let end : ℕ = greatest J.size (λ i. C.whole (time i) + 1) in
          D ≤ end → ((J.size ≡ 0) × (end ≡ 0)) ⊎ ((i : ℕ) × (i < J.size) × (C.whole (time i) + 1 ≡ end)) →
          (D ≡ 0) ⊎ ((i : ℕ) × (i < J.size) × T (C.upto (C.begin D) (C.later (time i))))
      go time h (inl z) = inl (omega arith)
      go time h (inr t) =
          let i : ℕ = t.0 in
          let w : ℕ = C.whole (time i) in
          inr (i, t.1, C.joins (C.begin D) (C.begin (suc w)) (C.later (time i)) (C.rising D (suc w) (omega (arith, t.2))) (end_late C (time i)))

-- two readings of one list are as short
pub shortest_same : (m : ℕ) (L : Listed) (J K : Jobs) (due : ℕ → ℕ) (D : ℕ) → Reads L J → Reads L K → Shortest m J due D → Shortest m K due D
shortest_same m L J K due D r s x = (shortest_iff m K due D).1 (lowest_along (Cappable m J due) (Cappable m K due)
    (λ E. (plan_one m L J K (capped due E) r s, plan_one m L K J (capped due E) s r)) D ((shortest_iff m J due D).0 x))
