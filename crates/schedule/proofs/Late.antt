-- The least maximum lateness is the least move of the deadlines that leaves a plan, and is least in time too (02, A2).
-- Assumes nothing.
use mathlib.Core.Bool.{false}
use mathlib.Core.Logic.{◌↔◌, ◌⊎◌, inl, inr}
use mathlib.Core.Path.{◌≡◌, refl}
use Prim.Native.Nat.{ℕ, zero, suc, ◌+◌, ◌-◌, ◌≤◌, ◌<◌, zero-le}
use native.Mathlib.Decide.{dec_le}
use native.Mathlib.Omega.{arith}
use lib.Dec.{T, eqb, eqb→eq, lit≤}
use Rattle.schedule.specs.Count.{count}
use Rattle.schedule.specs.Jobs.{Jobs}
use Rattle.schedule.specs.Plan.{Valid, Meets, HasPlan}
use Rattle.schedule.specs.Clock.{Clock}
use Rattle.schedule.specs.Times.{Earliest}
use Rattle.schedule.specs.Listed.{Listed, Reads}
use Rattle.schedule.specs.Late.{LateBy, Lateness, moved, Movable, ClockedLateness, InLimits, Ranged}
use Rattle.schedule.proofs.Tests.{eq→eqb, le_by}
use Rattle.schedule.proofs.Search.{decAny}
use Rattle.schedule.specs.Theory.Lowest.{Lowest, Narrowed}
use Rattle.schedule.proofs.Lowest.{lowest_one, lowest_along, rising_stays}
use Rattle.schedule.proofs.Counting.{count_single, count_mono}
use Rattle.schedule.proofs.Readings.{plan_one}
use Rattle.schedule.proofs.Clock.{clock_valid, end_late, clocked_iff_plan}
use Rattle.schedule.proofs.Serial.{serial}

module _ (m : ℕ) (J : Jobs) (due : ℕ → ℕ) (off : ℕ) where
  -- a plan is late by y - off at most exactly if it meets the deadlines so moved
  pub late_moved : (y : ℕ) (slot : ℕ → ℕ) → LateBy J due off y slot ↔ Meets J (moved due off y) slot
  unfolding moved
  late_moved y slot = ((λ k. record { ends = λ i l. omega (arith, k.ends i l) }), (λ k. record { ends = λ i l. omega (arith, k.ends i l) }))

  -- the least lateness is the least move that leaves a plan
  pub lateness_iff : (y : ℕ) → Lateness m J due off y ↔ Lowest (Movable m J due off) y
  lateness_iff y = (
    (λ x. record {
      member = (x.reached.0, x.reached.1, (late_moved y x.reached.0).0 x.reached.2);
      least = λ z p. x.least p.0 p.1 z ((late_moved z p.0).1 p.2);
    }),
    (λ x. record {
      reached = (x.member.0, x.member.1, (late_moved y x.member.0).1 x.member.2);
      least = λ slot v z k. x.least z (slot, v, (late_moved z slot).0 k);
    }),
  )

  -- it is one number
  pub lateness_one : (y z : ℕ) → Lateness m J due off y → Lateness m J due off z → y ≡ z
  lateness_one y z a b = lowest_one (Movable m J due off) y z ((lateness_iff y).0 a) ((lateness_iff z).0 b)

  -- every greater move leaves a plan, and no smaller one does
  pub lateness_moved : (y : ℕ) → Lateness m J due off y → (z : ℕ) → Movable m J due off z ↔ (y ≤ z)
  unfolding moved
  lateness_moved y x z = (((lateness_iff y).0 x).least z, λ h. rising_stays m J (moved due off) (λ j k i l. omega arith) y z h ((lateness_iff y).0 x).member)

  -- a list has a plan exactly if its lateness is at most 0
  pub on_time : (y : ℕ) → Lateness m J due off y → HasPlan m J due ↔ (y ≤ off)
  on_time y x = (
    (λ p. x.least p.0 p.1 off (record { ends = λ i l. omega (arith, p.2.ends i l) })),
    (λ h. (x.reached.0, x.reached.1, record { ends = λ i l. omega (arith, x.reached.2.ends i l) })),
  )

  -- ---- in time: of the whole parts of a schedule some job is as late, and it ends no sooner than they say
  module _ (y : ℕ) (x : Lateness m J due off y) where
    late_some : (slot : ℕ → ℕ) → Valid m J slot → (y ≡ 0) ⊎ ((i : ℕ) × (i < J.size) × (due i + y ≤ slot i + 1 + off))
    late_some slot v = go y x (decAny J.size (λ i. due i + y ≤ slot i + 1 + off) (λ i. dec_le (due i + y) (slot i + 1 + off)))
      where
        go : (y : ℕ) → Lateness m J due off y → Dec ((i : ℕ) × (i < J.size) × (due i + y ≤ slot i + 1 + off)) → (y ≡ 0) ⊎ ((i : ℕ) × (i < J.size) × (due i + y ≤ slot i + 1 + off))
        go y x (yes t) = inr t
        go zero x (no f) = inl refl
        go (suc z) x (no f) =
            absurd (omega (arith, x.least slot v z (record { ends = λ i l. le_by (slot i + 1 + off) (due i + z) (λ h. f (i, l, omega arith)) })))

    pub lateness_clocked : (C : Clock) → ClockedLateness C m J due off y
    unfolding moved
    lateness_clocked C = record {
      reached = (clocked_iff_plan C m J (moved due off y)).1 ((lateness_iff y).0 x).member;
      least = λ time s. go time (late_some (λ i. C.whole (time i)) (clock_valid C m J time s));
    }
      where
        go : (time : ℕ → C.Time) → (y ≡ 0) ⊎ ((i : ℕ) × (i < J.size) × (due i + y ≤ C.whole (time i) + 1 + off)) →
            (y ≡ 0) ⊎ ((i : ℕ) × (i < J.size) × T (C.upto (C.begin (moved due off y i)) (C.later (time i))))
        go time (inl z) = inl z
        go time (inr t) =
            let i : ℕ = t.0 in
            let w : ℕ = C.whole (time i) in
            inr (i, t.1, C.joins (C.begin (moved due off y i)) (C.begin (suc w)) (C.later (time i)) (C.rising (moved due off y i) (suc w) (omega (arith, t.2))) (end_late C (time i)))

  -- ---- where earliest times exist
  module _ (early : ℕ → ℕ) (pos : 1 ≤ m) (e : Earliest J early) where
    -- some move leaves a plan
    pub moved_enough : (top y : ℕ) → ((i : ℕ) → i < J.size → J.start i ≤ top) → ((i : ℕ) → i < J.size → top + J.size + off ≤ due i + y) → Movable m J due off y
    moved_enough top y h k =
        let s = serial J early e m top pos h in
        (s.0, s.1, (late_moved y s.0).0 (record { ends = λ i l. omega (arith, s.2 i l, k i l) }))

-- ---- within the limits, told from 4,096: a search by halving starts at 1 and 8,254
module _ (m : ℕ) (J : Jobs) (due early : ℕ → ℕ) (pos : 1 ≤ m) (e : Earliest J early) (lim : InLimits J due) (some : 0 < J.size) where
  pub late_outset : Narrowed (Movable m J due 4096) 1 8254
  late_outset = record {
    some = moved_enough m J due 4096 early pos e 4095 8254 lim.start (λ i l. omega (arith, lim.few, lim.above i l));
    none = λ y p. omega (arith, ((late_moved m J due 4096 y p.0).1 p.2).ends 0 some, lim.below 0 some);
  }

  pub lateness_ranged : (y : ℕ) → Lateness m J due 4096 y → Ranged y
  lateness_ranged y x =
      let low = (lateness_iff m J due 4096 y).0 x in
      record { low = omega (arith, late_outset.none y low.member); high = omega (arith, low.least 8254 late_outset.some) }

-- two readings of one list are as late
pub lateness_same : (m : ℕ) (L : Listed) (J K : Jobs) (due : ℕ → ℕ) (off y : ℕ) → Reads L J → Reads L K → Lateness m J due off y → Lateness m K due off y
lateness_same m L J K due off y r s x = (lateness_iff m K due off y).1 (lowest_along (Movable m J due off) (Movable m K due off)
    (λ z. (plan_one m L J K (moved due off z) r s, plan_one m L K J (moved due off z) s r)) y ((lateness_iff m J due off y).0 x))

-- ---- values at small lists
-- 0-1, 0-1, 0-1: late by 1
abbrev three : Jobs
three = record { size = 3; start = λ i. 0; before = λ a b. false }

three_late : Lateness 2 three (λ i. 1) 4096 4097
unfolding count
three_late = record {
  reached = (
    (λ i. i - 1),
    record { room = room; begun = λ i l. zero-le; ordered = λ a b la lb t. absurd t },
    record { ends = λ i l. omega arith },
  );
  least = λ slot v z k. le_by 4097 z (λ h. full slot (v.room 0) (λ i l. omega (arith, k.ends i l)));
}
  where
    room : (t : ℕ) → count 3 (λ i. eqb (i - 1) t) ≤ 2
    room zero = lit≤ {m = 2} {n = 2} tt
    room (suc t) = omega (arith, count_single 3 (suc (suc t)), count_mono 3 (λ i. eqb (i - 1) (suc t)) (λ i. eqb i (suc (suc t))) (λ i l x. eq→eqb i (suc (suc t)) (omega (arith, eqb→eq (i - 1) (suc t) x))))

    full : (slot : ℕ → ℕ) → count 3 (λ i. eqb (slot i) 0) ≤ 2 → ((i : ℕ) → i < 3 → slot i ≡ 0) → ⊥
    full slot r h =
        let x : 3 ≤ 2 = rw (h 0 (omega arith), h 1 (omega arith), h 2 (omega arith)) at r in
        omega arith
