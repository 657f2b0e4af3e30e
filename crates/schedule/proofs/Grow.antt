-- A list that grows: to tighten from latest times already found is to tighten from the deadlines as written.
-- Assumes nothing.
use mathlib.Core.Logic.{◌↔◌, inl, inr, ⊎_elim}
use mathlib.Core.Path.{◌≡◌, sym}
use Prim.Native.Nat.{ℕ, ◌+◌, ◌-◌, ◌*◌, ◌≤◌, ◌<◌}
use native.Mathlib.Nat.{le_refl, le_trans, le_of_eq, mul-le-mul_left}
use native.Mathlib.Omega.{arith}
use lib.Dec.{eqb}
use Rattle.schedule.specs.Row.{put}
use Rattle.schedule.specs.Jobs.{Jobs, Closed}
use Rattle.schedule.specs.Plan.{Valid, Meets}
use Rattle.schedule.specs.Times.{Earliest, N, Within, Consistent, Beneath, Latest, Full}
use Rattle.schedule.specs.Grow.{Extends, Added, Linked}
use Rattle.schedule.proofs.Tests.{le_or_lt}
use Rattle.schedule.proofs.Counting.{count_longer}
use Rattle.schedule.proofs.Rows.{put_all, put_same, put_other}
use Rattle.schedule.proofs.Press.{N_mono}
use Rattle.schedule.proofs.Round.{ruled, undivided}
use Rattle.schedule.proofs.Sound.{valid_above, rule_sound}
use Rattle.schedule.proofs.Exist.{plan_meets}
use Rattle.schedule.proofs.Greedy.{row_has_plan}

-- ---- the three kinds of growth
pub extends_self : (J : Jobs) → Extends J J
extends_self J = record { longer = omega arith; starts = λ i l. le_refl (J.start i); chains = λ a b la lb t. t }

pub added_extends : (J K : Jobs) (start : ℕ) → Added J K start → Extends J K
added_extends J K start x = record { longer = omega (arith, x.size); starts = λ i l. le_of_eq (sym (x.starts i l)); chains = λ a b la lb t. (x.chains a b la lb).1 t }

pub linked_extends : (J K : Jobs) (a b : ℕ) → Linked J K a b → Extends J K
linked_extends J K a b x = record { longer = omega (arith, x.size); starts = λ i l. le_of_eq (sym (x.starts i l)); chains = λ x' y lx ly t. (x.chains x' y lx ly).1 (inl t) }

-- deadlines for K that lie beneath those written, and that keep all that is beneath J's latest times too
pub record Drawn (J K : Jobs) (times written drawn : ℕ → ℕ) : Type 0 where
  pub below : Beneath K drawn written
  pub keeps : (i u : ℕ) → i < K.size → u ≤ written i → (i < J.size → u ≤ times i) → u ≤ drawn i

-- the latest times themselves are so drawn, for no more jobs
pub times_drawn : (J K : Jobs) (due times : ℕ → ℕ) → K.size ≡ J.size → Beneath J times due → Drawn J K times due times
times_drawn J K due times e h = record { below = λ i l. h i (omega arith); keeps = λ i u l a b. b (omega arith) }

-- and so are the latest times with an entry k, where every other job is J's
pub put_drawn : (J K : Jobs) (due times : ℕ → ℕ) (k v : ℕ) → ((i : ℕ) → i < K.size → (i ≡ k → ⊥) → i < J.size) → Beneath J times due →
    Drawn J K times (put due k v) (put times k v)
put_drawn J K due times k v old h = record {
  below = λ i l. put_all (λ (x y : ℕ). y ≤ put due k v x) times k v i (omega (arith, put_same due k v)) (λ f. omega (arith, h i (old i l f), put_other due k v i f));
  keeps = λ i u l a b. put_all (λ (x y : ℕ). u ≤ put due k v x → u ≤ y) times k v i (λ c. omega (arith, put_same due k v)) (λ f c. b (old i l f)) a;
}

pub put_sooner : (J : Jobs) (due : ℕ → ℕ) (k v : ℕ) → (k < J.size → v ≤ due k) → Beneath J (put due k v) due
put_sooner J due k v h i l = put_all (λ (x y : ℕ). x < J.size → y ≤ due x) due k v i h (λ f y. omega arith) l

module _ (J K : Jobs) (x : Extends J K) where
  within : (i : ℕ) → i < J.size → i < K.size
  within i l = omega (arith, x.longer)

  -- ---- plans and rows of K, seen from J
  pub early_grows : (early early' : ℕ → ℕ) → Earliest J early → Earliest K early' → Beneath J early early'
  early_grows early early' e f = e.least early' (record {
    above = λ i l. omega (arith, x.starts i l, f.raised.above i (within i l));
    apart = λ a b la lb t. f.raised.apart a b (within a la) (within b lb) (x.chains a b la lb t);
  })

  pub plan_back : (m : ℕ) (slot : ℕ → ℕ) → Valid m K slot → Valid m J slot
  plan_back m slot v = record {
    room = λ t. le_trans (count_longer J.size K.size (λ i. eqb (slot i) t) x.longer) (v.room t);
    begun = λ i l. omega (arith, x.starts i l, v.begun i (within i l));
    ordered = λ a b la lb t. v.ordered a b (within a la) (within b lb) (x.chains a b la lb t);
  }

  pub meets_back : (row slot : ℕ → ℕ) → Meets K row slot → Meets J row slot
  meets_back row slot k = record { ends = λ i l. k.ends i (within i l) }

  module _ (m : ℕ) (early early' : ℕ → ℕ) (pos : 1 ≤ m) (e : Earliest J early) (f : Earliest K early') where
    -- a consistent row of K that a plan meets is consistent for J
    consistent_back : (row slot : ℕ → ℕ) → Valid m K slot → Meets K row slot → Consistent m K early' row → Consistent m J early row
    consistent_back row slot v k c = (undivided m pos J early row).1 (record {
      window = λ i l. omega (arith, early_grows early early' e f i l, c.window i (within i l));
      rule = λ i s d w full. ⊎_elim (late i s d w full) (λ y. absurd (soon i s d w full y)) (le_or_lt (early' i) s);
    })
      where
        more : (i s d : ℕ) → i < J.size → N J early row i s d ≤ N K early' row i s d
        more i s d l = N_mono J K early row early' row i s d i s d x.longer (λ j h p. record {
          other = p.other;
          due = p.due;
          late = ⊎_elim (λ t. inl (x.chains i j l h t)) (λ y. inr (le_trans y (early_grows early early' e f j h))) p.late;
        })

        late : (i s d : ℕ) → Within J early row i s d → Full m J early row i s d → early' i ≤ s → N J early row i s d ≤ m * (d - row i)
        late i s d w full y =
            let n = more i s d w.job in
            le_trans n (ruled m pos K early' row c i s d (record { job = within i w.job; from = y; till = w.till; by = w.by }) (le_trans full n))

        -- the plan leaves no such triple
        soon : (i s d : ℕ) → Within J early row i s d → Full m J early row i s d → s < early' i → ⊥
        soon i s d w full y =
            let q = meets_back row slot k in
            let n = rule_sound m J early row slot e (plan_back m slot v) q i s d w.job w.by full in
            let a = valid_above m K early' slot f v i (within i w.job) in
            let o = q.ends i w.job in
            let r : m * ((d - (slot i + 1)) + 1) ≤ m * (d - s) = mul-le-mul_left m (omega (arith, w.by)) in
            omega arith

    module _ (due times written drawn : ℕ → ℕ) (sooner : Beneath J written due) (a : Latest m J early due times) (w : Drawn J K times written drawn) where
      -- the same plans meet either row of deadlines
      pub same_plans : (slot : ℕ → ℕ) → Valid m K slot → Meets K written slot ↔ Meets K drawn slot
      same_plans slot v = (to, from)
        where
          to : Meets K written slot → Meets K drawn slot
          to k =
              let old : Meets J times slot = plan_meets m J early due times pos e a slot (plan_back m slot v) (record { ends = λ i l. omega (arith, k.ends i (within i l), sooner i l) }) in
              record { ends = λ i l. w.keeps i (slot i + 1) l (k.ends i l) (λ h. old.ends i h) }

          from : Meets K drawn slot → Meets K written slot
          from k = record { ends = λ i l. le_trans (k.ends i l) (w.below i l) }

      module _ (two : m ≤ 2) (closed : Closed K) where
        -- growth raises no latest time
        row_falls : (row : ℕ → ℕ) → Consistent m K early' row → Beneath K row written → Beneath J row times
        row_falls row c h =
            let p = row_has_plan m K early' row pos two closed f c in
            a.greatest row (consistent_back row p.0 p.1 p.2 c) (λ j l. le_trans (h j (within j l)) (sooner j l))

        -- a consistent row beneath the deadlines written is beneath those drawn
        beneath_drawn : (row : ℕ → ℕ) → Consistent m K early' row → Beneath K row written → Beneath K row drawn
        beneath_drawn row c h i l = w.keeps i (row i) l (h i l) (λ y. row_falls row c h i y)

        pub latest_falls : (row : ℕ → ℕ) → Latest m K early' written row → Beneath J row times
        latest_falls row b = row_falls row b.consistent b.beneath

        -- the latest row from the deadlines written is the latest row from those drawn
        pub resume : (row : ℕ → ℕ) → Latest m K early' written row ↔ Latest m K early' drawn row
        resume row = (
          (λ b. record {
            consistent = b.consistent;
            beneath = beneath_drawn row b.consistent b.beneath;
            greatest = λ other c h. b.greatest other c (λ i l. le_trans (h i l) (w.below i l));
          }),
          (λ b. record {
            consistent = b.consistent;
            beneath = λ i l. le_trans (b.beneath i l) (w.below i l);
            greatest = λ other c h. b.greatest other c (beneath_drawn other c h);
          }),
        )

-- a deadline not below the latest time held changes nothing
pub latest_keeps : (m : ℕ) (J : Jobs) (early due other times : ℕ → ℕ) → Beneath J other due → Beneath J times other → Latest m J early due times → Latest m J early other times
latest_keeps m J early due other times x y a =
    record { consistent = a.consistent; beneath = y; greatest = λ low c h. a.greatest low c (λ i l. le_trans (h i l) (x i l)) }
