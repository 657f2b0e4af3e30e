-- A row lowered at one job, and step by step.
-- Assumes nothing.
use mathlib.Core.Logic.{⊎_elim}
use mathlib.Core.Path.{◌≡◌, ap}
use Prim.Native.Nat.{ℕ, ◌+◌, ◌-◌, ◌≤◌, ◌<◌, min}
use native.Mathlib.Nat.{le_trans}
use native.Mathlib.Omega.{arith}
use lib.Dec.{T}
use Rattle.schedule.specs.Jobs.{Jobs}
use Rattle.schedule.specs.Plan.{Valid, Meets, HasPlan}
use Rattle.schedule.specs.Times.{N, up, Breach, Consistent, Raised, Earliest, Beneath}
use Rattle.schedule.proofs.Tests.{le_or_lt}
use Rattle.schedule.proofs.Rows.{put_all, put_le}
use Rattle.schedule.proofs.Round.{up_least, up_rises}
use Rattle.schedule.proofs.Sound.{valid_above}
use Rattle.schedule.proofs.Facts.{follower_later}
use Rattle.schedule.proofs.Lower.{plan_under, row_under}
use Rattle.schedule.specs.Theory.Bound.{Bound}
use Rattle.planner.specs.Inner.Tighten.Sink.{Eased}
use Rattle.planner.specs.Inner.Tighten.Rule.{Pressure, Ruled}

-- one bound after another
pub bound_join : (m : ℕ) (J : Jobs) (early due row next : ℕ → ℕ) → Bound m J early due row → Bound m J early row next → Bound m J early due next
bound_join m J early due row next a b = record {
  beneath = λ i l. le_trans (b.beneath i l) (a.beneath i l);
  plans = λ slot v k. b.plans slot v (a.plans slot v k);
  rows = λ low c x. b.rows low c (a.rows low c x);
}

-- a bound speaks of the row's entries alone
pub bound_same : (m : ℕ) (J : Jobs) (early due row next : ℕ → ℕ) → ((i : ℕ) → i < J.size → row i ≡ next i) → Bound m J early due row → Bound m J early due next
bound_same m J early due row next e b = record {
  beneath = λ i l. omega (arith, e i l, b.beneath i l);
  plans = λ slot v k. record { ends = λ i l. omega (arith, e i l, (b.plans slot v k).ends i l) };
  rows = λ low c x i l. omega (arith, e i l, b.rows low c x i l);
}

-- a job without a time: no plan
pub bound_none : (m : ℕ) (J : Jobs) (early due row : ℕ → ℕ) → Bound m J early due row → (i : ℕ) → i < J.size → row i ≡ 0 → HasPlan m J due → ⊥
bound_none m J early due row b i l z p = omega (arith, (b.plans p.0 p.1 p.2).ends i l)

module _ (m : ℕ) (pos : 1 ≤ m) (J : Jobs) (early row : ℕ → ℕ) {i : ℕ} (l : i < J.size) where
  -- a time below which no plan and no consistent row has the job
  pub eased_by : (time : ℕ) → time ≤ row i → ((slot : ℕ → ℕ) → Valid m J slot → Meets J row slot → slot i + 1 ≤ time) →
      ((low : ℕ → ℕ) → Consistent m J early low → Beneath J low row → low i ≤ time) → Eased m J early row i time
  eased_by time h plan under = record {
    below = h;
    bound = record {
      beneath = λ j lj. put_le row i time j h;
      plans = λ slot v k. record { ends = λ j lj. put_all (λ (x y : ℕ). slot x + 1 ≤ y) row i time j (plan slot v k) (λ f. k.ends j lj) };
      rows = λ low c x j lj. put_all (λ (x y : ℕ). low x ≤ y) row i time j (under low c x) (λ f. x j lj);
    };
  }

  pub eased_same : Eased m J early row i (row i)
  eased_same = eased_by (row i) (omega arith) (λ slot v k. k.ends i l) (λ low c x. x i l)

  -- one below a follower, where that is less
  pub eased_follow : Raised J early → (j : ℕ) → j < J.size → T (J.before i j) → (time next : ℕ) → Eased m J early row i time → next ≡ min time (row j - 1) → Eased m J early row i next
  eased_follow r j lj t time next e least = ⊎_elim
      (λ h. let same : next ≡ time = omega arith in rw same e)
      (λ h. eased_by next (omega (arith, e.below)) (λ slot v k. omega (arith, v.ordered i j l lj t, k.ends j lj))
      (λ low c x. omega (arith, follower_later m J early low pos r c i j l lj t, x j lj)))
      (le_or_lt time (row j - 1))

  module _ (e : Earliest J early) where
    -- a window shut
    pub ruled_shut : row i ≤ early i → Eased m J early row i 0
    ruled_shut h = eased_by 0 (omega arith) (λ slot v k. omega (arith, k.ends i l, valid_above m J early slot e v i l)) (λ low c x. omega (arith, c.window i l, x i l))

    module _ {d n : ℕ} (p : Pressure m J early row i d n) (by : row i ≤ d) (open_window : early i < row i) where
      -- enough is left
      pub ruled_still : row i ≤ d - up m n → Ruled m J early row i d (row i)
      ruled_still h = record {
        eased = eased_same;
        obeys = λ s. record {
          window = omega arith;
          own = λ b. omega (arith, b.over, up_rises m pos (N J early row i (row i) d) n (p.own b.full));
          other = λ j lj b. omega (arith, b.over, up_rises m pos (N J early row i (early j) d) n (p.other j lj b.within.from b.within.till b.full));
        };
      }

      -- where more is asked than is left, some s asks for it
      broken : d < row i + up m n → (s : ℕ) × Breach m J early row i s d × (N J early row i s d ≡ n)
      broken h = ⊎_elim (λ z. absurd (omega (arith, (up_least m pos n 0).1 (omega arith))))
          (λ x. (x.0, record { within = x.1; full = x.2; over = omega (arith, ap (up m) x.3) }, x.3)) p.some

      pub ruled_full : d - up m n < row i → d - up m n ≤ early i → Eased m J early row i 0
      ruled_full h f = let b = broken (omega arith) in eased_by 0 (omega arith)
          (λ slot v k. omega (arith, plan_under m pos J early row i b.0 d b.1 e slot v k, valid_above m J early slot e v i l, ap (up m) b.2))
          (λ low c x. omega (arith, row_under m pos J early row i b.0 d b.1 low c x, c.window i l, ap (up m) b.2))

      pub ruled_lower : d - up m n < row i → early i < d - up m n → Ruled m J early row i d (d - up m n)
      ruled_lower h f = let b = broken (omega arith) in record {
        eased = eased_by (d - up m n) (omega arith)
            (λ slot v k. omega (arith, plan_under m pos J early row i b.0 d b.1 e slot v k, ap (up m) b.2))
            (λ low c x. omega (arith, row_under m pos J early row i b.0 d b.1 low c x, ap (up m) b.2));
        obeys = λ s. absurd (omega arith);
      }
