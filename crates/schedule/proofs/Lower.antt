-- One entry of a row lowered to what the rule leaves it: no plan and no consistent row is lost.
-- Assumes nothing.
use mathlib.Core.Logic.{◌⊎◌, inl, inr, ⊎_elim}
use Prim.Native.Nat.{ℕ, ◌+◌, ◌-◌, ◌*◌, ◌≤◌, ◌<◌}
use native.Mathlib.Nat.{le_trans, le_refl}
use native.Mathlib.Omega.{arith}
use Rattle.schedule.specs.Row.{put}
use Rattle.schedule.specs.Jobs.{Jobs}
use Rattle.schedule.specs.Plan.{Valid, Meets}
use Rattle.schedule.specs.Times.{Earliest, N, up, Consistent, Breach, left, Beneath}
use Rattle.schedule.proofs.Tests.{le_or_lt, le_by}
use Rattle.schedule.proofs.Rows.{put_all}
use Rattle.schedule.proofs.Press.{N_mono}
use Rattle.schedule.proofs.Round.{fits_up, ruled}
use Rattle.schedule.proofs.Sound.{rule_sound}

module _ (m : ℕ) (pos : 1 ≤ m) (J : Jobs) (early row : ℕ → ℕ) (i s d : ℕ) (b : Breach m J early row i s d) where
  -- a plan ends i in time
  pub plan_under : Earliest J early → (slot : ℕ → ℕ) → Valid m J slot → Meets J row slot → slot i + 1 + up m (N J early row i s d) ≤ d
  plan_under e slot v k =
      fits_up m pos (N J early row i s d) (slot i + 1) d (omega (arith, k.ends i b.within.job, b.within.by))
      (rule_sound m J early row slot e v k i s d b.within.job b.within.by b.full)

  -- a lower row counts no less, from an earlier s
  more : (low : ℕ → ℕ) → Beneath J low row → (s' : ℕ) → s' ≤ s → N J early row i s d ≤ N J early low i s' d
  more low under s' h =
      N_mono J J early row early low i s d i s' d (le_refl J.size)
      (λ j l p. record { other = p.other; due = omega (arith, under j l, p.due); late = ⊎_elim (λ t. inl t) (λ x. inr (omega arith)) p.late })

  -- a consistent row has i in time
  pub row_under : (low : ℕ → ℕ) → Consistent m J early low → Beneath J low row → low i + up m (N J early row i s d) ≤ d
  row_under low c under = fits_up m pos (N J early row i s d) (low i) d by (le_by (N J early row i s d) (m * (d - low i)) (λ over. crowded over (le_or_lt s (low i))))
    where
      by : low i ≤ d
      by = omega (arith, under i b.within.job, b.within.by)

      crowded : m * (d - low i) < N J early row i s d → (s ≤ low i) ⊎ (low i < s) → ⊥
      crowded over (inl x) =
          let n = more low under s (le_refl s) in
          omega (arith, ruled m pos J early low c i s d (record { job = b.within.job; from = b.within.from; till = x; by = by }) (le_trans b.full n))
      crowded over (inr x) =
          let n = more low under (low i) (omega arith) in
          let w = c.window i b.within.job in
          omega (arith, ruled m pos J early low c i (low i) d (record { job = b.within.job; from = omega arith; till = le_refl (low i); by = by }) (omega arith))

  -- so neither is lost where i is lowered to what is left
  pub lower_meets : Earliest J early → (slot : ℕ → ℕ) → Valid m J slot → Meets J row slot → Meets J (put row i (left m J early row i s d)) slot
  unfolding left
  lower_meets e slot v k = record {
    ends = λ j l. put_all (λ (x y : ℕ). slot x + 1 ≤ y) row i (left m J early row i s d) j (omega (arith, plan_under e slot v k)) (λ f. k.ends j l);
  }

  pub lower_above : (low : ℕ → ℕ) → Consistent m J early low → Beneath J low row → Beneath J low (put row i (left m J early row i s d))
  unfolding left
  lower_above low c under j l = put_all (λ (x y : ℕ). low x ≤ y) row i (left m J early row i s d) j (omega (arith, row_under low c under)) (λ f. under j l)

  -- and i is lowered
  pub left_less : 0 < row i → left m J early row i s d < row i
  unfolding left
  left_less h = omega (arith, b.over)
