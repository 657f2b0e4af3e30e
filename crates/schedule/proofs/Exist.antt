-- A list has latest times, or it has neither a consistent row nor a plan beneath its deadlines.
-- Assumes nothing.
use mathlib.Core.Logic.{◌≢◌}
use mathlib.Core.Path.{◌≡◌}
use Prim.Native.Nat.{ℕ, zero, suc, ◌+◌, ◌-◌, ◌*◌, ◌≤◌, ◌<◌, suc-le-suc}
use native.Mathlib.Decide.{dec_lt}
use native.Mathlib.Nat.{le_trans, le_antisymm, le_of_eq, mul-le-mul_right, not-suc-le-zero}
use native.Mathlib.Omega.{arith}
use Rattle.schedule.specs.Row.{put}
use Rattle.schedule.specs.Jobs.{Jobs}
use Rattle.schedule.specs.Plan.{Valid, Meets, HasPlan}
use Rattle.schedule.specs.Times.{Earliest, Consistent, Breach, left, HasRow, Latest, Full, Open}
use Rattle.schedule.specs.Theory.Sum.{sum}
use Rattle.schedule.specs.Theory.Bound.{Bound}
use Rattle.schedule.proofs.Tests.{le_by}
use Rattle.schedule.proofs.Search.{decAny}
use Rattle.schedule.proofs.Rows.{put_le, put_falls}
use Rattle.schedule.proofs.Press.{N_bound}
use Rattle.schedule.proofs.Round.{unbroken, decBreach}
use Rattle.schedule.proofs.Sound.{valid_above}
use Rattle.schedule.proofs.Lower.{lower_meets, lower_above, left_less}

-- neither a consistent row beneath the deadlines nor a plan that meets them
pub record Hopeless (m : ℕ) (J : Jobs) (early due : ℕ → ℕ) : Type 0 where
  pub no_row : HasRow m J early due → ⊥
  pub no_plan : HasPlan m J due → ⊥

pub data Verdict (m : ℕ) (J : Jobs) (early due : ℕ → ℕ) : Type 0 where
  latest : (row : ℕ → ℕ) → Latest m J early due row → ((slot : ℕ → ℕ) → Valid m J slot → Meets J due slot → Meets J row slot) → Verdict m J early due
  hopeless : Hopeless m J early due → Verdict m J early due

-- a verdict, or a lower row
data Descent (m : ℕ) (J : Jobs) (early due row : ℕ → ℕ) : Type 0 where
  done : Verdict m J early due → Descent m J early due row
  down : (low : ℕ → ℕ) → sum J.size low < sum J.size row → Bound m J early due low → Descent m J early due row

module _ (m : ℕ) (J : Jobs) (early due : ℕ → ℕ) (e : Earliest J early) (pos : 1 ≤ m) where
  -- before any entry is lowered
  pub bound_start : Bound m J early due due
  bound_start = record { beneath = λ j l. omega arith; plans = λ slot v k. k; rows = λ low c x. x }

  module _ (row : ℕ → ℕ) (b : Bound m J early due row) where
    -- no breach, and each window open: the latest row
    pub bound_latest : Consistent m J early row → Latest m J early due row
    bound_latest c = record { consistent = c; beneath = b.beneath; greatest = b.rows }

    -- a window shut: no row and no plan
    pub bound_shut : (i : ℕ) → i < J.size → row i < early i + 1 → Hopeless m J early due
    bound_shut i l h = record {
      no_row = λ x. omega (arith, b.rows x.0 x.1 x.2 i l, x.1.window i l);
      no_plan = λ p. omega (arith, (b.plans p.0 p.1 p.2).ends i l, valid_above m J early p.0 e p.1 i l);
    }

    -- a breach: the entry lowered to what is left
    pub bound_lower : (i s d : ℕ) → Breach m J early row i s d → row i ≢ 0 → Bound m J early due (put row i (left m J early row i s d))
    bound_lower i s d h z = record {
      beneath = λ j l. le_trans (put_le row i (left m J early row i s d) j (omega (arith, left_less m pos J early row i s d h (omega arith)))) (b.beneath j l);
      plans = λ slot w k. lower_meets m pos J early row i s d h e slot w (b.plans slot w k);
      rows = λ low c x. lower_above m pos J early row i s d h low c (b.rows low c x);
    }

    -- no slot beyond s + size is full
    near : (i s d : ℕ) → Full m J early row i s d → d < suc (s + J.size)
    near i s d f =
        let x : 1 * (d - s) ≤ m * (d - s) = mul-le-mul_right (d - s) pos in
        omega (arith, N_bound J early row i s d)

    abbrev AtD : ℕ → ℕ → Type 0
    AtD i s = (d : ℕ) × (d < suc (s + J.size)) × Breach m J early row i s d

    abbrev AtS : ℕ → Type 0
    AtS i = (s : ℕ) × (s < suc (row i)) × AtD i s

    decBroken : Dec ((i : ℕ) × (i < J.size) × AtS i)
    decBroken =
        decAny J.size AtS (λ i. decAny (suc (row i)) (AtD i) (λ s. decAny (suc (s + J.size)) (λ d. Breach m J early row i s d) (λ d. decBreach m J early row i s d)))

    rules : Open J early row → Dec ((i : ℕ) × (i < J.size) × AtS i) → Descent m J early due row
    rules w (yes x) = broken x.0 x.2.0 x.2.2.0 x.2.2.2
      where
        broken : (i s d : ℕ) → Breach m J early row i s d → Descent m J early due row
        broken i s d h =
            let v : ℕ = left m J early row i s d in
            let x = w i h.within.job in
            down (put row i v) (put_falls J.size row i v h.within.job (left_less m pos J early row i s d h (omega arith))) (bound_lower i s d h (λ z. omega arith))
    rules w (no x) = done (latest row (bound_latest (unbroken m pos J early row w none)) b.plans)
      where
        none : (i s d : ℕ) → Breach m J early row i s d → ⊥
        none i s d h = x (i, h.within.job, (s, suc-le-suc h.within.till, (d, near i s d h.full, h)))

    descend : Descent m J early due row
    descend = windows (decAny J.size (λ i. row i < early i + 1) (λ i. dec_lt (row i) (early i + 1)))
      where
        windows : Dec ((i : ℕ) × (i < J.size) × (row i < early i + 1)) → Descent m J early due row
        windows (yes x) = done (hopeless (bound_shut x.0 x.1 x.2))
        windows (no x) = rules (λ i l. le_by (early i + 1) (row i) (λ h. x (i, l, h))) decBroken

  judge : (fuel : ℕ) (row : ℕ → ℕ) → sum J.size row < fuel → Bound m J early due row → Verdict m J early due
  judge zero row l b = absurd (not-suc-le-zero l)
  judge (suc fuel) row l b = go (descend row b) (judge fuel)
    where
      go : Descent m J early due row → ((low : ℕ → ℕ) → sum J.size low < fuel → Bound m J early due low → Verdict m J early due) → Verdict m J early due
      go (done x) rest = x
      go (down low h c) rest = rest low (omega arith) c

  -- latest times, or neither a row nor a plan
  pub verdict : Verdict m J early due
  verdict = judge (suc (sum J.size due)) due (omega arith) bound_start

  pub plan_has_latest : (slot : ℕ → ℕ) → Valid m J slot → Meets J due slot → (row : ℕ → ℕ) × Latest m J early due row × Meets J row slot
  plan_has_latest slot v k = go verdict
    where
      go : Verdict m J early due → (row : ℕ → ℕ) × Latest m J early due row × Meets J row slot
      go (latest row x f) = (row, x, f slot v k)
      go (hopeless x) = absurd (x.no_plan (slot, v, k))

-- there is one latest row
pub latest_one : (m : ℕ) (J : Jobs) (early due row other : ℕ → ℕ) → Latest m J early due row → Latest m J early due other → (i : ℕ) → i < J.size → row i ≡ other i
latest_one m J early due row other a b i l =
    le_antisymm (b.greatest row a.consistent a.beneath i l) (a.greatest other b.consistent b.beneath i l)

-- every plan that meets the deadlines meets the latest times
pub plan_meets : (m : ℕ) (J : Jobs) (early due row : ℕ → ℕ) → 1 ≤ m → Earliest J early → Latest m J early due row →
    (slot : ℕ → ℕ) → Valid m J slot → Meets J due slot → Meets J row slot
plan_meets m J early due row pos e a slot v k =
    let x = plan_has_latest m J early due e pos slot v k in
    record { ends = λ i l. le_trans (x.2.ends i l) (le_of_eq (latest_one m J early due x.0 row x.1 a i l)) }
