-- Deadlines tried at a number: later at a greater one, so that a search by halving finds the least that leaves a plan.
-- Assumes nothing.
use mathlib.Core.Bool.{Bool, true}
use mathlib.Core.List.{List}
use mathlib.Core.Logic.{◌↔◌}
use mathlib.Core.Path.{◌≡◌}
use Prim.Native.Nat.{ℕ, ◌+◌, ◌≤◌, ◌<◌}
use native.Mathlib.Nat.{le_refl}
use native.Mathlib.Omega.{arith}
use borrow.Author.Count.{below_more}
use lib.ListN.{length, get_or, set}
use lib.Seq.{get_or-set_same, get_or-set_other}
use Rattle.schedule.specs.Jobs.{Jobs}
use Rattle.schedule.specs.Plan.{HasPlan}
use Rattle.schedule.specs.Theory.Lowest.{Narrowed}
use Rattle.schedule.proofs.Lowest.{narrow_up, rising_stays}
use Rattle.book.specs.Told.{cores, jobs_in, row_in}
use Rattle.planner.specs.Memory.{Whether}
use Rattle.planner.specs.Inner.Tighten.{Tightens}
use Rattle.planner.specs.Inner.Tighten.Early.{Startable}
use Rattle.planner.specs.Inner.List.{Judgeable}
use Rattle.planner.specs.Inner.Late.{Fills, Leaves}
use Rattle.planner.proofs.Tightened.{tightens_whether}
use Rattle.planner.proofs.Whether.{whether_as}

-- ---- rows that may be judged
pub judged_ready : (starts deadlines before : List ℕ) → Judgeable starts deadlines before → Startable (length starts) starts before
judged_ready starts deadlines before s = record {
  few = s.few;
  long = le_refl (length starts);
  starts = λ i l. omega (arith, s.early i l);
  closed = s.closed;
  loopless = s.loopless;
  inside = s.held;
}

-- ---- deadlines tried
-- one more, after n
pub fills_more : (tried : ℕ → ℕ → ℕ) (deadlines : List ℕ) (k : ℕ) (row : List ℕ) (n i due : ℕ) → i < length row → i ≡ n → due ≡ tried (get_or deadlines i 0) k →
    ((j : ℕ) → j < n → get_or row j 0 ≡ tried (get_or deadlines j 0) k) → (j : ℕ) → j < n + 1 → get_or (set row i due) j 0 ≡ tried (get_or deadlines j 0) k
fills_more tried deadlines k row n i due l same e front = rw same (below_more (λ j. get_or (set row n due) j 0 ≡ tried (get_or deadlines j 0) k) n
    (λ j h. rw (get_or-set_other row n j due 0 (λ x. omega arith)) (front j h))
    (rw (get_or-set_same row n due 0 (omega (arith, same, l))) (rw same at e)))

module _ (tried : ℕ → ℕ → ℕ) (starts deadlines before : List ℕ) (s : Judgeable starts deadlines before) where
  abbrev J : Jobs
  J = jobs_in (length starts) starts before

  module _ (k : ℕ) (row : List ℕ) (wide : Bool) (f : Fills tried starts deadlines k row wide) where
    -- a plan meets the row exactly if it meets the deadlines tried
    fills_plan : wide ≡ true → HasPlan cores J (row_in row) ↔ Leaves tried starts deadlines before k
    fills_plan y = (
      (λ p. (p.0, p.1, record { ends = λ i l. omega (arith, p.2.ends i l, f.tries y i l) })),
      (λ p. (p.0, p.1, record { ends = λ i l. omega (arith, p.2.ends i l, f.tries y i l) })),
    )

    pub fills_whether : wide ≡ true → (next : List ℕ) (fits : Bool) → Tightens cores (length starts) starts before row next fits → Whether (Leaves tried starts deadlines before k) fits
    fills_whether y next fits t = whether_as (fills_plan y).0 (fills_plan y).1 (tightens_whether (length starts) starts before row next fits s.closed s.loopless t)

-- ---- the search
pub halve_up : (tried : ℕ → ℕ → ℕ) (starts deadlines before : List ℕ) → ((deadline j k : ℕ) → j ≤ k → tried deadline j ≤ tried deadline k) → (low high mid : ℕ) →
    Narrowed (Leaves tried starts deadlines before) low high → (Leaves tried starts deadlines before mid → ⊥) → Narrowed (Leaves tried starts deadlines before) (mid + 1) high
halve_up tried starts deadlines before rising =
    narrow_up (Leaves tried starts deadlines before) (rising_stays cores (jobs_in (length starts) starts before) (λ k i. tried (get_or deadlines i 0) k) (λ j k i. rising (get_or deadlines i 0) j k))
