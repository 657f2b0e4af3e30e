-- What tightening tells of a row: whether some plan meets it.
-- Assumes nothing.
use mathlib.Core.Bool.{Bool}
use mathlib.Core.List.{List}
use Prim.Native.Nat.{ℕ}
use native.Mathlib.Omega.{arith}
use Rattle.schedule.specs.Jobs.{Closed, Loopless}
use Rattle.schedule.specs.Plan.{HasPlan}
use Rattle.schedule.proofs.Early.{exists_earliest}
use Rattle.schedule.proofs.Theorem.{row_iff_plan}
use Rattle.book.specs.Told.{cores, jobs_in, row_in}
use Rattle.planner.specs.Memory.{Whether}
use Rattle.planner.specs.Inner.Tighten.{Tightens}

pub tightens_whether : (size : ℕ) (start before row next : List ℕ) (fits : Bool) → Closed (jobs_in size start before) → Loopless (jobs_in size start before) → Tightens cores size start before row next fits →
    Whether (HasPlan cores (jobs_in size start before) (row_in row)) fits
tightens_whether size start before row next fits closed loopless t =
    let e = exists_earliest (jobs_in size start before) closed loopless in
    record {
      yes = λ y.
          let x = t.latest y e.0 e.1 in
          (row_iff_plan cores (jobs_in size start before) e.0 (row_in row) (omega arith) (omega arith) closed e.1).0 (row_in next, x.consistent, x.beneath);
      no = t.none;
    }
