-- `plan::rows::Rows::lay_out` meets its contract. The invariant: the layout of the slots so far, of which the last was not in vain.
use mathlib.Core.Logic.{◌⊎◌}
use mathlib.Core.Path.{◌≡◌}
use Prim.Native.Nat.{◌-◌, ◌≤◌}
use Rattle.book.specs.Told.{jobs_of, latest_of, cores}
use Rattle.plan.specs.Plan.{horizon}
use Rattle.plan.specs.Inner.Rows.{told_by}
use Rattle.plan.specs.Inner.Layout.{Laid, Late}
use Rattle.plan.proofs.rows.Rows.lay_out.Given as goal

abbrev pub invariant-loop-stage : goal.invariant-loop-stage
invariant-loop-stage l =
    let k = told_by l.self in
    (l.stage.next.0 ≤ horizon) × Laid cores (jobs_of k) (latest_of k) l.slot l.stage × ((l.stage.next.0 ≡ 0) ⊎ Late cores (jobs_of k) (latest_of k) l.stage.next.0)

abbrev pub decreases-loop-stage : goal.decreases-loop-stage
decreases-loop-stage l = horizon - l.stage.next.0
