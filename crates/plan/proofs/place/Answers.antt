use mathlib.Core.List.{[], ◌∷◌}
use mathlib.Core.Path.{◌≡◌, refl, subst, ◌∙◌}
use native.Mathlib.Omega.{arith}
use Rattle.refusal.specs.Says.{reason_number}
use Rattle.refusal.specs.Table.{refused}
use Rattle.plan.specs.Inner.Rows.{told_by}
use Rattle.plan.specs.Plan.{plan_of}
use Rattle.plan.specs.Place.{Places}
use Rattle.plan.proofs.BookPlan.{book_plan}
use Rattle.plan.proofs.place.Goals as goal

pub returns-then-job-rows : goal.returns-then-job-rows
returns-then-job-rows c =
    subst (λ k. Places k c.args.job.0 (reason_number c.into.result.reason) (c.into.result.value ∷ [])) c.of-rows.ensures
    (rw c.into.ensures (refused 5 0 (c.if-job-rows.true, refl, refl) refl))

-- the job ends by its latest time
pub overflow_sub-result : goal.overflow_sub-result
overflow_sub-result c =
    let k = told_by c.of-rows.result in
    let i = c.args.job.0 in
    let slot : c.slot_of-slot.result.0 ≡ plan_of k i = c.slot_of-slot.ensures ∙ c.lay_out-laid.ensures.at i c.if-job-rows.false in
    omega (arith, slot, c.from.ensures, (book_plan k (rw c.of-rows.ensures c.requires)).meets.ends i c.if-job-rows.false)
