use mathlib.Core.Path.{◌∙◌}
use Rattle.plan.specs.Inner.Rows.{told_by}
use Rattle.plan.proofs.OneSlot.{core_0_is, idle_serves, core_1_is, lone_serves, full_serves}
use Rattle.plan.proofs.rows.Rows.serve.Goals as goal

-- both cores idle
pub returns-in_default : goal.returns-in_default
returns-in_default c =
    let a = c.args in
    let k = told_by a.self.now in
    let core_0 = (rw c.in_default.is at c.next_jobs-best.ensures.best).chosen ∙ core_0_is k a.slot.now a.stage c.requires in
    idle_serves k a.slot.now a.stage c.requires _ core_0 c.next_start.ensures

-- core 1 idle
pub returns-in_default-next : goal.returns-in_default-next
returns-in_default-next c =
    let a = c.args in
    let k = told_by a.self.now in
    let first = rw c.in-Some.is at c.next_jobs-best.ensures.best in
    let core_0 = first.chosen ∙ core_0_is k a.slot.now a.stage c.requires in
    let core_1 = (rw (c.in-Some.is, c.in_default-next.is) at c.next_jobs-best.ensures.next).chosen ∙ core_1_is k a.slot.now a.stage c.requires _ _ core_0 first.below c.without.ensures in
    lone_serves k a.slot.now a.stage c.requires _ _ core_0 first.below c.without.ensures core_1

-- a job on each core
pub returns : goal.returns
returns c =
    let a = c.args in
    let k = told_by a.self.now in
    let first = rw c.in-Some.is at c.next_jobs-best.ensures.best in
    let second = rw (c.in-Some.is, c.in-Some-next.is) at c.next_jobs-best.ensures.next in
    let core_0 = first.chosen ∙ core_0_is k a.slot.now a.stage c.requires in
    let core_1 = second.chosen ∙ core_1_is k a.slot.now a.stage c.requires _ _ core_0 first.below c.without.ensures in
    full_serves k a.slot.now a.stage c.requires _ _ core_0 first.below c.without.ensures
    _ _ _ core_1 second.below c.without-2.ensures c.with.ensures
