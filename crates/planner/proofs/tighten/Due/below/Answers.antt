use Rattle.planner.proofs.TightenDue.{gathered_none, gathered_due, gathered_nobody}
use Rattle.planner.proofs.tighten.Due.below.Goals as goal

pub loop-job-init : goal.loop-job-init
loop-job-init c = let a = c.args in rw c.into_iter-job-iterator.ensures.into_iter_gives (gathered_none a.limit a.among a.row.now)

pub returns-then-jobs-eq0 : goal.returns-then-jobs-eq0
returns-then-jobs-eq0 c = gathered_nobody c.loop-job.invariant c.in-None.ensures.steps.0 c.if-jobs-eq0.true

pub returns : goal.returns
returns c = gathered_due c.loop-job.invariant c.in-None.ensures.steps.0 c.if-jobs-eq0.false
