use native.Mathlib.Omega.{arith}
use Rattle.planner.proofs.TightenEarly.{reached_next, reached_after}
use Rattle.planner.proofs.tighten.early.after.Goals as goal

pub loop-job-preserved : goal.loop-job-preserved
loop-job-preserved c =
    let a = c.args in
    let q = c.loop-job in
    let next = c.in-Some.ensures.steps in
    reached_next a.start a.set a.early.now q.time q.job-iterator.0 q.invariant c.in-Some.job.0 c.next.new.self.0 c.max-time.result next.left next.member (omega (arith, c.from.ensures, c.max-time.ensures))

pub returns : goal.returns
returns c = reached_after _ _ _ _ _ c.loop-job.invariant c.in-None.ensures.steps.0
