use mathlib.Core.Path.{sym, ◌∙◌}
use Rattle.plan.specs.Inner.Rows.{told_by}
use Rattle.plan.proofs.TwoBest.{walked_none, walked_all, walked_on}
use Rattle.plan.proofs.rows.Rows.next_jobs.Goals as goal

pub loop-job-init : goal.loop-job-init
loop-job-init c = rw c.into_iter-job-iterator.ensures.into_iter_gives (walked_none _ _ _)

pub loop-job-preserved-then-sooner : goal.loop-job-preserved-then-sooner
loop-job-preserved-then-sooner c =
    (walked_on (told_by c.args.self.now) c.args.left c.args.t.0 _ _ _ c.loop-job.invariant c.requires _ _ c.in-Some.ensures.steps).ahead
    (sym c.ready.ensures ∙ c.if-ready.true) (sym c.sooner.ensures ∙ c.if-sooner.true)

pub loop-job-preserved-then-sooner-2 : goal.loop-job-preserved-then-sooner-2
loop-job-preserved-then-sooner-2 c =
    (walked_on (told_by c.args.self.now) c.args.left c.args.t.0 _ _ _ c.loop-job.invariant c.requires _ _ c.in-Some.ensures.steps).between
    (sym c.ready.ensures ∙ c.if-ready.true) (sym c.sooner.ensures ∙ c.if-sooner.false) (sym c.sooner-else-sooner.ensures ∙ c.if-sooner-2.true)

pub loop-job-preserved-else-sooner-2 : goal.loop-job-preserved-else-sooner-2
loop-job-preserved-else-sooner-2 c =
    (walked_on (told_by c.args.self.now) c.args.left c.args.t.0 _ _ _ c.loop-job.invariant c.requires _ _ c.in-Some.ensures.steps).third
    (sym c.ready.ensures ∙ c.if-ready.true) (sym c.sooner.ensures ∙ c.if-sooner.false) (sym c.sooner-else-sooner.ensures ∙ c.if-sooner-2.false)

pub loop-job-preserved : goal.loop-job-preserved
loop-job-preserved c =
    (walked_on (told_by c.args.self.now) c.args.left c.args.t.0 _ _ _ c.loop-job.invariant c.requires _ _ c.in-Some.ensures.steps).skipped
    (sym c.ready.ensures ∙ c.if-ready.false)

pub returns : goal.returns
returns c = walked_all _ _ _ _ _ _ c.loop-job.invariant c.in-None.ensures.steps.0
