use mathlib.Core.Path.{refl}
use Rattle.report.specs.Inner.Ends.{passed}
use Rattle.report.proofs.Ends.{passed_next}
use Rattle.report.proofs.jobs.ends_in.Goals as goal

pub loop-i-init : goal.loop-i-init
unfolding passed
loop-i-init c = refl

pub loop-i-preserved : goal.loop-i-preserved
loop-i-preserved c = rw (c.loop-i.invariant, c.from.ensures) (passed_next c.args.plan.now _ c.loop-i.i)
