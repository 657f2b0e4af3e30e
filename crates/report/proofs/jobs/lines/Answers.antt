use Rattle.text.proofs.Each.{each_none, each_next}
use Rattle.report.proofs.jobs.lines.Goals as goal

pub loop-i-init : goal.loop-i-init
loop-i-init c = each_none _ _

pub loop-i-preserved : goal.loop-i-preserved
loop-i-preserved c = each_next _ c.loop-i.invariant (rw c.ends_in-ends.ensures at c.job.ensures)
