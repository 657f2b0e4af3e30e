use Rattle.text.proofs.Each.{each_none, each_next}
use Rattle.report.proofs.lines.refused.Goals as goal

pub loop-place-init : goal.loop-place-init
loop-place-init c = each_none _ _

pub loop-place-preserved : goal.loop-place-preserved
loop-place-preserved c = each_next _ c.loop-place.invariant c.refused.ensures
