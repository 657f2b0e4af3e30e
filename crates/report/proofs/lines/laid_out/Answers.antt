use Rattle.report.proofs.Ends.{handed}
use Rattle.report.proofs.lines.laid_out.Goals as goal

pub returns : goal.returns
returns c = rw c.unwrap_or-finish.ensures (handed _ c.requires _ _ _ c.told-bytes c.plan.ensures).front
