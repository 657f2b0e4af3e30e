use Rattle.sets.proofs.Range.{with_is}
use Rattle.sets.proofs.with.Goals as goal

pub returns : goal.returns
returns c = let a = c.args in with_is a.set a.job.0 c.if-job-ge-JOBS.false
