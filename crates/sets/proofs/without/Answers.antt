use Rattle.sets.proofs.Bits.{without_has}
use Rattle.sets.proofs.Range.{without_out}
use Rattle.sets.proofs.without.Goals as goal

pub returns-then-job-ge-JOBS : goal.returns-then-job-ge-JOBS
returns-then-job-ge-JOBS c = let a = c.args in without_out a.set a.job.0 c.ranges.set.fits c.if-job-ge-JOBS.true

pub returns : goal.returns
returns c = let a = c.args in without_has a.set a.job.0 c.ranges.set.fits c.if-job-ge-JOBS.false
