use Rattle.std.proofs.Common.{arith, refl, sym, ◌∙◌}
use Rattle.std.proofs.lemmas.Bool.{le-ltb}
use Rattle.sets.specs.Sets.{has}
use Rattle.sets.proofs.Bits.{past_has}
use Rattle.sets.proofs.has.Goals as goal

pub returns-else-job-lt-JOBS : goal.returns-else-job-lt-JOBS
returns-else-job-lt-JOBS c = let a = c.args in le-ltb a.job.0 64 (omega (arith, c.if-job-lt-JOBS.false)) ∙ sym (past_has a.set a.job.0 c.ranges.set.fits (omega (arith, c.if-job-lt-JOBS.false)))

pub returns-then-job-lt-JOBS : goal.returns-then-job-lt-JOBS
unfolding has
returns-then-job-lt-JOBS c = refl
