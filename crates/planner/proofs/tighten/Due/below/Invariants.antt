use Rattle.planner.proofs.TightenDue.{Gathered}
use Rattle.planner.proofs.tighten.Due.below.Given as goal

abbrev pub invariant-loop-job : goal.invariant-loop-job
invariant-loop-job l = Gathered l.limit l.among l.row l.d l.jobs l.job-iterator.0
