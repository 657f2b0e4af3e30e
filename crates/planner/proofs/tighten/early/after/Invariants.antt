use Rattle.planner.proofs.TightenEarly.{Reached}
use Rattle.planner.proofs.tighten.early.after.Given as goal

abbrev pub invariant-loop-job : goal.invariant-loop-job
invariant-loop-job l = Reached l.start l.set l.early l.time l.job-iterator.0
