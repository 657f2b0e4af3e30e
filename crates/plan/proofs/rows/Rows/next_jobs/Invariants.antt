-- `plan::rows::Rows::next_jobs` meets its contract. The invariant: `best` and `next` are the choice among the jobs passed, and the iterator has the jobs left beyond.
use Rattle.plan.specs.Inner.Rows.{told_by}
use Rattle.plan.proofs.TwoBest.{Walked}
use Rattle.plan.proofs.rows.Rows.next_jobs.Given as goal

abbrev pub invariant-loop-job : goal.invariant-loop-job
invariant-loop-job l = Walked (told_by l.self) l.left l.t.0 l.job-iterator.0 l.best l.next
