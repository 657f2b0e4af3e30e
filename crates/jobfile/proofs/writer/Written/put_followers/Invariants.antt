-- `jobfile::writer::Written::put_followers` meets its contract. The invariant: the orders of the jobs passed are stored.
use Rattle.jobfile.specs.Writer.{gather, bytes_of_all, order_record}
use Rattle.jobfile.specs.Inner.Writer.{Continues}
use Rattle.jobfile.proofs.writer.Written.put_followers.Given as goal

abbrev pub invariant-loop-b : goal.invariant-loop-b
invariant-loop-b l = Continues (bytes_of_all (gather l.b (order_record l.before l.job.0))) l.initial.self l.self
