-- `jobfile::writer::Written::put_jobs` meets its contract. The invariant: the records of the jobs passed are stored.
use lib.ListN.{length}
use Rattle.jobfile.specs.Writer.{gather, bytes_of_all, job_record}
use Rattle.jobfile.specs.Inner.Writer.{Continues}
use Rattle.jobfile.proofs.writer.Written.put_jobs.Given as goal

abbrev pub invariant-loop-start : goal.invariant-loop-start
invariant-loop-start l = Continues (bytes_of_all (gather (length l.yielded) (job_record l.starts l.latest))) l.initial.self l.self
