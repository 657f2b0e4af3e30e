-- `jobfile::writer::Written::put_orders` meets its contract. The invariant: the orders of the jobs passed are stored.
use lib.ListN.{length}
use Rattle.jobfile.specs.Writer.{gather, bytes_of_all, follower_records}
use Rattle.jobfile.specs.Inner.Writer.{Continues}
use Rattle.jobfile.proofs.writer.Written.put_orders.Given as goal

abbrev pub invariant-loop-a : goal.invariant-loop-a
invariant-loop-a l = Continues (bytes_of_all (gather l.a (follower_records (length l.before) l.before))) l.initial.self l.self
