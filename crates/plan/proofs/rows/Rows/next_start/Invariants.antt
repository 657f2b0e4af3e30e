-- `plan::rows::Rows::next_start` meets its contract. The invariant: no start passed is between t and `next`.
use Rattle.book.specs.Told.{row_in}
use Rattle.plan.specs.Inner.Choice.{Wakes}
use Rattle.plan.proofs.rows.Rows.next_start.Given as goal

abbrev pub invariant-loop-start : goal.invariant-loop-start
invariant-loop-start l = Wakes l.start-index (row_in l.self.start.now) l.t.0 l.next
