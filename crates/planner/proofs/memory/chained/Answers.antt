use borrow.Author.Count.{below_more}
use Rattle.planner.proofs.memory.chained.Goals as goal

pub loop-b-preserved : goal.loop-b-preserved
loop-b-preserved c = below_more _ _ c.loop-b.invariant (c.chained_at.ensures.yes c.if-not-chained_at.false)
