use borrow.Author.Rules.{rules}
use Rattle.schedule.proofs.Lowest.{narrow_end}
use Rattle.planner.proofs.Halving.{halve_up}
use Rattle.planner.proofs.judged.Rows.least.Goals as goal

pub loop-from-preserved : goal.loop-from-preserved
loop-from-preserved g c =
    let l = c.loop-from in
    (l.invariant.0, halve_up g.T.Trial.tried _ _ _ g.met.T.Trial.rising _ _ _ l.invariant.1 (c.leaves.ensures.no c.if-leaves.false))

pub returns : goal.returns
returns g c = let l = c.loop-from in (l.invariant.0, narrow_end _ _ _ l.invariant.1 (search rules))
