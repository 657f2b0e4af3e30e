use native.Mathlib.Omega.{arith}
use borrow.Author.Rules.{rules}
use Rattle.planner.proofs.Pairs.{Beside, beside}
use Rattle.planner.proofs.Halving.{fills_more}
use Rattle.planner.proofs.judged.Rows.fill.Goals as goal

pub loop-i-preserved : goal.loop-i-preserved
loop-i-preserved g c =
    let j = c.in-Some in
    let l = c.loop-i in
    let few = c.args.self.now.judgeable.few in
    let m : Beside c.args.self.now.starts.now c.args.self.now.deadlines.now l.i-iterator c.next.new.self j.i j.field-0-1-0.now j.field-0-1-1.now = beside _ _ _ _ _ j.field-0-1-0 j.field-0-1-1 l.invariant.0 (search rules) in
    (m.onward, search rules, rw m.counts (fills_more g.T.Trial.tried _ c.args.k l.row _ j.i _ (omega (arith, m.below, few, l.invariant.1)) m.place (rw m.right at c.tried-due.ensures) l.invariant.2))
