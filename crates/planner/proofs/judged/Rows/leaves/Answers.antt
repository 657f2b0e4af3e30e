use Rattle.planner.proofs.Halving.{fills_whether}
use Rattle.planner.proofs.judged.Rows.leaves.Goals as goal

pub returns-then-fill : goal.returns-then-fill
returns-then-fill g c = fills_whether g.T.Trial.tried _ _ _ c.args.self.now.judgeable c.args.k _ _ c.fill.ensures c.if-fill.true _ _ c.tighten.ensures
