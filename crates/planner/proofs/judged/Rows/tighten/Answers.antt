use Rattle.planner.proofs.Pending.{nothing_low, nothing_ready, nothing_tight}
use Rattle.planner.proofs.Halving.{judged_ready}
use Rattle.planner.proofs.judged.Rows.tighten.Goals as goal

pub invariant_of-posed : goal.invariant_of-posed
invariant_of-posed c =
    let r = c.args.self.now.judgeable in
    record { below = nothing_low _ c.none.ensures; ready = nothing_ready _ _ _ _ c.none.ensures r.rows (judged_ready _ _ _ r) }

pub returns : goal.returns
returns c = nothing_tight _ _ _ _ _ _ _ _ c.none.ensures c.args.self.now.judgeable.rows c.tighten.ensures
