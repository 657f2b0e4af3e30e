use Rattle.planner.proofs.HandedOver.{settles_fits, settles_none}
use Rattle.planner.proofs.judged.Rows.settle.Goals as goal

pub returns-then-not-tighten : goal.returns-then-not-tighten
returns-then-not-tighten c =
    rw c.into.ensures (settles_none _ _ _ _ c.args.self.now.judgeable c.copy_from_slice.ensures.after _ _ c.tighten.ensures _ c.if-not-tighten.true)

pub returns : goal.returns
returns c = settles_fits _ _ _ _ c.args.self.now.judgeable c.copy_from_slice.ensures.after _ _ c.tighten.ensures _ _ c.requires c.copy_from_slice-2.ensures.after c.if-not-tighten.false
