use Rattle.refusal.proofs.Says.{says_told}
use Rattle.planner.specs.Late.{Shortens}
use Rattle.firmware.proofs.list.firmware_shortest.Goals as goal

pub returns : goal.returns
returns c = let a = c.args in rw (c.tell.ensures.number, c.tell.ensures.value) (says_told (Shortens a.starts.now a.deadlines.now a.pairs.now) _ c.shortest.ensures)
