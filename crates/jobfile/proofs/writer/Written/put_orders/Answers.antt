use Rattle.jobfile.proofs.Bytes.{each_none, each_next, each_room}
use Rattle.jobfile.proofs.writer.Written.put_orders.Goals as goal

pub loop-a-init : goal.loop-a-init
loop-a-init c = each_none _ _

pub put_followers-requires : goal.put_followers-requires
put_followers-requires c = (c.requires.0, c.loop-a-test.true, each_room _ _ _ c.loop-a-test.true c.requires.1 c.loop-a.invariant)

pub loop-a-preserved : goal.loop-a-preserved
loop-a-preserved c = each_next _ _ c.loop-a.invariant c.put_followers.ensures
