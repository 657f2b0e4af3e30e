use mathlib.Core.Path.{sym, ◌∙◌}
use Rattle.jobfile.proofs.Bytes.{all_one, continues_none, each_none, each_next, each_room, order_some, order_none}
use Rattle.jobfile.proofs.writer.Written.put_followers.Goals as goal
use Rattle.jobfile.proofs.writer.Written.put_followers.Goals.{then-has, else-has}

pub loop-b-init : goal.loop-b-init
loop-b-init c = each_none _ _

pub put-requires : goal.put-requires
put-requires c =
    let room = each_room _ _ _ c.loop-b-test.true c.requires.2 c.loop-b.invariant in
    rw (order_some c.args.before.now c.args.job.0 c.loop-b.b (sym c.has.ensures ∙ c.if-has.true), all_one) at room

pub loop-b-preserved : goal.loop-b-preserved
loop-b-preserved c =
    each_next _ _ c.loop-b.invariant (elim c.if-has.branch [
      | then-has w ↦
          rw (order_some c.args.before.now c.args.job.0 c.loop-b.b (sym c.has.ensures ∙ w.if-has.true), all_one, w.self-is) w.put.ensures
      | else-has w ↦
          rw (order_none c.args.before.now c.args.job.0 c.loop-b.b (sym c.has.ensures ∙ w.if-has.false), w.self-is) (continues_none _)
    ])
