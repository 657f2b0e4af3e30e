use Rattle.std.proofs.Common.{rules}
use Rattle.std.proofs.lemmas.List.{length_push}
use Rattle.std.proofs.lemmas.Slice.Zip.{zip_turn}
use Rattle.jobfile.proofs.Bytes.{all_one, each_none, each_next, each_room}
use Rattle.jobfile.proofs.writer.Written.put_jobs.Goals as goal

pub loop-start-init : goal.loop-start-init
loop-start-init c = each_none _ _

pub put-requires : goal.put-requires
put-requires c =
    let t = zip_turn c.args.starts.now c.args.latest.now c.loop-start.yielded _ c.loop-start.start-iterator c.next.new.self c.next.result (search rules) (search rules) c.loop-start.yielded_by _ c.in-Some.is c.next.ensures.steps in
    let room = each_room _ _ _ t.0 c.requires.1 c.loop-start.invariant in
    rw (← t.2 0, ← t.3 0, all_one _) at room

pub loop-start-preserved : goal.loop-start-preserved
loop-start-preserved c =
    let t = zip_turn c.args.starts.now c.args.latest.now c.loop-start.yielded _ c.loop-start.start-iterator c.next.new.self c.next.result (search rules) (search rules) c.loop-start.yielded_by _ c.in-Some.is c.next.ensures.steps in
    rw length_push (each_next _ _ c.loop-start.invariant (rw (all_one _, ← t.2 0, ← t.3 0) c.put.ensures))
