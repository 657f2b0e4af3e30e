use mathlib.Core.Path.{◌≡◌}
use borrow.Author.Rules.{rules}
use Rattle.planner.specs.List.{job_at}
use Rattle.planner.specs.Inner.Passes.{Passes, at_place}
use Rattle.planner.proofs.Pairs.{found_at, clear_more, Beside, beside}
use Rattle.planner.proofs.entries.unsound_job.Goals as goal

pub returns-in_err-map_err : goal.returns-in_err-map_err
returns-in_err-map_err c =
    let checks = job_at c.args.starts.now c.args.deadlines.now in
    let j = c.in-Some in
    let m : Beside c.args.starts.now c.args.deadlines.now c.loop-i.i-iterator c.next.new.self j.i j.field-0-1-0.now j.field-0-1-1.now = beside _ _ _ _ _ j.field-0-1-0 j.field-0-1-1 c.loop-i.invariant.0 (search rules) in
    let placed : c.map_err.result ≡ at_place j.i c.fault.result = search rules in
    let at : Passes (checks j.i) c.map_err.result = rw (placed, ← m.left, ← m.right) (c.fault.ensures j.i) in
    let same : c.from_residual.result ≡ c.map_err.result = search rules in
    rw same (found_at _ checks _ j.i c.map_err.result m.below m.place c.loop-i.invariant.1 (search rules) at)

pub loop-i-preserved : goal.loop-i-preserved
loop-i-preserved c =
    let checks = job_at c.args.starts.now c.args.deadlines.now in
    let j = c.in-Some in
    let m : Beside c.args.starts.now c.args.deadlines.now c.loop-i.i-iterator c.next.new.self j.i j.field-0-1-0.now j.field-0-1-1.now = beside _ _ _ _ _ j.field-0-1-0 j.field-0-1-1 c.loop-i.invariant.0 (search rules) in
    let placed : c.map_err.result ≡ at_place j.i c.fault.result = search rules in
    let at : Passes (checks j.i) c.map_err.result = rw (placed, ← m.left, ← m.right) (c.fault.ensures j.i) in
    (m.onward, rw m.counts (clear_more checks _ j.i c.map_err.result m.place c.loop-i.invariant.1 (search rules) at))
