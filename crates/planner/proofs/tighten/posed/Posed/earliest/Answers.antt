use native.Mathlib.Omega.{arith}
use lib.ListN.{get_or}
use Rattle.planner.specs.Inner.Tighten.Posed.{rows_of}
use Rattle.planner.specs.Inner.Tighten.Early.{After}
use Rattle.planner.proofs.TightenEarly.{making_start, making_unblocked, making_time, making_next, making_end}
use Rattle.planner.proofs.tighten.posed.Posed.earliest.Goals as goal

pub loop-place-init : goal.loop-place-init
loop-place-init c = making_start c.args.self.ready _ _ _ c.told-early c.told-order c.below-todo.ensures

pub unblocked-job-requires : goal.unblocked-job-requires
unblocked-job-requires c = let q = c.loop-place.invariant in making_unblocked c.args.self.ready q (omega (arith, q.lengths.1, c.loop-place-test.true))

pub overflow_cast-early : goal.overflow_cast-early
overflow_cast-early c =
    let a = c.args in
    let i = c.unblocked-job.result.0 in
    let time : After (get_or a.self.start.now i 0) (get_or (rows_of a.self) i 0) c.loop-place.early c.after-time.result = rw (c.from.ensures, c.row_of-set.ensures) at c.after-time.ensures in
    omega (arith, making_time c.args.self.ready c.loop-place.invariant c.unblocked-job.ensures.1 time)

pub loop-place-preserved : goal.loop-place-preserved
loop-place-preserved c =
    let a = c.args in
    let i = c.unblocked-job.result.0 in
    let q = c.loop-place.invariant in
    let time : After (get_or a.self.start.now i 0) (get_or (rows_of a.self) i 0) c.loop-place.early c.after-time.result = rw (c.from.ensures, c.row_of-set.ensures) at c.after-time.ensures in
    making_next c.args.self.ready q c.unblocked-job.ensures.1 time (omega (arith, q.lengths.1, c.loop-place-test.true)) _ c.without-todo.ensures

pub returns : goal.returns
returns c = let q = c.loop-place.invariant in making_end c.args.self.ready q (omega (arith, q.lengths.1, c.loop-place-test.false)) _
