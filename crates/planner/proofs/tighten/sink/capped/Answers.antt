use mathlib.Core.Path.{sym}
use native.Mathlib.Omega.{arith}
use Rattle.book.specs.Told.{cores, row_in}
use Rattle.sets.proofs.Bits.{walk_sub}
use Rattle.planner.proofs.TightenLower.{eased_same, eased_follow}
use Rattle.planner.proofs.tighten.sink.capped.Goals as goal

pub loop-job-init : goal.loop-job-init
loop-job-init c = (rw c.into_iter-job-iterator.ensures.into_iter_gives (λ a t. t), (λ J early i l e f r. rw (sym e) (eased_same cores (omega arith) J early (row_in c.args.row.now) l)))

pub returns-then-time-eq0 : goal.returns-then-time-eq0
returns-then-time-eq0 c = λ J early i l e f r. rw c.if-time-eq0.true at (c.loop-job.invariant.1 J early i l e f r)

pub loop-job-preserved : goal.loop-job-preserved
loop-job-preserved c =
    let q = c.loop-job in
    let job = c.in-Some.job.0 in
    let next = c.in-Some.ensures.steps in (
      (λ a t. q.invariant.0 a (walk_sub q.job-iterator.0 c.next.new.self.0 job next.left a t)),
      (λ J early i l e f r.
          let j = f job (q.invariant.0 job next.member) in
          eased_follow cores (omega arith) J early (row_in c.args.row.now) l r job j.0 j.1 q.time c.min-time.result (q.invariant.1 J early i l e f r) (omega (arith, c.min-time.ensures, c.saturating_sub.ensures))),
    )
