use mathlib.Core.Path.{refl}
use native.Mathlib.Omega.{arith}
use lib.Dec.{T}
use lib.ListN.{length-set, get_or}
use Rattle.book.specs.Told.{row_in}
use Rattle.sets.specs.Sets.{has}
use Rattle.sets.proofs.Bits.{walk_sub}
use Rattle.sets.proofs.Range.{with_in}
use Rattle.planner.specs.Inner.Tighten.Rule.{At}
use Rattle.planner.proofs.TightenSink.{lowering_moved, lowering_kept, lowering_moves, due_job, stored_low, sunk_none}
use Rattle.planner.proofs.tighten.tables.Tables.lower_at.Goals as goal

pub returns-in_err-time : goal.returns-in_err-time
returns-in_err-time c J early known soon = rw c.from_residual.ensures (
    let due = c.args.due in
    let q = c.loop-job in
    let job = c.in-Some.job.0 in
    let x = q.invariant.3 J early known soon in
    let l = (due_job J.size (row_in q.row) due.d due.jobs x.soon job (q.invariant.1 job c.in-Some.ensures.steps.member)).0 in
    let at : At J early (row_in q.row) job (get_or q.row job 0) due c.args.self.now = record { known = known; job = l; holds = refl; soon = x.soon } in
    sunk_none x.sunk known.levels.few q.invariant.0 l (c.in_err-time.ensures.ruled J early (row_in q.row) at) refl)

pub loop-job-preserved-then-time-held : goal.loop-job-preserved-then-time-held
loop-job-preserved-then-time-held c =
    let due = c.args.due in
    let q = c.loop-job in
    let job = c.in-Some.job.0 in
    let next = c.in-Some.ensures.steps in
    let due_now : T (has due.jobs job) = q.invariant.1 job next.member in
    let low = q.invariant.2 job due_now in (
      simp length-set q.invariant.0,
      (λ j t. q.invariant.1 j (walk_sub q.job-iterator.0 c.next.new.self.0 job next.left j t)),
      (λ j t. stored_low q.row job c.in_ok-time.time due.d (omega (arith, q.invariant.0, next.few)) (omega (arith, c.in_ok-time.ensures.within, low)) j (q.invariant.2 j t)),
      (λ J early known soon.
          let x = q.invariant.3 J early known soon in
          let l = (due_job J.size (row_in q.row) due.d due.jobs x.soon job due_now).0 in
          let at : At J early (row_in q.row) job (get_or q.row job 0) due c.args.self.now = record { known = known; job = l; holds = refl; soon = x.soon } in
          lowering_moved known.levels.few q.invariant.0 x _ due_now next.left (c.in_ok-time.ensures.ruled J early (row_in q.row) at) _ (with_in _ _ _ next.few c.with-moved.ensures) c.if-time-held.true),
    )

pub loop-job-preserved : goal.loop-job-preserved
loop-job-preserved c =
    let due = c.args.due in
    let q = c.loop-job in
    let job = c.in-Some.job.0 in
    let next = c.in-Some.ensures.steps in
    let due_now : T (has due.jobs job) = q.invariant.1 job next.member in (
      q.invariant.0,
      (λ j t. q.invariant.1 j (walk_sub q.job-iterator.0 c.next.new.self.0 job next.left j t)),
      q.invariant.2,
      (λ J early known soon.
          let x = q.invariant.3 J early known soon in
          let l = (due_job J.size (row_in q.row) due.d due.jobs x.soon job due_now).0 in
          let at : At J early (row_in q.row) job (get_or q.row job 0) due c.args.self.now = record { known = known; job = l; holds = refl; soon = x.soon } in
          lowering_kept known.levels.few q.invariant.0 x _ due_now next.left (c.in_ok-time.ensures.ruled J early (row_in q.row) at) c.if-time-held.false),
    )

pub returns : goal.returns
returns c J early known soon = lowering_moves known.levels.few c.loop-job.invariant.0 (c.loop-job.invariant.3 J early known soon) soon c.in-None.ensures.steps.0
