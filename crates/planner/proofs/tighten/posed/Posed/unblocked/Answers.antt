use mathlib.Core.Logic.{⊎_elim}
use mathlib.Core.Path.{◌≡◌, sym, subst, ◌∙◌}
use Prim.Native.Nat.{ℕ}
use lib.ListN.{get_or}
use Rattle.planner.specs.Inner.Tighten.Posed.{rows_of}
use Rattle.planner.specs.Inner.Tighten.Early.{Unblocked}
use Rattle.sets.proofs.Bits.{apart_is, apart_has, has_some, walk_split, walk_sub}
use Rattle.planner.proofs.Pending.{rows_at, rows_keep}
use Rattle.planner.proofs.tighten.posed.Posed.unblocked.Goals as goal
use Rattle.planner.proofs.tighten.posed.Posed.unblocked.Goals.{else-row-todo-eq0-via-then-row-todo-eq0+else-joined-todo-eq0, else-row-todo-eq0-via-else-row-todo-eq0}

pub returns-then-joined-todo-eq0 : goal.returns-then-joined-todo-eq0
returns-then-joined-todo-eq0 c =
    let a = c.args in
    let job = c.in-Some.job.0 in
    let next = c.in-Some.ensures.steps in
    let read : c.joined.result ≡ get_or (rows_of a.self) job 0 = c.joined.ensures ∙ sym (rows_at _ _ _ next.few) in
    (next.few, record { member = c.loop-job.invariant.0 job next.member; ready = apart_has _ _ (rw read at c.if-joined-todo-eq0.true) })

pub loop-job-preserved : goal.loop-job-preserved
loop-job-preserved c =
    let a = c.args in
    let rows = rows_of a.self in
    let job = c.in-Some.job.0 in
    let next = c.in-Some.ensures.steps in
    let set = c.loop-job.job-iterator.0 in
    let q = c.loop-job.invariant in
    let g = q.1 in
    let waits : Unblocked job (get_or rows job 0) a.todo → ⊥ = λ y.
    elim c.else-row-todo-eq0.branch [
      | else-row-todo-eq0-via-then-row-todo-eq0+else-joined-todo-eq0 w ↦ w.if-joined-todo-eq0.false (apart_is w.joined.result a.todo c.ranges.todo.fits (λ j t. y.ready j (rw (w.joined.ensures ∙ sym (rows_at a.self.before.now a.self.pending job next.few)) at t)))
      | else-row-todo-eq0-via-else-row-todo-eq0 w ↦ w.if-row-todo-eq0.false (apart_is (get_or a.self.before.now job 0) a.todo c.ranges.todo.fits (λ j t. y.ready j (rows_keep a.self.before.now a.self.pending job j next.few t)))
    ] in (
      (λ j t. q.0 j (walk_sub set c.next.new.self.0 job next.left j t)),
      ⊎_elim (λ e. absurd (waits (subst (λ (n : ℕ). Unblocked n (get_or rows n 0) a.todo) e g.2))) (λ t. (g.0, t, g.2)) (walk_split set c.next.new.self.0 job next.left g.0 g.1),
    )

pub unreachable-requires : goal.unreachable-requires
unreachable-requires c = let g = c.loop-job.invariant.1 in has_some _ g.0 g.1 c.in-None.ensures.steps.0
