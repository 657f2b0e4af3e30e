use mathlib.Core.Path.{refl}
use mathlib.Core.Logic.{inl}
use native.Mathlib.Omega.{arith}
use Rattle.refusal.specs.Table.{refused}
use Rattle.planner.proofs.Outcome.{says_refused}
use Rattle.planner.proofs.Growing.{size_is}
use Rattle.planner.proofs.Posed.{deadline_faults, deadline_kept, deadline_ready, deadline_fits, deadline_none}
use Rattle.planner.proofs.requests.draw_in.Goals as goal

pub returns-then-job-size : goal.returns-then-job-size
returns-then-job-size c = λ L t. rw c.into.ensures (refused _ _ (inl (inl (omega (arith, size_is L _ t), refl, refl))) refl)

pub returns-in_err-fault : goal.returns-in_err-fault
returns-in_err-fault c =
    says_refused _ _ _ c.from_residual.ensures.1 (λ L t. refused _ _ (inl (deadline_faults L _ _ t _ _ c.from-size.ensures (omega arith) _ (c.in_err-fault.ensures 0))) refl)

pub returns-then-deadline-times : goal.returns-then-deadline-times
returns-then-deadline-times c = λ L t. deadline_kept L _ _ t _ _ c.from-size.ensures (omega arith) _ (c.in_ok-fault.ensures 0) c.if-deadline-times.true

pub settle-requires : goal.settle-requires
settle-requires c = deadline_ready c.requires.0 _ _ c.requires.1 _ _ c.from-size.ensures (omega arith) _ (c.in_ok-fault.ensures 0) _ c.none.ensures (omega arith)

pub returns-in_err-settle : goal.returns-in_err-settle
returns-in_err-settle c =
    let x = c.in_err-settle.ensures in
    says_refused _ _ _ c.from_residual-in_err-settle.ensures.1 (λ L t.
    rw x.0 (deadline_none L _ _ t _ _ c.from-size.ensures (omega arith) _ (c.in_ok-fault.ensures 0) _ c.none.ensures (omega arith) _ x.1 x.2))

pub returns : goal.returns
returns c = λ L t. deadline_fits L _ _ t _ _ c.from-size.ensures (omega arith) _ (c.in_ok-fault.ensures 0) _ c.none.ensures (omega arith) _ c.in_ok-settle.ensures
