use mathlib.Core.Path.{refl}
use mathlib.Core.Logic.{inl, inr}
use native.Mathlib.Omega.{arith}
use Rattle.refusal.specs.Table.{refused}
use Rattle.planner.proofs.Growing.{size_is}
use Rattle.planner.proofs.Outcome.{says_refused}
use Rattle.planner.proofs.Posed.{job_ready, count_is, job_fits, job_none}
use Rattle.planner.proofs.requests.add_job.Goals as goal

pub returns-then-new-ge64 : goal.returns-then-new-ge64
returns-then-new-ge64 c = λ L t. rw c.into.ensures (refused _ _ (inl (inl (omega (arith, size_is L _ t), refl, refl))) refl)

pub returns-in_err-fault : goal.returns-in_err-fault
returns-in_err-fault c =
    says_refused _ _ _ c.from_residual.ensures.1 (λ L t. refused _ _ (inl (inr ((λ f. omega (arith, size_is L _ t)), c.in_err-fault.ensures 0))) refl)

pub settle-requires : goal.settle-requires
settle-requires c = job_ready c.requires.0 _ _ c.requires.1 _ _ _ c.none.ensures _ c.from-new.ensures (omega arith) (c.in_ok-fault.ensures 0)

pub returns-in-Err : goal.returns-in-Err
returns-in-Err c = λ L t.
    rw (c.into-in-Err.ensures, c.in-Err.ensures.0)
    (job_none L _ _ t _ _ _ c.none.ensures _ c.from-new.ensures (omega arith) (c.in_ok-fault.ensures 0) _ c.in-Err.ensures.1 c.in-Err.ensures.2)

pub overflow_add-times-2 : goal.overflow_add-times-2
overflow_add-times-2 c =
    omega (arith, count_is c.requires.0 _ _ c.requires.1 _ _ _ c.none.ensures _ c.from-new.ensures (omega arith) (c.in_ok-fault.ensures 0) _ c.in_default.ensures)

pub returns : goal.returns
returns c = λ L t. job_fits L _ _ t _ _ _ c.none.ensures _ c.from-new.ensures (omega arith) (c.in_ok-fault.ensures 0) _ c.in_default.ensures
