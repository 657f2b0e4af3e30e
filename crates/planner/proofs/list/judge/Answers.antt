use mathlib.Core.Logic.{inl, inr, ⊎_elim}
use mathlib.Core.Path.{refl}
use Rattle.refusal.specs.Table.{refused}
use Rattle.planner.proofs.Outcome.{says_refused}
use Rattle.planner.proofs.Pairs.{spells_none}
use Rattle.planner.proofs.ListSound.{even_by, shape_by, checked_judgeable, checked_says}
use Rattle.planner.proofs.list.judge.Goals as goal

pub returns-then-uneven : goal.returns-then-uneven
returns-then-uneven c =
    rw c.into.ensures (refused _ _ (inl (inl (⊎_elim (λ e. inl (c.uneven.ensures.yes e)) (λ x. inr x.1) c.then-uneven.either, refl, refl))) refl)

pub faulty-requires : goal.faulty-requires
faulty-requires c = (even_by _ _ _ (c.uneven.ensures.no c.if-uneven.false), spells_none _)

pub returns-in_err-faulty : goal.returns-in_err-faulty
returns-in_err-faulty c =
    says_refused _ _ _ c.from_residual.ensures.1
    (refused _ _ (inl (inr (shape_by _ _ _ _ (c.uneven.ensures.no c.if-uneven.false) c.if-latest-starts.false, c.in_err-faulty.ensures.passes))) refl)

pub invariant_of-rows : goal.invariant_of-rows
invariant_of-rows c = record { judgeable = checked_judgeable _ _ _ _ (c.uneven.ensures.no c.if-uneven.false) c.in_ok-faulty.ensures }

pub returns : goal.returns
returns c = checked_says _ _ _ _ (c.uneven.ensures.no c.if-uneven.false) c.in_ok-faulty.ensures _ _ c.settle.result c.if-latest-starts.false c.settle.ensures
