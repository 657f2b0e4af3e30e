use mathlib.Core.Logic.{inl, inr}
use mathlib.Core.Path.{◌≡◌, refl}
use borrow.Author.Rules.{rules}
use lib.ListN.{length}
use Rattle.std.specs.Prelude.{Err}
use Rattle.refusal.specs.Table.{refused}
use Rattle.planner.proofs.Pairs.{spells_none}
use Rattle.planner.proofs.ListSound.{even_by, checked_judgeable}
use Rattle.planner.proofs.HowLate.{short_none, short_refused, short_ends}
use Rattle.planner.proofs.late.shortest.Goals as goal

pub returns-then-uneven : goal.returns-then-uneven
returns-then-uneven c = rw c.into.ensures (refused _ _ (inl (inl (c.uneven.ensures.yes c.if-uneven.true, refl, refl))) refl)

pub faulty-requires : goal.faulty-requires
faulty-requires c = let a = c.args in (even_by a.starts.now a.deadlines.now a.pairs.now (c.uneven.ensures.no c.if-uneven.false), spells_none _)

pub returns-in_err-faulty : goal.returns-in_err-faulty
returns-in_err-faulty c =
    let e : c.from_residual.result ≡ Err c.in_err-faulty.field-0.0 = search rules in
    rw e (refused _ _ (inl (inr (c.uneven.ensures.no c.if-uneven.false, rw c.in_err-faulty.was at c.faulty.ensures.passes))) refl)

pub invariant_of-rows : goal.invariant_of-rows
invariant_of-rows c = record { judgeable = checked_judgeable _ _ _ _ (c.uneven.ensures.no c.if-uneven.false) c.in_ok-faulty.ensures }

pub returns-then-is_empty : goal.returns-then-is_empty
returns-then-is_empty c =
    let none : length c.args.starts.now ≡ 0 = search rules in
    short_none _ _ _ _ (c.uneven.ensures.no c.if-uneven.false) c.in_ok-faulty.ensures none

pub returns-then-not-leaves : goal.returns-then-not-leaves
returns-then-not-leaves c =
    rw c.into-then-not-leaves.ensures (short_refused _ _ _ _ (c.uneven.ensures.no c.if-uneven.false) c.in_ok-faulty.ensures (c.leaves.ensures.no c.if-not-leaves.true))

pub returns : goal.returns
returns c = short_ends _ _ _ _ (c.uneven.ensures.no c.if-uneven.false) c.in_ok-faulty.ensures _ c.least.ensures.1
