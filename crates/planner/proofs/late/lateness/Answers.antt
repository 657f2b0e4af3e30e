use mathlib.Core.Logic.{inl, inr}
use mathlib.Core.Path.{◌≡◌, refl}
use Prim.Native.Nat.{◌<◌}
use native.Mathlib.Omega.{arith}
use borrow.Author.Rules.{rules}
use mir.Syntax.{w16}
use mir.ValLaws.{to_z-of_z}
use lib.ListN.{length}
use Rattle.std.specs.Prelude.{Err}
use Rattle.refusal.specs.Table.{refused}
use Rattle.planner.proofs.Pairs.{spells_none}
use Rattle.planner.proofs.ListSound.{even_by, checked_judgeable}
use Rattle.planner.proofs.HowLate.{origin_fits, late_refused, late_begins, late_ends}
use Rattle.planner.proofs.late.lateness.Goals as goal

pub returns-then-uneven : goal.returns-then-uneven
returns-then-uneven c = rw c.into.ensures (refused _ _ (inl (c.uneven.ensures.yes c.if-uneven.true, refl, refl)) refl)

-- no jobs are not too many
pub returns-then-is_empty : goal.returns-then-is_empty
returns-then-is_empty c =
    let none : length c.args.starts.now ≡ 0 = search rules in
    rw c.into-then-is_empty.ensures (refused _ _ (inr (c.uneven.ensures.no c.if-uneven.false, inr ((λ g. omega (arith, none)), inl (none, refl, refl)))) refl)

pub faulty-requires : goal.faulty-requires
faulty-requires c = let a = c.args in (even_by a.starts.now a.deadlines.now a.pairs.now (c.uneven.ensures.no c.if-uneven.false), spells_none _)

pub returns-in_err-faulty : goal.returns-in_err-faulty
returns-in_err-faulty c =
    let a = c.args in
    let some : length a.starts.now ≡ 0 → ⊥ = search rules in
    let e : c.from_residual.result ≡ Err c.in_err-faulty.field-0.0 = search rules in
    rw e (late_refused a.starts.now a.deadlines.now a.pairs.now _ _ (c.uneven.ensures.no c.if-uneven.false) some (rw c.in_err-faulty.was at c.faulty.ensures.passes))

pub invariant_of-rows : goal.invariant_of-rows
invariant_of-rows c = record { judgeable = checked_judgeable _ _ _ _ (c.uneven.ensures.no c.if-uneven.false) c.in_ok-faulty.ensures }

pub least-requires : goal.least-requires
least-requires c =
    let some : 0 < length c.args.starts.now = search rules in
    (omega arith, late_begins _ _ _ _ (c.uneven.ensures.no c.if-uneven.false) c.in_ok-faulty.ensures some)

pub returns : goal.returns
returns c =
    let some : length c.args.starts.now ≡ 0 → ⊥ = search rules in
    rw (c.signed.ensures, to_z-of_z w16 _ (origin_fits c.least.result c.least.ensures.0))
    (late_ends _ _ _ _ (c.uneven.ensures.no c.if-uneven.false) c.in_ok-faulty.ensures some _ c.least.ensures.1)
