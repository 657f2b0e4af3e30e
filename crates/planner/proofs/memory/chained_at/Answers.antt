use mathlib.Core.Logic.{⊎_elim}
use mathlib.Core.Path.{◌≡◌}
use Prim.Native.Nat.{ℕ}
use borrow.Author.Rules.{rules}
use lib.Dec.{T}
use lib.ListN.{get_or}
use Rattle.sets.specs.Sets.{has}
use Rattle.sets.proofs.Bits.{has_some}
use Rattle.planner.specs.Inner.Memory.{Sub}
use Rattle.planner.proofs.Whether.{whether_yes, whether_no, whether_eq}
use Rattle.planner.proofs.IsBook.{beyond_chained, chained_beyond, part_chained}
use Rattle.planner.proofs.memory.chained_at.Goals as goal

pub returns-then-job-size : goal.returns-then-job-size
returns-then-job-size c = rw c.requires.1 (whether_eq _ 0 (beyond_chained _ _ _ c.if-job-size.true) (chained_beyond _ _ _ c.if-job-size.true))

pub returns-then-not-part_of-2 : goal.returns-then-not-part_of-2
returns-then-not-part_of-2 c =
    let member : T (has c.args.row c.in-Some.a.0) = c.loop-a.invariant.0 _ c.in-Some.ensures.steps.member in
    whether_no (λ x. c.part_of-in-loop-a.ensures.no c.if-not-part_of-2.true (rw c.requires.1 (x.joins c.in-Some.a.0 (rw c.requires.1 at member))))

pub returns : goal.returns
returns c =
    let before = c.args.before.now in
    let b = c.args.job.0 in
    let none : c.loop-a.a-iterator.0 ≡ 0 = search rules in
    let joins : (a : ℕ) → T (has c.args.row a) → Sub (get_or before a 0) c.args.row = λ a t. ⊎_elim (λ u. absurd (has_some _ a u none)) (λ u. u) (c.loop-a.invariant.1 a t) in
    whether_yes (part_chained _ before b _ _ c.requires.0 c.below.ensures c.without.ensures c.if-job-size.false (rw c.requires.1 at (c.part_of.ensures.yes c.if-not-part_of.false)) (rw c.requires.1 at joins))
