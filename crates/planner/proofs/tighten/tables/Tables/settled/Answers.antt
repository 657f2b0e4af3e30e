use mathlib.Core.List.{List}
use mathlib.Core.Path.{sym, subst}
use Prim.Native.Nat.{ℕ}
use native.Mathlib.Omega.{arith}
use lib.Dec.{T}
use Rattle.schedule.proofs.Rows.{sum_less}
use Rattle.std.specs.Prelude.{Some}
use Rattle.book.specs.Told.{cores, row_in}
use Rattle.planner.specs.Inner.Tighten.{Moves, Swept}
use Rattle.planner.proofs.TightenSink.{sunk_join}
use Rattle.planner.proofs.tighten.tables.Tables.settled.Goals as goal

pub returns-then-moved-eq0 : goal.returns-then-moved-eq0
returns-then-moved-eq0 c J early known =
    let row = c.loop-moved.row in
    let m : Moves cores J early row c.pass.new.row (Swept cores J early (row_in row)) (Some c.in-Some.moved) = c.in-Some.ensures J early known in
    let still = m.1 c.if-moved-eq0.true in
    record {
      sunk = λ b. sunk_join (c.loop-moved.invariant J early known) m.0;
      swept = λ b. subst (λ (x : List ℕ). Swept cores J early (row_in x)) (sym still.0) still.1;
      none = λ b. absurd (subst T b tt);
    }

pub loop-moved-smaller : goal.loop-moved-smaller
loop-moved-smaller c =
    let row = c.loop-moved.row in
    let j = c.requires in
    let m : Moves cores j.0 j.1 row c.pass.new.row (Swept cores j.0 j.1 (row_in row)) (Some c.in-Some.moved) = c.in-Some.ensures j.0 j.1 j.2 in
    let f = m.2 c.if-moved-eq0.false in
    sum_less _ _ _ f.0 (omega (arith, f.1, j.2.size)) (λ i l. m.0.bound.beneath i (omega (arith, j.2.size))) f.2

pub loop-moved-preserved : goal.loop-moved-preserved
loop-moved-preserved c J early known =
    let row = c.loop-moved.row in
    let m : Moves cores J early row c.pass.new.row (Swept cores J early (row_in row)) (Some c.in-Some.moved) = c.in-Some.ensures J early known in
    sunk_join (c.loop-moved.invariant J early known) m.0
