use mathlib.Core.Path.{◌≡◌}
use borrow.Author.Rules.{rules}
use Rattle.std.specs.Prelude.{None, Ok, Err}
use Rattle.verdict.proofs.Drawing.{drawing_none, drawing_more, drawn_all, drawn_at}
use Rattle.verdict.proofs.gather.draw_in.Goals as goal

pub loop-told-init : goal.loop-told-init
loop-told-init c = drawing_none _ _

pub returns-then-not-draw : goal.returns-then-not-draw
returns-then-not-draw c = drawn_at _ _ _ _ _ c.loop-told.invariant _ _ (rw c.in-Ok-Some.field-0-is at c.in-Ok-Some.ensures) c.if-not-draw.ensures

pub loop-told-preserved : goal.loop-told-preserved
loop-told-preserved c =
    drawing_more _ _ _ _ _ c.loop-told.invariant _ _ _ (rw c.in-Ok-Some.field-0-is at c.in-Ok-Some.ensures) c.length_of-at.ensures c.if-not-draw.ensures

-- at the end, and at a stop
pub returns-in_default : goal.returns-in_default
returns-in_default c =
    let none : c.record_at.result ≡ Ok None = search rules in
    drawn_all _ _ _ _ _ c.loop-told.invariant (Ok None) (λ r e. cc) (rw none at c.record_at.ensures)

pub returns-in_default-2 : goal.returns-in_default-2
returns-in_default-2 c = drawn_all _ _ _ _ _ c.loop-told.invariant (Err c.in_default.field-0) (λ r e. cc) (rw c.in_default.is at c.record_at.ensures)
