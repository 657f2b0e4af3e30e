use mathlib.Core.Path.{◌≡◌, ap, ◌∙◌}
use Rattle.std.proofs.Common.{rules}
use Rattle.std.specs.Prelude.{Some, None, Ok}
use Rattle.jobfile.proofs.Events.{tells_end, tells_stop}
use Rattle.jobfile.proofs.Single.{request_told, underway_ends, underway_more}
use Rattle.jobfile.proofs.file.read_file.Goals as goal

-- at the end
pub returns-in_default : goal.returns-in_default
returns-in_default c =
    let none : c.in_default.field-0 ≡ None = search rules in
    tells_end _ _ _ (c.in_default.is ∙ ap Ok none) (λ x. underway_ends _ _ _ _ _ _ _ c.loop-answer.invariant _ x tt) c.read-event.ensures

-- at a stop
pub returns-in_default-2 : goal.returns-in_default-2
returns-in_default-2 c =
    tells_stop _ _ _ _ c.in_default.is (λ n v h x. underway_ends _ _ _ _ _ _ _ c.loop-answer.invariant _ x h) c.read-event.ensures

pub loop-answer-preserved : goal.loop-answer-preserved
loop-answer-preserved c =
    let some : c.in-Ok-Some.field-0 ≡ Some c.in-Ok-Some.answer = search rules in
    let told = request_told _ _ _ _ _ _ _ (c.in-Ok-Some.is ∙ ap Ok some) c.read-event.ensures in
    rw c.number.ensures (underway_more _ _ _ _ _ _ _ c.loop-answer.invariant _ told.1 told.0)
