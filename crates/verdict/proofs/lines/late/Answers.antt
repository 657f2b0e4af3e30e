use mathlib.Core.Path.{◌∙◌}
use mir.Facts.{to_z-of_z}
use Rattle.verdict.proofs.Texts.{signed_below}
use Rattle.verdict.proofs.lines.late.Goals as goal

pub returns-then-slots-lt0 : goal.returns-then-slots-lt0
returns-then-slots-lt0 c =
    let read = to_z-of_z c.ranges.slots in
    rw (← signed_below c.args.slots c.from.result (rw read at c.if-slots-lt0.true) (c.from.ensures ∙ rw read at c.unsigned_abs.ensures.value)) c.fill.ensures
