use mathlib.Core.List.{◌++◌}
use mathlib.Core.Path.{refl}
use mir.Facts.{to_z-of_z}
use Rattle.refusal.specs.Says.{number_of, value_of}
use Rattle.text.proofs.Putting.{adds_then}
use Rattle.verdict.specs.Line.{late_line, short_line}
use Rattle.verdict.proofs.Texts.{accepted_short}
use Rattle.verdict.proofs.lines.accepted.Goals as goal

pub returns : goal.returns
returns c =
    let a = c.args in
    record {
      text = late_line a.jobs a.slots ++ short_line (number_of a.answer) (value_of a.answer);
      kind = refl;
      short = accepted_short a.jobs a.slots _ _ c.ranges.jobs.fits c.ranges.slots.sfits c.short.ensures.few;
      adds = adds_then (rw (to_z-of_z c.ranges.slots) at c.late.ensures) c.short.ensures.adds;
    }
