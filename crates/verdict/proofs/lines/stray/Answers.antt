use mathlib.Core.Path.{refl}
use Rattle.report.specs.Line.{refused_line}
use Rattle.verdict.proofs.Texts.{refused_short}
use Rattle.verdict.proofs.lines.stray.Goals as goal

pub returns : goal.returns
returns c =
    let a = c.args in
    record { text = refused_line a.place 5; kind = refl; short = refused_short a.place c.ranges.place.fits; adds = rw c.number.ensures at c.refused.ensures }
