-- `lines::refused` meets its contract. The invariant: the lines of the records passed are put.
use lib.ListN.{get_or}
use Rattle.text.specs.Text.{each}
use Rattle.text.specs.Put.{Adds}
use Rattle.report.specs.Line.{refused_line}
use Rattle.report.proofs.lines.refused.Given as goal

abbrev pub invariant-loop-place : goal.invariant-loop-place
invariant-loop-place l = Adds (each l.place (λ place. refused_line place (get_or l.numbers place 0))) l.initial.page l.page
