-- `jobs::lines` meets its contract. The invariant: the lines of the jobs passed are put.
use Rattle.text.specs.Text.{each}
use Rattle.text.specs.Put.{Adds}
use Rattle.report.specs.Inner.Ends.{ends_in, row_text}
use Rattle.report.proofs.jobs.lines.Given as goal

abbrev pub invariant-loop-i : goal.invariant-loop-i
invariant-loop-i l = Adds (each l.i (row_text l.times (ends_in l.plan))) l.initial.page l.page
