-- `jobs::ends_in` meets its contract. The invariant: the bytes passed have their ends.
use mathlib.Core.Path.{◌≡◌}
use lib.ListN.{replicate}
use Rattle.report.specs.Inner.Ends.{passed}
use Rattle.report.proofs.jobs.ends_in.Given as goal

abbrev pub invariant-loop-i : goal.invariant-loop-i
invariant-loop-i l = l.ends ≡ passed l.plan l.i (replicate 256 0)
