use mathlib.Core.Path.{◌∙◌}
use Rattle.sets.specs.Sets.{has}
use Rattle.sets.proofs.Bits.{and_has, or_has, count_same}
use Rattle.planner.proofs.tighten.tables.Tables.pressing.Goals as goal

pub returns : goal.returns
returns c = c.size.ensures ∙ count_same 64 (has c.without.result) _ (λ j h. c.without.ensures j ∙ simp (and_has, or_has))
