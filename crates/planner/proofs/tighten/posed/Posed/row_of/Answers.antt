use mathlib.Core.Path.{sym, ◌∙◌}
use Rattle.planner.proofs.Pending.{rows_at}
use Rattle.planner.proofs.tighten.posed.Posed.row_of.Goals as goal

pub returns : goal.returns
returns c = c.joined.ensures ∙ sym (rows_at _ _ _ c.requires)
