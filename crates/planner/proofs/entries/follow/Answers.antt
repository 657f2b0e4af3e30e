use mathlib.Core.Logic.{inr}
use native.Mathlib.Omega.{arith}
use Rattle.planner.proofs.Pending.{rows_long, joined_links}
use Rattle.planner.proofs.entries.follow.Goals as goal

pub returns-then-not-has : goal.returns-then-not-has
returns-then-not-has c =
    rw c.link.ensures (inr (rows_long _ _, joined_links _ _ _ (omega arith) (omega arith) (omega arith) c.with-more.ensures))
