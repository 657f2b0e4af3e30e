use mathlib.Core.Path.{ap, ◌∙◌}
use Prim.Native.Nat.{◌≤◌}
use native.Mathlib.Omega.{arith}
use borrow.Author.Rules.{rules}
use lib.ListN.{length}
use Rattle.book.proofs.Parts.{part_length}
use Rattle.planner.proofs.memory.regular.Goals as goal
use Rattle.planner.proofs.memory.regular.Goals.{then-size-le64, else-size-le64}

pub limited-requires : goal.limited-requires
limited-requires c = (ap length c.starts.ensures ∙ part_length 1 _ (omega arith), search rules)

pub limited-requires-then-limited : goal.limited-requires-then-limited
limited-requires-then-limited c =
    let few : c.from-size.result ≤ 64 = elim c.if-size-le64.branch [
      | then-size-le64 w ↦ search rules
      | else-size-le64 w ↦ search rules
    ] in
    (ap length c.latest.ensures ∙ part_length 65 _ (omega arith), few)
