use mathlib.Core.Path.{◌≡◌}
use borrow.Author.Rules.{rules}
use lib.ListN.{take, drop}
use Rattle.planner.proofs.Whether.{whether_as}
use Rattle.planner.proofs.IsBook.{limits_split, limits_beyond}
use Rattle.planner.proofs.memory.limited.Goals as goal

pub returns-then-at_most : goal.returns-then-at_most
returns-then-at_most c =
    let row = c.args.row.now in
    let held : c.split_at.result.0.now ≡ take c.args.size row = search rules in
    let beyond : c.split_at.result.1.now ≡ drop c.args.size row = search rules in
    whether_as
    (λ f. limits_split _ c.args.limit row c.requires.1 c.requires.0 (rw held at (c.at_most.ensures.yes c.if-at_most.true)) (rw beyond at f))
    (λ x. rw beyond (limits_beyond _ c.args.limit row c.requires.1 c.requires.0 x))
    c.at_most-then-at_most.ensures
