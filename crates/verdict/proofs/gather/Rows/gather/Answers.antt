use mathlib.Core.Path.{◌≡◌}
use borrow.Author.Rules.{rules}
use Rattle.std.specs.Prelude.{Err}
use Rattle.verdict.proofs.Gathering.{gathering_room, gathering_more, gathers_whole, gathers_stopped}
use Rattle.verdict.proofs.gather.Rows.gather.Goals as goal

pub returns-in_err-told : goal.returns-in_err-told
returns-in_err-told c =
    let is : c.from_residual.result ≡ Err c.in_err-told.field-0.0 = search rules in
    rw is (gathers_stopped _ _ _ c.loop-told.invariant _ c.in_err-told.ensures)

pub enter-requires : goal.enter-requires
enter-requires c = gathering_room _ _ _ c.loop-told.invariant _ (rw c.in-Some.is at c.in_ok-told.ensures)

pub loop-told-preserved : goal.loop-told-preserved
loop-told-preserved c = gathering_more _ _ _ c.loop-told.invariant _ _ _ (rw c.in-Some.is at c.in_ok-told.ensures) c.length_of-at.ensures c.enter.ensures

pub returns : goal.returns
returns c = gathers_whole _ _ _ c.loop-told.invariant (rw c.in_default.is at c.in_ok-told.ensures)
