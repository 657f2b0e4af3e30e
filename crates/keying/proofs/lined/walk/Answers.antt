use native.Mathlib.Omega.{arith}
use Rattle.std.proofs.Common.{of_calls}
use Rattle.std.proofs.lemmas.Result.{err_from_is_err_and}
use Rattle.keying.proofs.Pages.{passed_more, reads_end, reads_stop}
use Rattle.keying.proofs.lined.walk.Goals as goal

pub returns-in_err-told : goal.returns-in_err-told
returns-in_err-told g c =
    let told = err_from_is_err_and c.from_residual.result c.from_residual.ensures.1 in
    rw (told.1, told.2) (reads_stop c.loop-told.invariant.1 c.in_err-told.field-0.0 c.in_err-told.ensures)

-- a record more
pub loop-told-preserved : goal.loop-told-preserved
loop-told-preserved g c = (
  search of_calls,
  rw c.length_of-at.ensures (passed_more c.loop-told.invariant.1 (λ i. omega (arith, c.type_inv.file i)) c.in-Some.told c.tell.new.self (rw c.in-Some.is at c.in_ok-told.ensures) c.tell.ensures),
)

pub returns : goal.returns
returns g c = reads_end c.loop-told.invariant.1 (rw c.in_default.is at c.in_ok-told.ensures)
