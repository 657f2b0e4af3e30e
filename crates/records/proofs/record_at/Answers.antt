use mathlib.Core.Logic.{inl}
use mathlib.Core.Path.{refl, sym, ◌∙◌}
use native.Mathlib.Omega.{arith}
use Prim.Native.Nat.{◌+◌, ◌<◌}
use lib.ListN.{length}
use Rattle.std.specs.Prelude.{Ok, Err}
use Rattle.std.proofs.lemmas.Result.{err_from_is_err_and}
use Rattle.refusal.specs.Table.{refused}
use Rattle.refusal.proofs.Table.{then_table}
use Rattle.records.proofs.Finding.{finds_named}
use Rattle.records.proofs.record_at.Goals as goal
use Rattle.records.proofs.record_at.Goals.{then-at-length-2-via-then-at-length-2, then-at-length-2-via-else-at-length-2+then-length-at-lt-RECORD_LENGTH}

pub returns-then-length-gt-FILE_LENGTH : goal.returns-then-length-gt-FILE_LENGTH
returns-then-length-gt-FILE_LENGTH c = rw c.into.ensures (record { outcome = refused 9 0 (inl (omega arith, refl, refl)) (refl, refl) })

pub returns-then-at-length : goal.returns-then-at-length
returns-then-at-length c = record { outcome = then_table (λ f. omega arith) (refused 255 0 (inl (c.if-at-length.true, refl, refl)) (refl, refl)) }

pub returns-then-at-length-2 : goal.returns-then-at-length-2
returns-then-at-length-2 c =
    let short : length c.args.file.now < c.args.at + 6 = elim c.then-at-length-2.branch [
      | then-at-length-2-via-then-at-length-2 w ↦ omega arith
      | then-at-length-2-via-else-at-length-2+then-length-at-lt-RECORD_LENGTH w ↦ omega arith
    ] in
    record { outcome = then_table (λ f. omega arith) (then_table (λ f. omega arith) (refused 11 _ (inl (short, refl, refl)) (refl, refl))) }

pub returns-in_err-marked_at : goal.returns-in_err-marked_at
returns-in_err-marked_at c =
    let a = c.args in
    let told = err_from_is_err_and c.from_residual.result c.from_residual.ensures.1 in
    rw (told.1, told.2) (finds_named a.file.now a.at (Err c.in_err-marked_at.field-0.0) (omega arith) (omega arith) (λ i. omega (arith, c.type_inv.file i)) (sym c.in_err-marked_at.was ∙ c.marked_at.ensures))

pub returns : goal.returns
returns c =
    let a = c.args in
    finds_named a.file.now a.at (Ok c.in_ok-marked_at.field-0) (omega arith) (omega arith) (λ i. omega (arith, c.type_inv.file i)) (sym c.in_ok-marked_at.was ∙ c.marked_at.ensures)
