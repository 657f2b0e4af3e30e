use Rattle.std.proofs.Common.{arith, sym, [], ◌∷◌}
use borrow.Author.Tests.{ne_eqb}
use Rattle.refusal.proofs.Says.{number_within}
use Rattle.firmware.proofs.plans.firmware_place.Goals as goal

pub returns-in-Err : goal.returns-in-Err
returns-in-Err c = record {
  values = c.in-Err.refusal.value ∷ [];
  places = rw (c.number.ensures, sym c.from.ensures) c.in-Err.ensures;
  lent = simp (ne_eqb c.number.result 0 (λ e. omega (arith, (number_within c.in-Err.refusal.reason).0, c.number.ensures, e)));
}
