use mathlib.Core.Path.{refl}
use native.Mathlib.Omega.{arith}
use Rattle.verdict.proofs.Texts.{writes_by, adds_more}
use Rattle.verdict.proofs.Assembled.{verdict_stopped, verdict_whole}
use Rattle.verdict.proofs.verdict.Goals as goal
use Rattle.verdict.proofs.verdict.Goals.{in-Ok, in-Err}

pub returns : goal.returns
returns c =
    let records = c.gather.ensures.records in
    elim c.match-gather.branch [
      | in-Ok w ↦
          let x = rw w.in-Ok.is at c.gather.ensures.ends in
          rw w.page-is (writes_by refl (omega (arith, c.told-out)) (adds_more (λ text y. verdict_whole _ records text x.0 y) (w.together.ensures records 255 0 x.0 x.1)))
      | in-Err w ↦
          rw w.page-is (writes_by refl (omega (arith, c.told-out)) (adds_more (λ text e. verdict_stopped _ records _ text (rw w.in-Err.is at c.gather.ensures.ends) e) w.stop.ensures))
    ]
