use Rattle.verdict.proofs.Texts.{adds_more}
use Rattle.verdict.proofs.Assembled.{together_stray, together_list}
use Rattle.verdict.proofs.together.Goals as goal

pub returns-in-Err : goal.returns-in-Err
returns-in-Err c records n v x rows =
    adds_more (λ text e. together_stray records _ rows _ text (c.in-Err.ensures records n v x) e) c.stray.ensures

pub returns-in-Ok : goal.returns-in-Ok
returns-in-Ok c records n v x rows =
    adds_more (λ text w. together_list records _ rows _ text (c.in-Ok.ensures records n v x) w) c.weigh.ensures
