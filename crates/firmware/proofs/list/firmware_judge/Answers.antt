use Rattle.refusal.proofs.Says.{says_told}
use Rattle.planner.specs.List.{Judges, judged}
use Rattle.firmware.proofs.list.firmware_judge.Goals as goal

pub returns : goal.returns
returns c =
    let a = c.args in
    rw (c.tell.ensures.number, c.tell.ensures.value) (says_told (λ n v. Judges a.starts.now a.deadlines.now a.pairs.now a.latest.now (judged c.judge.new.latest n v)) _ c.judge.ensures)
