use Rattle.planner.proofs.Whether.{whether_eq}
use Rattle.planner.proofs.IsBook.{or_sub, sub_or}
use Rattle.planner.proofs.memory.part_of.Goals as goal

pub returns : goal.returns
returns c = let a = c.args in whether_eq _ a.all (or_sub a.set a.all) (sub_or a.set a.all)
