-- `planner::judged::Rows::least` meets its contract. The invariant: a plan is left at `to`, and at no number below `from`.
use Prim.Native.Nat.{◌-◌, ◌≤◌}
use Rattle.schedule.specs.Theory.Lowest.{Narrowed}
use Rattle.planner.specs.Inner.Late.{Leaves}
use Rattle.planner.proofs.judged.Rows.least.Given as goal

abbrev pub invariant-loop-from : goal.invariant-loop-from
invariant-loop-from g l = (l.to ≤ l.high) × Narrowed (Leaves g.T.Trial.tried l.self.starts.now l.self.deadlines.now l.self.before.now) l.from l.to

abbrev pub decreases-loop-from : goal.decreases-loop-from
decreases-loop-from g l = l.to - l.from
