-- `planner::memory::chained` meets its contract. The invariant: the sets passed are chained.
use Prim.Native.Nat.{ℕ, ◌<◌}
use Rattle.planner.specs.Inner.Memory.{ChainedAt}
use Rattle.planner.proofs.memory.chained.Given as goal

abbrev pub invariant-loop-b : goal.invariant-loop-b
invariant-loop-b l = (b : ℕ) → b < l.b → ChainedAt l.size l.before b
