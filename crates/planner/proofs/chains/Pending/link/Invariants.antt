-- `planner::chains::link` meets its contract. The invariant: the rows below y are joined, and the others are as they were.
use Rattle.std.proofs.Common.{◌≡◌, ℕ, ◌<◌, ◌≤◌, get_or}
use Rattle.planner.specs.Inner.Chains.{joined_of}
use Rattle.planner.proofs.chains.Pending.link.Given as goal

abbrev pub invariant-loop-y : goal.invariant-loop-y
invariant-loop-y l =
    ((k : ℕ) → k < l.y → get_or l.row-items k 0 ≡ joined_of (get_or l.initial.row-items k 0) k l.self) × ((k : ℕ) → l.y ≤ k → get_or l.row-items k 0 ≡ get_or l.initial.row-items k 0)
