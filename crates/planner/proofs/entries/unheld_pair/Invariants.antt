-- `planner::entries::unheld_pair` meets its contract. The invariant: every pair passed is held.
use Prim.Native.Nat.{ℕ, ◌<◌}
use Rattle.std.specs.Iterator.Adapters.{enumerate_count}
use Rattle.planner.specs.List.{pair_at}
use Rattle.refusal.specs.Table.{Clear}
use Rattle.planner.proofs.Pairs.{AtPair}
use Rattle.planner.proofs.entries.unheld_pair.Given as goal

abbrev pub invariant-loop-p : goal.invariant-loop-p
invariant-loop-p l = AtPair l.pairs l.p-iterator × ((j : ℕ) → j < enumerate_count l.p-iterator → Clear (pair_at l.size l.pairs j))
