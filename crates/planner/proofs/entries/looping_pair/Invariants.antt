-- `planner::entries::looping_pair` meets its contract. The invariant: no pair passed closes a loop, and the rows spell the chains of those passed.
use Prim.Native.Nat.{ℕ, ◌<◌}
use Rattle.std.specs.Iterator.Adapters.{enumerate_count}
use Rattle.planner.specs.List.{order_at}
use Rattle.refusal.specs.Table.{Clear}
use Rattle.planner.specs.Inner.Entries.{Spells}
use Rattle.planner.proofs.Pairs.{AtPair}
use Rattle.planner.proofs.entries.looping_pair.Given as goal

abbrev pub invariant-loop-p : goal.invariant-loop-p
invariant-loop-p l = let n = enumerate_count l.p-iterator in AtPair l.pairs l.p-iterator × ((j : ℕ) → j < n → Clear (order_at l.pairs j)) × Spells l.pairs n l.rows
