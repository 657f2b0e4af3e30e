-- `planner::memory::chained_at` meets its contract. The invariant: what precedes the jobs passed is in the set.
use mathlib.Core.Logic.{◌⊎◌}
use Prim.Native.Nat.{ℕ}
use lib.Dec.{T}
use lib.ListN.{get_or}
use Rattle.sets.specs.Sets.{has}
use Rattle.planner.specs.Inner.Memory.{Sub}
use Rattle.planner.proofs.memory.chained_at.Given as goal

abbrev pub invariant-loop-a : goal.invariant-loop-a
invariant-loop-a l = let left = l.a-iterator.0 in Sub left l.row × ((a : ℕ) → T (has l.row a) → T (has left a) ⊎ Sub (get_or l.before a 0) l.row)
