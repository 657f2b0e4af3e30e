-- `planner::tighten::posed::Posed::unblocked` meets its contract: some unblocked job is not passed yet.
use Prim.Native.Nat.{ℕ}
use lib.Dec.{T}
use lib.ListN.{get_or}
use Rattle.sets.specs.Sets.{has}
use Rattle.planner.specs.Inner.Tighten.Posed.{rows_of}
use Rattle.planner.specs.Inner.Tighten.Early.{Unblocked}
use Rattle.planner.proofs.tighten.posed.Posed.unblocked.Given as goal

abbrev pub invariant-loop-job : goal.invariant-loop-job
invariant-loop-job l = ((j : ℕ) → T (has l.job-iterator.0 j) → T (has l.todo j)) × ((f : ℕ) × T (has l.job-iterator.0 f) × Unblocked f (get_or (rows_of l.self) f 0) l.todo)
