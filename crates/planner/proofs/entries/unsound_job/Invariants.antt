-- `planner::entries::unsound_job` meets its contract. The invariant: no job passed has a fault.
use Prim.Native.Nat.{ℕ, ◌<◌}
use Rattle.std.specs.Iterator.Adapters.{enumerate_count}
use Rattle.planner.specs.List.{job_at}
use Rattle.refusal.specs.Table.{Clear}
use Rattle.planner.proofs.Pairs.{AtEntry}
use Rattle.planner.proofs.entries.unsound_job.Given as goal

abbrev pub invariant-loop-i : goal.invariant-loop-i
invariant-loop-i l = AtEntry l.starts l.deadlines l.i-iterator × ((j : ℕ) → j < enumerate_count l.i-iterator → Clear (job_at l.starts l.deadlines j))
