-- `planner::judged::Rows::fill` meets its contract. The invariant: the deadlines passed are tried.
use mathlib.Core.Path.{◌≡◌}
use Prim.Native.Nat.{ℕ, ◌<◌}
use lib.ListN.{length, get_or}
use Rattle.std.specs.Iterator.Adapters.{enumerate_count}
use Rattle.planner.proofs.Pairs.{AtEntry}
use Rattle.planner.proofs.judged.Rows.fill.Given as goal

abbrev pub invariant-loop-i : goal.invariant-loop-i
invariant-loop-i g l =
    AtEntry l.self.starts.now l.self.deadlines.now l.i-iterator × (length l.row ≡ 64)
    × ((j : ℕ) → j < enumerate_count l.i-iterator → get_or l.row j 0 ≡ g.T.Trial.tried (get_or l.self.deadlines.now j 0) l.k)
