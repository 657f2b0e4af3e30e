use Prim.Native.Nat.{ℕ, ◌≤◌}
use Rattle.schedule.specs.Jobs.{Jobs}
use Rattle.book.specs.Told.{cores}
use Rattle.planner.specs.Inner.Tighten.Known.{Known}
use Rattle.planner.proofs.TightenDue.{Among}
use Rattle.planner.proofs.TightenSink.{Passing}
use Rattle.planner.proofs.tighten.tables.Tables.pass.Given as goal

abbrev pub invariant-loop-due : goal.invariant-loop-due
invariant-loop-due l =
    (l.limit ≤ 65536) × Among l.self.size l.limit l.row l.among × ((J : Jobs) (early : ℕ → ℕ) → Known J early l.self → Passing cores J early l.initial.row l.row l.all l.limit)

abbrev pub decreases-loop-due : goal.decreases-loop-due
decreases-loop-due l = l.limit
