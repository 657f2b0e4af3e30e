use mathlib.Core.Path.{◌≡◌}
use Prim.Native.Nat.{ℕ, ◌≤◌}
use lib.Dec.{T}
use lib.ListN.{length, get_or}
use Rattle.book.specs.Told.{cores, row_in}
use Rattle.sets.specs.Sets.{has}
use Rattle.schedule.specs.Jobs.{Jobs}
use Rattle.planner.specs.Inner.Tighten.Known.{Known}
use Rattle.planner.specs.Inner.Tighten.Rule.{DueBy}
use Rattle.planner.proofs.TightenSink.{Lowering}
use Rattle.planner.proofs.tighten.tables.Tables.lower_at.Given as goal

abbrev pub invariant-loop-job : goal.invariant-loop-job
invariant-loop-job l =
    (length l.row ≡ 64)
    × ((j : ℕ) → T (has l.job-iterator.0 j) → T (has l.due.jobs j))
    × ((j : ℕ) → T (has l.due.jobs j) → get_or l.row j 0 ≤ l.due.d)
    × ((J : Jobs) (early : ℕ → ℕ) → Known J early l.self → DueBy J.size (row_in l.initial.row) l.due.d l.due.jobs → Lowering cores J early l.initial.row l.row l.due.d l.due.jobs l.moved l.job-iterator.0)
