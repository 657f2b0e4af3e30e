-- The measure is the sum of the row: each pass that moves a job lowers it.
use Prim.Native.Nat.{ℕ}
use Rattle.schedule.specs.Jobs.{Jobs}
use Rattle.schedule.specs.Theory.Sum.{sum}
use Rattle.book.specs.Told.{cores, row_in}
use Rattle.planner.specs.Inner.Tighten.Known.{Known}
use Rattle.planner.specs.Inner.Tighten.Sink.{Sunk}
use Rattle.planner.proofs.tighten.tables.Tables.settled.Given as goal

abbrev pub invariant-loop-moved : goal.invariant-loop-moved
invariant-loop-moved l = (J : Jobs) (early : ℕ → ℕ) → Known J early l.self → Sunk cores J early l.initial.row l.row

abbrev pub decreases-loop-moved : goal.decreases-loop-moved
decreases-loop-moved l = sum l.self.size (row_in l.row)
