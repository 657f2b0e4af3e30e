use mathlib.Core.Path.{◌≡◌}
use Prim.Native.Nat.{ℕ, ◌<◌}
use lib.Dec.{T}
use Rattle.book.specs.Told.{cores}
use Rattle.sets.specs.Sets.{has}
use Rattle.schedule.specs.Jobs.{Jobs}
use Rattle.schedule.specs.Times.{Raised}
use Rattle.book.specs.Told.{row_in}
use Rattle.planner.specs.Inner.Tighten.Sink.{Eased}
use Rattle.planner.proofs.tighten.sink.capped.Given as goal

abbrev pub invariant-loop-job : goal.invariant-loop-job
invariant-loop-job l =
    ((a : ℕ) → T (has l.job-iterator.0 a) → T (has l.set a))
    × ((J : Jobs) (early : ℕ → ℕ) (i : ℕ) → i < J.size → row_in l.row i ≡ l.held → ((j : ℕ) → T (has l.set j) → (j < J.size) × T (J.before i j)) → Raised J early → Eased cores J early (row_in l.row) i l.time)
