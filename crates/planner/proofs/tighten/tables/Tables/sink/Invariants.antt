use mathlib.Core.Path.{◌≡◌}
use Prim.Native.Nat.{ℕ, ◌<◌}
use Rattle.std.specs.Prelude.{All}
use lib.ListN.{length}
use Rattle.schedule.specs.Jobs.{Jobs}
use Rattle.book.specs.Told.{cores}
use Rattle.planner.specs.Inner.Tighten.Known.{Known}
use Rattle.planner.specs.Inner.Tighten.Sink.{Sunk}
use Rattle.planner.proofs.tighten.tables.Tables.sink.Given as goal

abbrev pub invariant-loop-last : goal.invariant-loop-last
invariant-loop-last l =
    (goal.iterator-loop-last).can_next l.last-iterator
    × (goal.iterator-loop-last).is_finite l.last-iterator
    × All (λ job. job < l.self.size) l.last-iterator.iter.rest.now
    × (length l.row ≡ 64) × ((J : Jobs) (early : ℕ → ℕ) → Known J early l.self → Sunk cores J early l.initial.row l.row)
