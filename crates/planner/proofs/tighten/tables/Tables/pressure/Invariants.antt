use mathlib.Core.Path.{◌≡◌}
use Prim.Native.Nat.{ℕ, ◌-◌, ◌/◌, ◌≤◌, ◌<◌}
use Rattle.schedule.specs.Jobs.{Jobs}
use Rattle.book.specs.Told.{cores}
use Rattle.std.specs.Iterator.Adapters.{zip_first, zip_second}
use Rattle.std.specs.Slice.Iter.{iter_rest}
use Rattle.planner.specs.Inner.Tighten.Rule.{At}
use Rattle.planner.proofs.TightenPress.{Walked, Passed}
use Rattle.planner.proofs.tighten.tables.Tables.pressure.Given as goal

abbrev pub invariant-loop-time : goal.invariant-loop-time
invariant-loop-time l =
    (goal.iterator-loop-time).can_next l.time-iterator
    × (goal.iterator-loop-time).is_finite l.time-iterator
    × ((k : ℕ) × (k < 65) × Walked l.self k (iter_rest (zip_first l.time-iterator)) (iter_rest (zip_second l.time-iterator))
    × (most : ℕ) × ((l.least ≤ most) × (l.near ≡ l.d - most / cores)) × ((J : Jobs) (early row : ℕ → ℕ) (x : At J early row l.job.0 l.fn.held l.due l.self) → Passed cores x k most))
