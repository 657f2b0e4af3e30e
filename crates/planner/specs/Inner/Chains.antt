-- Rows of predecessors, and an order of a before b more.
-- Assumes nothing.
use Rattle.std.specs.Prelude.{cond, ◌||◌, List, ◌↔◌, ◌⊎◌, ◌≡◌, ℕ, T, eqb, get_or, map}
use Rattle.std.specs.List.{range_with_len}
use Rattle.std.specs.Int.Bits.{bit_or}
use Rattle.planner.specs.declared.chains.Pending.{Pending}
use Rattle.sets.specs.Sets.{has}

-- row b, and the rows of all that b precedes, take in a and all that precedes a
abbrev pub Links : ℕ → ℕ → List ℕ → List ℕ → Type 0
Links a b old new = (x y : ℕ) → T (has (get_or new y 0) x) ↔ (T (has (get_or old y 0) x) ⊎ (((x ≡ a) ⊎ T (has (get_or old a 0) x)) × ((b ≡ y) ⊎ T (has (get_or old y 0) b))))

-- no order is pending
abbrev pub nothing : Pending
nothing = record { job = record { 0 = 0 }; more = 0 }

-- row y takes in more where y is the job of the order or follows it
abbrev pub joined_of : ℕ → ℕ → Pending → ℕ
joined_of row y p = cond (has row p.job.0 || eqb p.job.0 y) (bit_or row p.more) row

-- 64 such rows
unfoldable pub joined_rows : List ℕ → Pending → List ℕ
joined_rows rows p = map (λ y. joined_of (get_or rows y 0) y p) (range_with_len 0 64)
