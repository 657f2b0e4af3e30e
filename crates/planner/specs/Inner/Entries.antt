-- The jobs and pairs of a whole list, check by check, in lent rows.
-- Assumes nothing.
use Rattle.std.specs.Prelude.{List, ◌↔◌, ◌⊎◌, ◌≡◌, ℕ, ◌/◌, ◌<◌, T, length, get_or, Result, IsOk, ⊤}
use Rattle.schedule.specs.Listed.{Chain}
use Rattle.sets.specs.Sets.{has}
use Rattle.refusal.specs.declared.Reason.{Reason}
use Rattle.refusal.specs.declared.Refusal.{Refusal}
use Rattle.refusal.specs.Table.{check, ◌then◌, places, Clear}
use Rattle.planner.specs.Requests.{loop_checks}
use Rattle.planner.specs.List.{pairs_of, pair_at, order_at, entries_checks}
use Rattle.planner.specs.Inner.Passes.{Passes, at_place}
use Rattle.planner.specs.Inner.Chains.{Links}

-- every pair is of jobs below size
pub record Held (size : ℕ) (pairs : List ℕ) : Type 0 where
  pub below : (p : ℕ) → p < length pairs / 2 → Clear (pair_at size pairs p)

-- 64 rows spell the chains of the first n pairs
pub record Spells (pairs : List ℕ) (n : ℕ) (rows : List ℕ) : Type 0 where
  pub long : length rows ≡ 64
  pub chains : (a b : ℕ) → T (has (get_or rows b 0) a) ↔ Chain (pairs_of pairs n) a b

-- the fault of a before b by the loop that it closes, where the rows have the chains of the orders
abbrev pub Closes : List ℕ → ℕ → ℕ → Result ⊤ Reason → Type 0
Closes rows a b r = (orders : List (ℕ × ℕ)) (place : ℕ) → T (has (get_or rows a 0) b) ↔ Chain orders b a → Passes (loop_checks place orders a b) (at_place place r)

-- the first pair that closes a loop; where none does, the rows spell the chains of all
pub record Loops (pairs rows : List ℕ) (r : Result ⊤ Refusal) : Type 0 where
  pub passes : Passes (places (length pairs / 2) (order_at pairs)) r
  pub spells : IsOk r → Spells pairs (length pairs / 2) rows

-- a before b already follows, or is taken in
abbrev pub TakesIn : ℕ → ℕ → List ℕ → List ℕ → Type 0
TakesIn a b old new = (T (has (get_or old b 0) a) × (new ≡ old)) ⊎ ((length new ≡ 64) × Links a b old new)

-- 1, or the first fault of the entries; where there is none, the rows spell the chains of all pairs
pub record Checked (starts deadlines pairs rows : List ℕ) (r : Result ⊤ Refusal) : Type 0 where
  pub passes : Passes (check 1 0 (64 < length starts) then entries_checks starts deadlines pairs) r
  pub spells : IsOk r → Spells pairs (length pairs / 2) rows
