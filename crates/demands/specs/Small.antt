-- The small lists of document 01, as the calls answer them (01, Small lists to hold it against: "Those marked P are proved, together as a single table").
-- Assumes nothing.
use Rattle.std.specs.Prelude.{List, [], ◌∷◌, ◌++◌, ◌≡◌, ℕ, ◌*◌, ◌≤◌, length, drop}
use Rattle.book.specs.Told.{Book, Told}
use Rattle.planner.specs.List.{list_of, Judged, judged, Judges}
use Rattle.plan.specs.Plan.{Plans}

-- ---- what a row of the table says of the calls
-- judge accepts the list, and a row long enough receives these latest times
pub record Accepts (starts deadlines pairs times : List ℕ) : Type 0 where
  pub answer : (old : List ℕ) (r : Judged) → length starts ≤ length old → Judges starts deadlines pairs old r → r ≡ judged (times ++ drop (length starts) old) 0 0

-- judge refuses the list by this number and place, and leaves the row
pub record Refuses (starts deadlines pairs : List ℕ) (number place : ℕ) : Type 0 where
  pub answer : (old : List ℕ) (r : Judged) → length starts ≤ length old → Judges starts deadlines pairs old r → r ≡ judged old number place

-- accepted, and a book that holds the list has this plan, in so many slots
pub record Lays (starts deadlines pairs times : List ℕ) (slots : ℕ) (plan : List ℕ) : Type 0 where
  pub accepted : Accepts starts deadlines pairs times
  pub planned : (k : Book) → Told k (list_of starts deadlines pairs) → (old new : List ℕ) (number value : ℕ) → 2 * slots ≤ length old → Plans k old new number value →
      (number ≡ 0) × (value ≡ slots) × (new ≡ plan ++ drop (2 * slots) old)

-- ---- the rows marked P, in their order: starts, deadlines, pairs laid flat, and the result
pub record Small : Type 0 where
  pub nothing : Lays [] [] [] [] 0 []
  pub one : Accepts (0 ∷ []) (1 ∷ []) [] (1 ∷ [])
  pub two : Accepts (0 ∷ 0 ∷ []) (1 ∷ 1 ∷ []) [] (1 ∷ 1 ∷ [])
  pub three : Refuses (0 ∷ 0 ∷ 0 ∷ []) (1 ∷ 1 ∷ 1 ∷ []) [] 4 0
  pub four_wide : Accepts (0 ∷ 0 ∷ 0 ∷ 0 ∷ []) (2 ∷ 2 ∷ 2 ∷ 2 ∷ []) [] (2 ∷ 2 ∷ 2 ∷ 2 ∷ [])
  pub five_wide : Refuses (0 ∷ 0 ∷ 0 ∷ 0 ∷ 0 ∷ []) (2 ∷ 2 ∷ 2 ∷ 2 ∷ 2 ∷ []) [] 4 0
  pub ordered_pair : Accepts (0 ∷ 0 ∷ []) (2 ∷ 2 ∷ []) (0 ∷ 1 ∷ []) (1 ∷ 2 ∷ [])
  pub late_follower : Refuses (0 ∷ 0 ∷ []) (2 ∷ 1 ∷ []) (0 ∷ 1 ∷ []) 4 0
  pub waiting : Accepts (0 ∷ 1 ∷ 1 ∷ []) (2 ∷ 2 ∷ 2 ∷ []) [] (1 ∷ 2 ∷ 2 ∷ [])
  pub lone_order : Lays (0 ∷ 0 ∷ 0 ∷ 0 ∷ []) (2 ∷ 2 ∷ 3 ∷ 2 ∷ []) (2 ∷ 3 ∷ []) (2 ∷ 2 ∷ 1 ∷ 2 ∷ []) 2 (2 ∷ 0 ∷ 1 ∷ 3 ∷ [])
  pub fan : Lays (0 ∷ 0 ∷ 0 ∷ 0 ∷ 0 ∷ 0 ∷ []) (2 ∷ 2 ∷ 3 ∷ 3 ∷ 3 ∷ 3 ∷ []) (2 ∷ 3 ∷ 2 ∷ 4 ∷ 2 ∷ 5 ∷ []) (2 ∷ 2 ∷ 1 ∷ 3 ∷ 3 ∷ 3 ∷ []) 3 (2 ∷ 0 ∷ 1 ∷ 3 ∷ 4 ∷ 5 ∷ [])
  pub starts_raised : Refuses (1 ∷ 1 ∷ 0 ∷ 0 ∷ 0 ∷ []) (2 ∷ 2 ∷ 3 ∷ 3 ∷ 3 ∷ []) (0 ∷ 2 ∷ 0 ∷ 3 ∷ 1 ∷ 4 ∷ []) 4 0
  pub loop : Refuses (0 ∷ 0 ∷ []) (1 ∷ 2 ∷ []) (0 ∷ 1 ∷ 1 ∷ 0 ∷ []) 6 1
