-- What a call tells of memory that it knows nothing of.
-- Assumes nothing.
use Rattle.std.specs.Prelude.{Bool, true, false, ◌≡◌}

-- r is true exactly where P holds, as that a book was made by requests (01, Requests on a book: "made by these requests alone")
pub record Whether (P : Type 0) (r : Bool) : Type 0 where
  pub yes : r ≡ true → P
  pub no : r ≡ false → P → ⊥
