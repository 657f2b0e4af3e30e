-- The place of a job in four lent numbers.
-- Assumes nothing.
use Rattle.std.specs.Prelude.{cond, List, ◌≡◌, ℕ, eqb}
use Rattle.book.specs.Told.{Book}
use Rattle.plan.specs.Place.{Places}

-- slot, core, end and spare; a refusal leaves the four numbers as they were (01, Numbers of refusal: "leave .. lent memory untouched")
pub record FindsPlace (k : Book) (job : ℕ) (old new : List ℕ) (number : ℕ) : Type 0 where
  pub values : List ℕ
  pub places : Places k job number values
  pub lent : new ≡ cond (eqb number 0) values old
