-- A file part read.
-- Assumes nothing.
use Rattle.std.specs.Prelude.{List, ◌++◌, ◌≡◌, ℕ, ◌*◌, ◌≤◌, length}
use Rattle.std.proofs.lemmas.List.Edits.{sets}
use Rattle.book.specs.Told.{Book, Made}
use Rattle.jobfile.specs.Reader.{AfterRead}
use Rattle.jobfile.specs.File.{SingleReads}

-- n records are read: their numbers are stored, and what is read from here on is the rest; no record is shorter than six bytes
pub record Underway (k : Book) (file old new : List ℕ) (book : Book) (at n : ℕ) : Type 0 where
  pub numbers : List ℕ
  pub count : n ≡ length numbers
  pub place : 6 * n ≤ at
  pub bytes : new ≡ sets old 0 numbers
  pub rest : (others : List ℕ) (r : AfterRead) → SingleReads file book at others r → SingleReads file k 0 (numbers ++ others) r
  pub made : Made book
