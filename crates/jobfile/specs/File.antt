-- A whole file read into a book.
-- Assumes nothing.
use Rattle.std.specs.Prelude.{not, List, [], ◌∷◌, ◌≡◌, ℕ, T, length}
use Rattle.std.proofs.lemmas.List.Edits.{sets}
use Rattle.book.specs.Told.{Book, Made}
use Rattle.jobfile.specs.Reader.{AfterRead, halts, ReadsRecord}

-- single reads from an offset on, up to the one that ends or stops: the number of each record, 0 where it is accepted, and what the last read left (01, Job file: "One read takes one record")
pub data SingleReads (file : List ℕ) : Book → ℕ → List ℕ → AfterRead → Type 0 where
  last : {k : Book} {at : ℕ} {r : AfterRead} → ReadsRecord k file at r → T (halts r.number) → SingleReads file k at [] r
  more : {k : Book} {at : ℕ} {numbers : List ℕ} {s : AfterRead} (r : AfterRead) → ReadsRecord k file at r → T (not (halts r.number)) →
      SingleReads file r.book r.at numbers s → SingleReads file k at (r.number ∷ numbers) s

-- what read_file promises: single reads from offset 0, and how many records they answered; the first bytes lent get the numbers, and those beyond stay; `made` follows from the rest, and serves the next call
pub record ReadsFile (k : Book) (file old new : List ℕ) (records : ℕ) (r : AfterRead) : Type 0 where
  pub numbers : List ℕ
  pub count : records ≡ length numbers
  pub reads : SingleReads file k 0 numbers r
  pub bytes : new ≡ sets old 0 numbers
  pub made : Made r.book
