-- A file read into an empty book, and the parts put one behind the other, are its listing.
-- Assumes nothing.
use mathlib.Core.List.{List, ◌++◌}
use mathlib.Core.Path.{◌≡◌, refl, ap, ◌∙◌}
use Prim.Native.Nat.{ℕ, ◌≤◌}
use native.Mathlib.Omega.{arith}
use lib.ListN.{length, replicate, length-replicate}
use lib.Seq.{length-sets}
use Rattle.refusal.specs.Table.{passed}
use Rattle.book.specs.Told.{Book, Told, Made, nothing_listed}
use Rattle.jobfile.specs.Reader.{ReadEvent, after_read, Tells, event_number, event_value}
use Rattle.jobfile.specs.File.{ReadsFile}
use Rattle.jobfile.proofs.Events.{tells_more, tells_told}
use Rattle.jobfile.proofs.Single.{single_reads_few, reads_file_bytes}
use Rattle.text.specs.Put.{Puts, Adds}
use Rattle.text.specs.declared.Page.{Page}
use Rattle.text.proofs.Putting.{puts_front, adds_then}
use Rattle.report.specs.Listing.{refused_lines, stop_line, book_lines, Prints, Listing, Lists}
use Rattle.report.proofs.Ended.{Ending, ending, numbers_small, refused_lines_row}
use Rattle.report.proofs.Short.{text_short}

-- a listing put from the first byte on, where there is room for it
pub lists_by : (file text old new : List ℕ) (r : ℕ) → Listing file text → length text ≤ length old → Puts text 0 old new r → Lists file old new r
lists_by file text old new r l room p = let f = puts_front room p in record { text = text; listing = l; bytes = f.0; answer = f.1; within = f.2 }

-- the call that read the file: numbers into so many bytes of 0, and an empty book into the one it left
pub record FileRead (file : List ℕ) (k : Book) (size : ℕ) (row : List ℕ) (book : Book) (count at : ℕ) (e : ReadEvent) : Type 0 where
  pub bytes : size ≡ 4096
  pub empty : Told k nothing_listed
  pub fits : length file ≤ 24576
  pub tells : Tells e (λ n v. ReadsFile k file (replicate size 0) row count (after_read book at n v))

module _ {file : List ℕ} {k : Book} {size : ℕ} {row : List ℕ} {book : Book} {count at : ℕ} {e : ReadEvent} (x : FileRead file k size row book count at e) where
  zeros_length : length {A = ℕ} (replicate size 0) ≡ 4096
  zeros_length = length-replicate size 0 ∙ x.bytes

  pub row_length : length row ≡ 4096
  row_length = let t = tells_told _ e x.tells in ap length t.bytes ∙ length-sets (replicate size 0) 0 t.numbers ∙ zeros_length

  pub book_made : Made book
  book_made = (tells_told _ e x.tells).made

  ended : {n v : ℕ} → ReadsFile k file (replicate size 0) row count (after_read book at n v) → Ending n v
  ended y = ending file x.fits k 0 y.numbers _ (nothing_listed, x.empty) (omega arith) y.reads

  pub no_nine : Tells e (λ n v. n ≡ 9 → ⊥)
  no_nine = tells_more _ _ e (λ n v y. (ended y).no_nine) x.tells

  -- the parts put one behind the other on an empty page
  pub listed : {from a b to : Page} → length from.out.now ≡ 196608 → from.at ≡ 0 → Adds (refused_lines row) from a → Tells e (λ n v. Adds (stop_line n v) a b) → Adds (book_lines book) b to → Lists file from.out.now to.out.now to.at
  listed {from} {to = to} room start p q s =
      let y = tells_told _ e x.tells in
      let few = single_reads_few file k 0 y.numbers _ (omega arith) y.reads in
      let same = ap refused_lines (reads_file_bytes k file (replicate size 0) row count _ zeros_length y) ∙ refused_lines_row size y.numbers (omega (arith, x.bytes)) in
      let short = text_short y.numbers (event_number e) (event_value e) book (omega arith) (numbers_small file k 0 y.numbers _ (nothing_listed, x.empty) y.reads) (ended y) y.made in
      let prints : Prints file (refused_lines y.numbers ++ stop_line (event_number e) (event_value e) ++ book_lines book) =
      record { opened = k; empty = x.empty; numbers = y.numbers; last = after_read book at (event_number e) (event_value e); reads = y.reads; printed = refl } in
      let put = (adds_then (adds_then (rw same at p) (tells_told _ e q)) s).puts in
      lists_by file _ from.out.now to.out.now to.at (passed (λ over. omega (arith, x.fits)) prints) (omega arith) (rw start at put)
