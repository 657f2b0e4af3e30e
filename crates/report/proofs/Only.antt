-- A file has one listing.
-- Assumes nothing.
use mathlib.Core.List.{List, ◌++◌}
use mathlib.Core.Path.{◌≡◌, sym, ap, ap₂, subst, ◌∙◌}
use Prim.Native.Nat.{ℕ}
use lib.ListN.{length, drop}
use Rattle.refusal.specs.Table.{One}
use Rattle.refusal.proofs.Table.{table_one}
use Rattle.book.specs.Told.{Book, nothing_listed}
use Rattle.book.proofs.OneBook.{told_one}
use Rattle.jobfile.specs.Reader.{AfterRead}
use Rattle.jobfile.specs.File.{SingleReads}
use Rattle.jobfile.proofs.Single.{single_reads_one}
use Rattle.report.specs.Listing.{refused_lines, stop_line, book_lines, Prints, Listing, Lists}

prints_one : (file : List ℕ) → One (Prints file)
prints_one file a b x y =
    let same : y.opened ≡ x.opened = told_one _ _ _ y.empty x.empty in
    let p = single_reads_one file x.opened 0 x.numbers y.numbers x.last y.last (nothing_listed, x.empty) x.reads
    (subst (λ (k : Book). SingleReads file k 0 y.numbers y.last) same y.reads) in
    x.printed ∙ ap₂ (λ (n : List ℕ) (r : AfterRead). refused_lines n ++ stop_line r.number r.value ++ book_lines r.book) p.0 p.1 ∙ sym y.printed

pub listing_one : (file : List ℕ) → One (Listing file)
listing_one file = table_one _ _ _ (λ n v a b p q. p ∙ sym q) (prints_one file)

pub lists_only : (file old new other : List ℕ) (r s : ℕ) → Lists file old new r → Lists file old other s → (new ≡ other) × (r ≡ s)
lists_only file old new other r s x y =
    let e = listing_one file x.text y.text x.listing y.listing in
    (x.bytes ∙ ap (λ (t : List ℕ). t ++ drop (length t) old) e ∙ sym y.bytes, x.answer ∙ ap length e ∙ sym y.answer)
