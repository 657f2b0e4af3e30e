-- What is written is read back.
-- Assumes nothing.
use mathlib.Core.List.{List, [], ◌∷◌, ◌++◌, append_assoc}
use mathlib.Core.Path.{◌≡◌, refl, sym, ap, ap₂, subst, ◌∙◌}
use Prim.Native.Nat.{ℕ, ◌+◌, ◌≤◌}
use native.Mathlib.Nat.{add-zero}
use native.Mathlib.Omega.{arith}
use lib.Dec.{T}
use lib.ListN.{length, take, replicate, length-append}
use Rattle.schedule.specs.Listed.{Listed}
use Rattle.book.specs.Told.{Book, Told, Made, nothing_listed}
use Rattle.book.proofs.OneBook.{told_one}
use Rattle.planner.specs.Requests.{grow, answered, Applied}
use Rattle.records.specs.declared.Record.{Record}
use Rattle.records.specs.Record.{bytes_of, length_of, Stands}
use Rattle.records.proofs.Standing.{bytes_length, stands_here}
use Rattle.jobfile.specs.Reader.{AfterRead, after_read, halts, asks, ReadsRecord}
use Rattle.jobfile.specs.File.{SingleReads, last, more, ReadsFile}
use Rattle.jobfile.specs.Writer.{bytes_of_all, records_of, file_of, WritesBook}
use Rattle.jobfile.specs.RoundTrip.{ReadsBack}
use Rattle.jobfile.proofs.Reading.{read_answers, reads_standing, reads_end}
use Rattle.jobfile.proofs.Length.{file_short}
use Rattle.jobfile.proofs.Writing.{written_file}
use Rattle.jobfile.proofs.Part.{Part, Next, part_nothing, next_part, next_accepted}
use Rattle.jobfile.proofs.Retold.{grown, Fits, done, next, records_fit, retold, told_again}

-- ---- reading on: the book k holds L; the records left come next to the list M that is read
module _ (k : Book) (L : Listed) (t : Told k L) (file : List ℕ) (short : length file ≤ 24576) where
  -- the next record stands at the offset
  standing : (q : Record) (qs : List Record) (front : List ℕ) → file ≡ front ++ bytes_of_all (q ∷ qs) → Stands file (length front) q
  unfolding bytes_of_all
  standing q qs front e = rw e (rw append_assoc at (stands_here front (bytes_of_all qs) q))

  -- and is accepted
  accepted_next : (M : Listed) (q : Record) (b : Book) (at : ℕ) (r : AfterRead) → Told b M → Part k M → Next k M q → Stands file at q → ReadsRecord b file at r →
      (r.number ≡ 0) × (r.at ≡ at + length_of q) × Told r.book (grow M (asks q))
  accepted_next M q b at r s p n here x =
      let y = reads_standing b file at r q short here x in
      let z = next_accepted k L t M q b (answered r.book r.number r.value) p n (y.1.outcome M s) in
      (ap (λ (a : Applied). a.number) z.accepts, y.0, z.told)

  reads_on : (qs : List Record) (M : Listed) (b : Book) (front : List ℕ) (at : ℕ) (numbers : List ℕ) (r : AfterRead) → Told b M → Part k M → Fits k M qs →
      file ≡ front ++ bytes_of_all qs → at ≡ length front → SingleReads file b at numbers r →
      (numbers ≡ replicate (length qs) 0) × Told r.book (grown M qs) × (r ≡ after_read r.book (length file) 255 0)
  unfolding bytes_of_all grown
  reads_on [] M b front at numbers r s p done e f (last x g) =
      let here : at ≡ length file = f ∙ sym (add-zero (length front)) ∙ sym (ap length e ∙ length-append front []) in
      let y : r ≡ after_read b (length file) 255 0 = reads_end b file r short (rw here at x) in
      (refl, rw y s, y ∙ ap (λ (c : Book). after_read c (length file) 255 0) (sym (ap (λ (z : AfterRead). z.book) y)))
  reads_on [] M b front at numbers r s p done e f (more u x g rest) =
      let here : at ≡ length file = f ∙ sym (add-zero (length front)) ∙ sym (ap length e ∙ length-append front []) in
      absurd ((read_answers b file at u x g).0.1.0 here)
  reads_on (q ∷ qs) M b front at numbers r s p (next n rest) e f (last x g) =
      let z = accepted_next M q b at r s p n (rw f (standing q qs front e)) x in
      absurd (subst (λ (i : ℕ). T (halts i)) z.0 g)
  reads_on (q ∷ qs) M b front at numbers r s p (next n rest) e f (more {numbers = others} u x g reads) =
      let z = accepted_next M q b at u s p n (rw f (standing q qs front e)) x in
      let ih = reads_on qs (grow M (asks q)) u.book (front ++ bytes_of q) u.at others r z.2 (next_part k L t M q p n) rest (e ∙ sym (append_assoc front (bytes_of q) (bytes_of_all qs)))
      (omega (arith, z.1, length-append front (bytes_of q), bytes_length q)) reads in
      (ap₂ (λ (v : ℕ) (l : List ℕ). v ∷ l) z.0 ih.0, ih.1, ih.2)

-- the file of a book, read into an empty one
pub file_read_back : (k e : Book) (numbers : List ℕ) (r : AfterRead) → Made k → Told e nothing_listed → SingleReads (file_of k) e 0 numbers r →
    (numbers ≡ replicate (length (records_of k)) 0) × (r ≡ after_read k (length (file_of k)) 255 0)
unfolding file_of
file_read_back k e numbers r m z reads =
    let x = reads_on k m.0 m.1 (file_of k) (omega (arith, file_short k m.0 m.1)) (records_of k) nothing_listed e [] 0 numbers r z (part_nothing k) (records_fit k).0 refl refl reads in
    (x.0, x.2 ∙ ap (λ (b : Book). after_read b (length (file_of k)) 255 0) (told_one (retold k) r.book k x.1 (told_again k m.0 m.1)))

-- a book written out and read into an empty one is accepted at every record, ends at the length, and gives the same book
pub round_trip : (k : Book) → Made k → ReadsBack k
round_trip k m old new v e numbers r w z reads =
    let f = written_file k old new v w in
    let x = file_read_back k e numbers r m z (subst (λ (l : List ℕ). SingleReads l e 0 numbers r) f.1 reads) in
    (x.0, x.1 ∙ ap (λ (n : ℕ). after_read k n 255 0) (sym f.0))

-- the same by one call of read_file
pub write_then_read : (k e : Book) (old new lent answers : List ℕ) (v n : ℕ) (r : AfterRead) → Made k → WritesBook k old new 0 v → Told e nothing_listed → ReadsFile e (take v new) lent answers n r →
    r ≡ after_read k v 255 0
write_then_read k e old new lent answers v n r m w z x = (round_trip k m old new v e x.numbers r w z x.reads).1
