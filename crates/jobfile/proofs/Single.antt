-- A whole file read by single reads: the loop, and that it has one outcome.
-- Assumes nothing.
use mathlib.Core.Bool.{not}
use mathlib.Core.List.{List, [], ◌∷◌, ◌++◌, append_assoc, append-nil}
use mathlib.Core.Path.{◌≡◌, refl, sym, ap, ap₂, subst, ◌∙◌}
use Prim.Native.Nat.{ℕ, ◌+◌, ◌*◌, ◌≤◌}
use native.Mathlib.Nat.{zero-add}
use native.Mathlib.Omega.{arith}
use lib.Dec.{T}
use lib.ListN.{length, set, drop, length-append}
use lib.Seq.{sets, sets-eq}
use Rattle.book.specs.Told.{Book, Made}
use Rattle.records.proofs.Stored.{sets_append}
use Rattle.std.specs.Prelude.{Some, Result, Ok}
use Rattle.refusal.specs.declared.Refusal.{Refusal}
use Rattle.refusal.specs.Says.{number_of, value_of}
use Rattle.refusal.proofs.Says.{says_told}
use Rattle.jobfile.specs.Reader.{AfterRead, after_read, halts, ReadEvent, Tells, ReadsRecord}
use Rattle.jobfile.specs.File.{SingleReads, last, more, ReadsFile}
use Rattle.jobfile.specs.Inner.File.{Underway}
use Rattle.jobfile.proofs.Events.{never, tells_told, tells_only}
use Rattle.jobfile.proofs.Reading.{reads_only, read_within}

-- ---- the loop
-- what the event of a request tells
pub request_told : (k : Book) (file : List ℕ) (at : ℕ) (b : Book) (i : ℕ) (e : ReadEvent) (a : Result ℕ Refusal) → e ≡ Ok (Some a) → Tells e (λ n v. ReadsRecord k file at (after_read b i n v)) →
    T (not (halts (number_of a))) × ReadsRecord k file at (after_read b i (number_of a) (value_of a))
request_told k file at b i e a same x = says_told (λ n v. T (not (halts n)) × ReadsRecord k file at (after_read b i n v)) a (rw same at x)

module _ (k : Book) (file old : List ℕ) where
  module _ (new : List ℕ) (book : Book) (at n : ℕ) (u : Underway k file old new book at n) (r : AfterRead) (x : ReadsRecord book file at r) where
    -- the last read
    pub underway_ends : T (halts r.number) → ReadsFile k file old new n r
    underway_ends h = record {
      numbers = u.numbers;
      count = u.count;
      reads = subst (λ l. SingleReads file k 0 l r) (append-nil u.numbers) (u.rest [] r (last x h));
      bytes = u.bytes;
      made = x.made;
    }

    -- one record more
    module _ (h : T (not (halts r.number))) where
      pub underway_more : Underway k file old (set new n r.number) r.book r.at (n + 1)
      underway_more =
          let i = read_within book file at r x h in
          record {
            numbers = u.numbers ++ (r.number ∷ []);
            count = omega (arith, u.count, length-append u.numbers (r.number ∷ []));
            place = omega (arith, u.place);
            bytes = rw (u.bytes, u.count) (rw zero-add at (sets_append u.numbers (r.number ∷ []) old 0));
            rest = λ others s p. rw append_assoc (u.rest (r.number ∷ others) s (more r x h p));
            made = x.made;
          }

-- ---- how many
-- no file has more than 4,096 records
pub single_reads_few : (file : List ℕ) (k : Book) (at : ℕ) (numbers : List ℕ) (r : AfterRead) → at ≤ 24576 → SingleReads file k at numbers r → at + 6 * length numbers ≤ 24576
single_reads_few file k at numbers r h (last x f) = omega arith
single_reads_few file k at numbers r h (more {numbers = others} t x f p) =
    let i = read_within k file at t x f in
    omega (arith, single_reads_few file t.book t.at others r (omega arith) p)

-- so that their numbers stand first in 4,096 bytes
pub reads_file_bytes : (k : Book) (file old new : List ℕ) (n : ℕ) (r : AfterRead) → length old ≡ 4096 → (x : ReadsFile k file old new n r) → new ≡ x.numbers ++ drop (length x.numbers) old
reads_file_bytes k file old new n r h x =
    x.bytes ∙ sets-eq x.numbers old 0 (omega (arith, zero-add (length x.numbers), single_reads_few file k 0 x.numbers r (omega arith) x.reads))
    ∙ ap (λ (m : ℕ). x.numbers ++ drop m old) (zero-add (length x.numbers))

-- ---- one outcome
pub single_reads_one : (file : List ℕ) (k : Book) (at : ℕ) (ns ms : List ℕ) (r s : AfterRead) → Made k → SingleReads file k at ns r → SingleReads file k at ms s → (ns ≡ ms) × (r ≡ s)
single_reads_one file k at ns ms r s m (last x f) (last y g) = (refl, reads_only k file at m r s x y)
single_reads_one file k at ns ms r s m (last x f) (more t y g p) =
    absurd (never (halts t.number) (subst (λ (z : AfterRead). T (halts z.number)) (reads_only k file at m r t x y) f) g)
single_reads_one file k at ns ms r s m (more t x f p) (last y g) =
    absurd (never (halts t.number) (subst (λ (z : AfterRead). T (halts z.number)) (reads_only k file at m s t y x) g) f)
single_reads_one file k at ns ms r s m (more {numbers = others} t x f p) (more {numbers = rest} u y g q) =
    let same : t ≡ u = reads_only k file at m t u x y in
    let ih = single_reads_one file t.book t.at others rest r s x.made p (subst (λ (z : AfterRead). SingleReads file z.book z.at rest s) (sym same) q) in
    (ap₂ (λ (c : AfterRead) (l : List ℕ). c.number ∷ l) same ih.0, ih.1)

module _ (k : Book) (file old : List ℕ) (m : Made k) where
  -- the promise of read_file has one outcome, one number of records and one row of bytes
  pub reads_file_only : (new other : List ℕ) (n m : ℕ) (r s : AfterRead) → ReadsFile k file old new n r → ReadsFile k file old other m s → (r ≡ s) × (n ≡ m) × (new ≡ other)
  reads_file_only new other n o r s x y =
      let p = single_reads_one file k 0 x.numbers y.numbers r s m x.reads y.reads in
      (p.1, x.count ∙ ap length p.0 ∙ sym y.count, x.bytes ∙ ap (sets old 0) p.0 ∙ sym y.bytes)

  -- and so the call has one event, and leaves one book
  pub ended_only : (b c : Book) (i j n o : ℕ) (new other : List ℕ) (r s : ReadEvent) →
      Tells r (λ number v. ReadsFile k file old new n (after_read b i number v)) → Tells s (λ number v. ReadsFile k file old other o (after_read c j number v)) →
      (r ≡ s) × (b ≡ c) × (i ≡ j) × (n ≡ o) × (new ≡ other)
  ended_only b c i j n o new other r s x y =
      let p = tells_told (λ number v. ReadsFile k file old new n (after_read b i number v)) r x in
      let q = tells_told (λ number v. ReadsFile k file old other o (after_read c j number v)) s y in
      let e = reads_file_only new other n o _ _ p q in (
        tells_only _ _ (λ a v d w f g. let h = (reads_file_only new other n o _ _ f g).0 in (ap (λ (z : AfterRead). z.number) h, ap (λ (z : AfterRead). z.value) h)) r s x y,
        ap (λ (z : AfterRead). z.book) e.0,
        ap (λ (z : AfterRead). z.at) e.0,
        e.1,
        e.2,
      )
