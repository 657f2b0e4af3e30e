-- One record read at an offset: one outcome, the number of a request, and what a whole record shows.
-- Assumes nothing.
use mathlib.Core.Bool.{not}
use mathlib.Core.List.{List}
use mathlib.Core.Logic.{inl, inr}
use mathlib.Core.Path.{◌≡◌, refl, sym, ap, subst, ◌∙◌}
use Prim.Native.Nat.{ℕ, ◌+◌, ◌≤◌}
use native.Mathlib.Omega.{arith}
use borrow.Author.Tests.{ne_eqb}
use lib.Dec.{T}
use lib.ListN.{length}
use Rattle.schedule.proofs.Tests.{le_by}
use Rattle.book.specs.Told.{Book, Made}
use Rattle.std.specs.Prelude.{Option, Some, None, Result, Ok, Err}
use Rattle.refusal.specs.declared.Refusal.{Refusal}
use Rattle.refusal.specs.Says.{Says, reason_number}
use Rattle.refusal.specs.Table.{Clear, Refuses, refused, passed, One}
use Rattle.refusal.proofs.Says.{number_within, says_more}
use Rattle.refusal.proofs.Table.{Each, among_each, refuses_each, table_one, table_free, table_caught, table_past, table_refused}
use Rattle.planner.specs.declared.requests.Request.{Request}
use Rattle.planner.specs.Requests.{Applied, answered, Applies}
use Rattle.planner.proofs.Outcome.{applies_only, applied_number}
use Rattle.records.specs.declared.Record.{Record}
use Rattle.records.specs.Record.{length_of, Stands}
use Rattle.records.specs.Find.{Stops, Shows, find_checks, Finds}
use Rattle.records.proofs.Finding.{stands_clear, finds_record, finds_stop}
use Rattle.records.proofs.Standing.{length_six, stands_one, stands_within}
use Rattle.jobfile.specs.Reader.{AfterRead, after_read, stops, halts, ReadEvent, Tells, asks, Stays, Answers, ReadsRecord}
use Rattle.jobfile.proofs.Events.{never, tells_told, tells_only}

-- ---- one outcome
module _ (k : Book) (file : List ℕ) (at : ℕ) (m : Made k) where
  answers_one : One (Answers k file at)
  answers_one r s x y =
      let same : x.stood ≡ y.stood = stands_one file at x.stood y.stood x.stands y.stands in
      let e = applies_only k (asks x.stood) m (answered r.book r.number r.value) (answered s.book s.number s.value) x.applies (rw same y.applies) in
      λ i. record { book = (e i).book; at = (x.moved ∙ ap (λ (q : Record). at + length_of q) same ∙ sym y.moved) i; number = (e i).number; value = (e i).value }

  -- the promise of read has one outcome
  pub reads_only : One (ReadsRecord k file at)
  reads_only r s x y = table_one (find_checks file at) (Stays k at) (Answers k file at) (λ n v a b p q. p ∙ sym q) answers_one r s x.outcome y.outcome

  -- and so the call has one event, and leaves one book and one offset
  pub event_only : (b c : Book) (i j : ℕ) (r s : ReadEvent) → Tells r (λ n v. ReadsRecord k file at (after_read b i n v)) → Tells s (λ n v. ReadsRecord k file at (after_read c j n v)) →
      (r ≡ s) × (b ≡ c) × (i ≡ j)
  event_only b c i j r s x y =
      let e = reads_only _ _ (tells_told (λ n v. ReadsRecord k file at (after_read b i n v)) r x) (tells_told (λ n v. ReadsRecord k file at (after_read c j n v)) s y) in
      (tells_only _ _ (λ n v u w p q. let f = reads_only _ _ p q in (ap (λ (z : AfterRead). z.number) f, ap (λ (z : AfterRead). z.value) f)) r s x y, ap (λ (z : AfterRead). z.book) e, ap (λ (z : AfterRead). z.at) e)

-- ---- the number of a request is none of an end or a stop
pub applies_number : (k : Book) (q : Request) (r : Applied) → Made k → Applies k q r → T (not (halts r.number))
applies_number = applied_number (λ n. T (not (halts n))) tt tt (λ n t. simp (ne_eqb n 255 (λ e. rw e at t), ne_eqb n 9 (λ e. rw e at t), ne_eqb n 10 (λ e. rw e at t), ne_eqb n 11 (λ e. rw e at t)) tt)

-- ---- a read by its number
find_numbers : (file : List ℕ) (at : ℕ) → Each (λ n. T (halts n)) (find_checks file at)
find_numbers file at = (tt, (tt, (tt, tt)))

module _ (k : Book) (file : List ℕ) (at : ℕ) (r : AfterRead) (x : ReadsRecord k file at r) where
  -- a request was answered: no check found its fault, and a record stands there
  pub read_answers : T (not (halts r.number)) → Clear (find_checks file at) × Answers k file at r
  read_answers h = table_past (find_checks file at) (Stays k at) (Answers k file at) r
      (λ n v a e. never (halts n) (among_each (λ n. T (halts n)) (find_checks file at) n (find_numbers file at) a) (subst (λ (i : ℕ). T (not (halts i))) (ap (λ (z : AfterRead). z.number) e) h))
      x.outcome

  -- the end or a stop: the book and the offset stay
  pub read_stays : Made k → T (halts r.number) → (r ≡ after_read k at r.number r.value) × Refuses (find_checks file at) r.number r.value
  read_stays m h =
      let y = table_refused (find_checks file at) (Stays k at) (Answers k file at) r (λ a. never (halts r.number) h (applies_number k (asks a.stood) _ m a.applies)) x.outcome in
      (subst (λ (z : AfterRead). r ≡ after_read k at z.number z.value) (sym y.3) y.3, subst (λ (z : AfterRead). Refuses (find_checks file at) z.number z.value) (sym y.3) y.2)

  -- a record passed is whole, in a file in its limits
  pub read_within : T (not (halts r.number)) → (length file ≤ 24576) × (at + 6 ≤ r.at) × (r.at ≤ length file)
  read_within h =
      let y = read_answers h in
      let a = y.1 in
      (le_by _ _ y.0.0, omega (arith, a.moved, length_six a.stood), omega (arith, a.moved, stands_within file at a.stood a.stands))

-- ---- a read by what stands at the offset of a file in its limits
module _ (k : Book) (file : List ℕ) (at : ℕ) (r : AfterRead) where
  -- a record: it is answered and passed
  pub reads_standing : (q : Record) → length file ≤ 24576 → Stands file at q → ReadsRecord k file at r →
      (r.at ≡ at + length_of q) × Applies k (asks q) (answered r.book r.number r.value)
  reads_standing q short here x =
      let a = table_free (find_checks file at) (Stays k at) (Answers k file at) r (stands_clear file at q short here) x.outcome in
      let same : a.stood ≡ q = stands_one file at a.stood q a.stands here in
      (a.moved ∙ ap (λ (p : Record). at + length_of p) same, subst (λ (p : Record). Applies k (asks p) (answered r.book r.number r.value)) same a.applies)

-- nothing more: the end
pub reads_end : (k : Book) (file : List ℕ) (r : AfterRead) → length file ≤ 24576 → ReadsRecord k file (length file) r → r ≡ after_read k (length file) 255 0
reads_end k file r short x =
    table_caught (find_checks file (length file)) (Stays k (length file)) (Answers k file (length file)) r 255 0 (inr ((λ f. omega arith), inl (refl, refl, refl))) x.outcome

-- ---- what is found decides
module _ (k : Book) (file : List ℕ) (at : ℕ) (m : Made k) where
  halted : (n v : ℕ) → Refuses (find_checks file at) n v → ReadsRecord k file at (after_read k at n v)
  halted n v x = record { outcome = refused n v x refl; made = m }

  -- no record: the check that found its fault
  caught : (f : Result (Option Record) Refusal) (n v : ℕ) → (Shows file at f → ⊥) → ((i w : ℕ) → Stops i w f → (n ≡ i) × (v ≡ w)) → Finds file at f → Refuses (find_checks file at) n v
  caught f n v none same x =
      let y = finds_stop file at f none x in
      let e = same y.0 y.1 y.3 in
      rw (e.0, e.1) y.2

  pub end_reads : Finds file at (Ok None) → ReadsRecord k file at (after_read k at 255 0)
  end_reads x = halted 255 0 (caught (Ok None) 255 0 (λ z. z) (λ i w z. z) x)

  pub stop_reads : (e : Refusal) → Finds file at (Err e) → T (stops (reason_number e.reason)) × ReadsRecord k file at (after_read k at (reason_number e.reason) e.value)
  stop_reads e x =
      let n : ℕ = reason_number e.reason in
      let y = caught (Err e) n e.value (λ z. z) (λ i w z. z) x in
      (refuses_each (λ i. (i ≡ 255 → ⊥) → T (stops i)) (find_checks file at) n e.value ((λ f. tt), ((λ f. absurd (f refl)), ((λ f. tt), λ f. tt))) y (λ q. omega (arith, q, (number_within e.reason).1)), halted n e.value y)

  module _ (told : Record) (x : Finds file at (Ok (Some told))) where
    stands : Clear (find_checks file at) × Stands file at told
    stands = let y = finds_record file at told x in (stands_clear file at told y.0 y.1, y.1)

    pub request_reads : (b : Book) (a : Result ℕ Refusal) → Says a (λ n v. Applies k (asks told) (answered b n v)) →
        Says a (λ n v. T (not (halts n)) × ReadsRecord k file at (after_read b (at + length_of told) n v))
    request_reads b a y = says_more _ _ a (λ n v z. (
      applies_number k (asks told) (answered b n v) m z,
      record { outcome = passed stands.0 (record { stood = told; stands = stands.1; moved = refl; applies = z }); made = z.made },
    )) y
