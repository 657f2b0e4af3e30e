-- The row of ends that a walk over a plan's bytes makes is the plan's.
-- Assumes nothing.
use mathlib.Core.List.{List, ◌++◌}
use mathlib.Core.Logic.{⊎_elim}
use mathlib.Core.Path.{◌≡◌, refl, sym, ap, ap₂, ◌∙◌}
use Prim.Native.Nat.{ℕ, zero, suc, ◌+◌, ◌-◌, ◌*◌, ◌/◌, ◌%◌, ◌≤◌, ◌<◌}
use native.Mathlib.Numerals.{add-one}
use native.Mathlib.Omega.{arith}
use lib.ListN.{length, get_or, take, drop, set, replicate, length-set, get_or-append}
use lib.Seq.{get_or-set_same, get_or-set_other, take_at}
use Rattle.schedule.specs.Make.{byte as byte_of}
use Rattle.schedule.proofs.Tests.{le_or_lt}
use Rattle.schedule.proofs.Loop.{bytes_length, bytes_at}
use Rattle.std.specs.Prelude.{Result, Ok, Err}
use Rattle.std.specs.Result.{result_unwrap_or}
use Rattle.refusal.specs.declared.Refusal.{Refusal}
use Rattle.refusal.specs.Table.{passed as granted}
use Rattle.refusal.specs.Says.{Says}
use Rattle.refusal.proofs.Table.{table_free}
use Rattle.refusal.proofs.Says.{number_within}
use Rattle.book.specs.Told.{cores, Book, part, book_in, jobs_of, latest_of, Made}
use Rattle.plan.specs.Plan.{horizon, unplaced, plan_of, finish_of, bytes_of, Plans}
use Rattle.plan.specs.Place.{core_of}
use Rattle.plan.proofs.BookPlan.{book_plan, finish_fits}
use Rattle.plan.proofs.Seats.{seat_of}
use Rattle.plan.proofs.Shown.{Shows, plan_shown}
use Rattle.text.specs.Text.{each}
use Rattle.report.specs.Line.{job_line}
use Rattle.report.specs.Listing.{job_lines}
use Rattle.report.specs.Inner.Ends.{passed, ends_in, row_text, InTime}

-- one byte more
pub passed_next : (plan row : List ℕ) (n : ℕ) → set (passed plan n row) (get_or plan n 0) (n / cores + 1) ≡ passed plan (n + 1) row
unfolding passed
passed_next plan row n = rw (add-one n)

pub passed_length : (plan row : List ℕ) (n : ℕ) → length (passed plan n row) ≡ length row
unfolding passed
passed_length plan row zero = refl
passed_length plan row (suc n) = simp length-set (passed_length plan row n)

-- a byte that stands at one place only has the end of its slot
module _ (plan row : List ℕ) (at : ℕ) (room : get_or plan at 0 < length row) where
  passed_at : (n : ℕ) → at < n → ((i : ℕ) → i < n → get_or plan i 0 ≡ get_or plan at 0 → i ≡ at) → get_or (passed plan n row) (get_or plan at 0) 0 ≡ at / cores + 1
  unfolding passed
  passed_at zero h one = absurd (omega arith)
  passed_at (suc n) h one =
      ⊎_elim
      (λ (last : n ≤ at). let e : n ≡ at = omega arith in rw e (get_or-set_same (passed plan at row) (get_or plan at 0) (at / cores + 1) 0 (omega (arith, passed_length plan row at))))
      (λ below.
      get_or-set_other (passed plan n row) (get_or plan n 0) (get_or plan at 0) (n / cores + 1) 0 (λ e. omega (arith, one n (omega arith) (sym e)))
      ∙ passed_at n below (λ i l e. one i (omega arith) e))
      (le_or_lt n at)

-- texts that agree number by number
pub each_same : (n : ℕ) (f g : ℕ → List ℕ) → ((i : ℕ) → i < n → f i ≡ g i) → each n f ≡ each n g
unfolding each
each_same zero f g e = refl
each_same (suc n) f g e = rw (each_same n f g (λ i l. e i (omega arith)), e n (omega arith))

-- ---- the plan of a book
module _ (k : Book) (m : Made k) where
  -- the bytes of the plan, as a call on as many bytes leaves them
  abbrev new : List ℕ
  new = bytes_of k ++ drop (cores * finish_of k) (bytes_of k)

  pub long : length (bytes_of k) ≡ cores * finish_of k
  long = bytes_length (jobs_of k) (latest_of k) unplaced (finish_of k)

  shown : Shows k m (finish_of k) new
  shown = plan_shown k m (bytes_of k) new (finish_of k) (granted (λ short. omega (arith, long)) refl)

  seen : (p d : ℕ) → p < cores * finish_of k → get_or new p d ≡ get_or (bytes_of k) p d
  seen p d h = get_or-append (bytes_of k) (drop (cores * finish_of k) (bytes_of k)) d p (omega (arith, long))

  -- a byte is a job or an idle core
  pub byte_small : (u c : ℕ) → u < finish_of k → c < cores → get_or (bytes_of k) (cores * u + c) 0 ≤ 255
  byte_small u c h l =
      let e = seen (cores * u + c) 0 (omega arith) in
      ⊎_elim
      (λ idle. omega (arith, e, idle))
      (λ x. omega (arith, e, x.2, x.1, m.1.shaped.few))
      (shown.others u c h l)

  module _ (i : ℕ) (h : i < k.size) where
    abbrev at : ℕ
    at = cores * plan_of k i + core_of k i

    within : plan_of k i < finish_of k
    within = omega (arith, (book_plan k m).within i h)

    inside : at < cores * finish_of k
    inside = omega (arith, within, (shown.each i h).0)

    here : get_or (bytes_of k) at 0 ≡ i
    here = byte 0 ∙ sym (byte 255) ∙ sym (seen at 255 inside) ∙ (shown.each i h).1
      where
        byte : (d : ℕ) → get_or (bytes_of k) at d ≡ byte_of (jobs_of k) (seat_of k (plan_of k i) (core_of k i))
        byte d = bytes_at (jobs_of k) (latest_of k) unplaced (finish_of k) (plan_of k i) (core_of k i) d within (shown.each i h).0

    only : (p : ℕ) → p < cores * finish_of k → get_or (bytes_of k) p 0 ≡ i → p ≡ at
    only p l e =
        let q : cores * (p / cores) + p % cores ≡ p = omega arith in
        let f : get_or new (cores * (p / cores) + p % cores) 0 ≡ i = rw q (seen p 0 l ∙ e) in
        ⊎_elim
        (λ idle. absurd (omega (arith, f, idle, m.1.shaped.few)))
        (λ x. let same : x.0 ≡ i = sym x.2 ∙ f in omega (arith, rw same at x.3, rw same at x.4))
        (shown.others (p / cores) (p % cores) (omega arith) (omega arith))

    pub end_at : get_or (ends_in (bytes_of k)) i 0 ≡ plan_of k i + 1
    end_at =
        let e = passed_at (bytes_of k) (replicate 256 0) at (omega (arith, here, m.1.shaped.few)) (length (bytes_of k)) (omega (arith, inside, long))
        (λ p l same. only p (omega (arith, long)) (same ∙ here)) in
        rw here at e ∙ omega (arith, (shown.each i h).0)

-- the lines by the rows are those of the book
module _ (times before : List ℕ) (m : Made (book_in times before)) where
  pub in_time : InTime times (bytes_of (book_in times before))
  in_time = record {
    short = omega (arith, long (book_in times before) m, finish_fits (book_in times before) m);
    timed = λ i h. record {
      few = omega (arith, m.1.shaped.few);
      starts = m.1.shaped.starts;
      latests = m.1.shaped.latests;
      in_time = omega (arith, end_at (book_in times before) m i h, (book_plan (book_in times before) m).meets.ends i h);
    };
  }

  pub job_lines_by : each (get_or times 0 0) (row_text times (ends_in (bytes_of (book_in times before)))) ≡ job_lines (book_in times before)
  job_lines_by = each_same (get_or times 0 0) _ _ (λ i h. ap (λ e. job_line i (get_or (part 1 times) i 0) (get_or (part 65 times) i 0) e (get_or (part 65 times) i 0 - e)) (end_at (book_in times before) m i h))

-- ---- the plan as the call hands it out: in the front of more bytes than it takes
pub record Handed (k : Book) (finish : ℕ) (bytes : List ℕ) : Type 0 where
  pub small : finish ≤ horizon
  pub front : take (cores * finish) bytes ≡ bytes_of k

pub handed : (k : Book) → Made k → (old bytes : List ℕ) (r : Result ℕ Refusal) → length old ≡ cores * horizon → Says r (Plans k old bytes) → Handed k (result_unwrap_or r 0) bytes
handed k m old bytes (Ok v) room x =
    let e = table_free _ _ _ _ (λ short. omega (arith, finish_fits k m)) x in
    record {
      small = omega (arith, ap (λ z. z.1) e, finish_fits k m);
      front = ap₂ (λ n l. take (cores * n) l) (ap (λ z. z.1) e) (ap (λ z. z.2) e) ∙ take_at (bytes_of k) (drop (cores * finish_of k) old) (cores * finish_of k) (long k m);
    }
handed k m old bytes (Err refusal) room x =
    let e = table_free _ _ _ _ (λ short. omega (arith, finish_fits k m)) x in
    absurd (omega (arith, (number_within refusal.reason).0, ap (λ z. z.0) e))
