-- A request posed to the engine: the grown book as it lies in lent memory, and what the last check leaves of it.
-- Assumes nothing.
use mathlib.Core.Bool.{true}
use mathlib.Core.List.{List}
use mathlib.Core.Logic.{inl, inr}
use mathlib.Core.Path.{◌≡◌, refl, sym, ap, ◌∙◌}
use Prim.Native.Nat.{ℕ, ◌+◌, ◌≤◌, ◌<◌}
use native.Mathlib.Omega.{arith}
use lib.ListN.{length, get_or, set, length-set}
use lib.Seq.{set-get_or, get_or-set_other}
use Rattle.std.proofs.lemmas.List.{set-set}
use Rattle.schedule.specs.Listed.{Listed, with_job, with_order, with_deadline}
use Rattle.schedule.proofs.Tests.{le_by}
use Rattle.sets.specs.Sets.{has, With}
use Rattle.book.specs.Told.{Book, part, book_in, Told}
use Rattle.book.proofs.Parts.{part_at, part_in, part_out, book_in_long, book_in_size, with_size, with_latest}
use Rattle.planner.specs.declared.chains.Pending.{Pending}
use Rattle.refusal.specs.Table.{Clear, Refuses}
use Rattle.schedule.specs.declared.JobIndex.{JobIndex}
use Rattle.planner.specs.declared.requests.Request.{Request}
use Rattle.planner.specs.declared.requests.Request.TheVariants.{Job, Before, Earlier}
use Rattle.std.specs.Prelude.{T, Ok}
use Rattle.planner.specs.Inner.Entries.{Closes}
use Rattle.planner.specs.Requests.{times_checks, loop_checks, sound_checks, Sound, grow, accepts_with, answered, Outcome}
use Rattle.refusal.proofs.Table.{then_table}
use Rattle.planner.specs.Inner.Chains.{nothing, joined_rows}
use Rattle.planner.specs.Inner.Requests.{Settleable, Kept, NoneMeets}
use Rattle.planner.proofs.Growing.{true_T, Last, told_last, Grows, grows_ready, fits_last, none_last, size_is, job_grows, order_held, order_reads, followed_told, kept_told, deadline_grows}
use Rattle.planner.proofs.Pending.{rows_same, nothing_low, pending_grows}

-- a book of so many jobs, one of them due by a deadline, with an order pending
abbrev posed : ℕ → List ℕ → List ℕ → Pending → ℕ → ℕ → Book
posed size times before p job d = record { size = size; start = part 1 times; latest = set (part 65 times) job d; before = joined_rows before p }

module _ (L : Listed) (size : ℕ) (times before : List ℕ) (p : Pending) (job d : ℕ) (g : Grows L (posed size times before p job d)) where
  posed_ready : 129 ≤ length times → job < 64 → p.job.0 < 64 → Settleable size times before p job
  posed_ready l j w = record { long = l; below = j; waits = w; ready = grows_ready L _ g }

  module _ (k : Book) (value : ℕ) where
    posed_fits : (after : List ℕ) (x : Kept size times before p job d after) (b : Book) (told : ℕ) → b ≡ with_latest (posed size times before p job d) x.row → told ≡ value → Last L value k (answered b 0 told)
    posed_fits after x = fits_last L k _ value g x.row x.tight

    posed_none : NoneMeets size times before p job d → (b : Book) → b ≡ k → Last L value k (answered b 4 0)
    posed_none = none_last L k _ value g

-- ---- the three requests, of a book of n jobs
module _ (L : Listed) (times before : List ℕ) (t : Told (book_in times before) L) where
  abbrev k : Book
  k = book_in times before

  long : 129 ≤ length times
  long = book_in_long times before t.shaped

  nothing_waits : (p : Pending) → p ≡ nothing → joined_rows before p ≡ before
  nothing_waits p e = ap (joined_rows before) e ∙ rows_same before t.shaped.befores

  -- a new job
  module _ (s d : ℕ) (p : Pending) (e : p ≡ nothing) (n : ℕ) (size : n ≡ k.size) (room : n < 64) (clear : Clear (times_checks 0 s d)) where
    abbrev begun : List ℕ
    begun = set times (1 + n) s

    begun_long : 129 ≤ length begun
    begun_long = rw (length-set times (1 + n) s) long

    job_posed : Grows (with_job L s d) (posed (n + 1) begun before p n d)
    job_posed = rw (part_in 1 times n s room, part_out 65 times (1 + n) s (inl (omega arith)), nothing_waits p e, size) (job_grows L k t s d (omega arith) (le_by s 4095 (λ x. clear.0 (inl x))) (le_by d 4096 (λ x. clear.0 (inr x))))

    pub job_ready : Settleable (n + 1) begun before p n
    job_ready = posed_ready (with_job L s d) (n + 1) begun before p n d job_posed begun_long room (nothing_low p e)

    sound : Sound L (Job s d)
    sound = ((λ f. omega (arith, size_is L k t)), clear)

    -- the count is still to be raised
    pub count_is : (after : List ℕ) → Kept (n + 1) begun before p n d after → get_or after 0 0 ≡ n
    count_is after x = ap (λ (b : Book). b.size) (x.book.book before) ∙ get_or-set_other times (1 + n) 0 s 0 (λ e. omega arith) ∙ sym size

    pub job_fits : (after : List ℕ) → Kept (n + 1) begun before p n d after → Outcome L k (Job s d) (answered (book_in (set after 0 (get_or after 0 0 + 1)) before) 0 n)
    job_fits after x = rw (count_is after x) (then_table sound (posed_fits _ _ _ _ _ _ _ job_posed k _ after x _ n kept (size ∙ size_is L k t)))
      where
        kept : book_in (set after 0 (n + 1)) before ≡ with_latest (posed (n + 1) begun before p n d) x.row
        kept =
            book_in_size after before (omega (arith, x.book.same_length, begun_long)) (n + 1) ∙ ap (λ (b : Book). with_size b (n + 1)) (x.book.book before)
            ∙ ap (λ (rows : List ℕ). record { size = n + 1; start = part 1 begun; latest = x.row; before = rows }) (sym (nothing_waits p e))

    -- nothing stood beyond the jobs held
    pub job_none : (after : List ℕ) → after ≡ begun → NoneMeets (n + 1) begun before p n d → Outcome L k (Job s d) (answered (book_in (set after (1 + n) 0) before) 4 0)
    job_none after left x =
        let free : get_or times (1 + n) 0 ≡ 0 = sym (part_at 1 times n room) ∙ t.shaped.start_rest n (omega (arith, size)) in
        let back : set after (1 + n) 0 ≡ times = ap (λ (l : List ℕ). set l (1 + n) 0) left ∙ set-set times (1 + n) s 0 ∙ ap (set times (1 + n)) (sym free) ∙ set-get_or times (1 + n) 0 in
        then_table sound (posed_none _ _ _ _ _ _ _ job_posed k _ x _ (ap (λ (l : List ℕ). book_in l before) back))

  -- what changes the latest times alone
  module _ (q : Request) (p : Pending) (j d n : ℕ) (size : n ≡ k.size) (sound : Sound L q) (g : Grows (grow L q) (posed n times before p j d)) (after : List ℕ) where
    times_fit : (rows : List ℕ) → rows ≡ joined_rows before p → 0 ≡ accepts_with L q → Kept n times before p j d after → Outcome L k q (answered (book_in after rows) 0 0)
    times_fit rows r e x = then_table sound (posed_fits (grow L q) n times before p j d g k _ after x (book_in after rows) 0 (rw (r, size) (x.book.book (joined_rows before p))) e)

    times_none : after ≡ times → NoneMeets n times before p j d → Outcome L k q (answered (book_in after before) 4 0)
    times_none left x = then_table sound (posed_none (grow L q) n times before p j d g k _ x (book_in after before) (ap (λ (l : List ℕ). book_in l before) left))

  -- an order of two jobs that closes no loop
  module _ (a b : JobIndex) (n : ℕ) (size : n ≡ k.size) (held : (a.0 < n) × (b.0 < n)) (passes : Closes before a.0 b.0 (Ok tt)) where
    loopless : Clear (loop_checks 0 L.orders a.0 b.0)
    loopless = passes L.orders 0 (order_reads L k t a.0 b.0 (omega (arith, size)) (omega (arith, size)))

    free : T (has (get_or before a.0 0) b.0) → ⊥
    free x = loopless.1 ((order_reads L k t a.0 b.0 (omega (arith, size)) (omega (arith, size))).0 x)

    order_sound : Sound L (Before a b)
    order_sound = (order_held L k t a.0 b.0 (omega (arith, size)) (omega (arith, size)), loopless)

    -- that already follows
    pub order_kept : true ≡ has (get_or before b.0 0) a.0 → Outcome L k (Before a b) (answered k 0 0)
    order_kept e = then_table order_sound (told_last _ 0 0 k k refl (followed_told L k t a.0 b.0 (omega (arith, size)) (omega (arith, size)) (true_T _ (sym e))))

    module _ (more : ℕ) (m : With (get_or before a.0 0) a.0 more) where
      abbrev order : Pending
      order = record { job = b; more = more }

      abbrev due : ℕ
      due = get_or times (65 + b.0) 0

      order_posed : Grows (with_order L a.0 b.0) (posed n times before order b.0 due)
      order_posed =
          let same : set (part 65 times) b.0 due ≡ part 65 times = ap (set (part 65 times) b.0) (sym (part_at 65 times b.0 (omega (arith, t.shaped.few, size)))) ∙ set-get_or (part 65 times) b.0 0 in
          rw (same, size) (pending_grows L k t a.0 order (omega (arith, size)) (omega (arith, size)) m loopless.0 free)

      pub order_ready : Settleable n times before order b.0
      order_ready = posed_ready _ _ _ _ _ _ _ order_posed long (omega (arith, t.shaped.few)) (omega (arith, t.shaped.few))

      pub order_fits : (after rows : List ℕ) → rows ≡ joined_rows before order → Kept n times before order b.0 due after → Outcome L k (Before a b) (answered (book_in after rows) 0 0)
      order_fits after rows r = times_fit (Before a b) order b.0 due n size order_sound order_posed after rows r refl

      pub order_none : (after : List ℕ) → after ≡ times → NoneMeets n times before order b.0 due → Outcome L k (Before a b) (answered (book_in after before) 4 0)
      order_none = times_none (Before a b) order b.0 due n size order_sound order_posed

  -- an earlier deadline: the faults of the job's times with it
  module _ (j : JobIndex) (n : ℕ) (size : n ≡ k.size) (lj : j.0 < n) (d : ℕ) where
    start_is : get_or L.starts j.0 0 ≡ get_or times (1 + j.0) 0
    start_is = sym (t.holds.reads.start j.0 (omega (arith, size_is L k t))) ∙ part_at 1 times j.0 (omega (arith, t.shaped.few))

    low : 4095 < get_or times (1 + j.0) 0 → ⊥
    low l = omega (arith, start_is, t.limited.start j.0 (omega (arith, size_is L k t)))

    held : length L.starts ≤ j.0 → ⊥
    held l = omega (arith, size_is L k t)

    pub deadline_faults : {m v : ℕ} → Refuses (times_checks 0 (get_or times (1 + j.0) 0) d) m v → Refuses (sound_checks L (Earlier j d)) m v
    deadline_faults (inl (inl l, m, v)) = absurd (low l)
    deadline_faults (inl (inr g, m, v)) = inr (held, inl (g, m, v))
    deadline_faults (inr (c, (f, m, v))) = inr (held, inr ((λ g. c (inr g)), (omega (arith, start_is), m, v)))

    module _ (clear : Clear (times_checks 0 (get_or times (1 + j.0) 0) d)) where
      high : d ≤ 4096
      high = le_by d 4096 (λ g. clear.0 (inr g))

      deadline_sound : Sound L (Earlier j d)
      deadline_sound = (held, ((λ g. clear.0 (inr g)), λ l. clear.1 (omega (arith, start_is))))

      -- not below the latest time
      pub deadline_kept : get_or times (65 + j.0) 0 ≤ d → Outcome L k (Earlier j d) (answered k 0 0)
      deadline_kept l =
          then_table deadline_sound
          (told_last _ 0 0 k k refl (kept_told L k t j.0 d (omega (arith, size)) high (omega (arith, part_at 65 times j.0 (omega (arith, t.shaped.few))))))

      module _ (p : Pending) (e : p ≡ nothing) (less : d ≤ get_or times (65 + j.0) 0) where
        deadline_posed : Grows (with_deadline L j.0 d) (posed n times before p j.0 d)
        deadline_posed = rw (nothing_waits p e, size) (deadline_grows L k t j.0 d (omega (arith, size)) high (rw (part_at 65 times j.0 (omega (arith, t.shaped.few, size))) less))

        pub deadline_ready : Settleable n times before p j.0
        deadline_ready = posed_ready _ _ _ _ _ _ _ deadline_posed long (omega (arith, t.shaped.few)) (nothing_low p e)

        pub deadline_fits : (after : List ℕ) → Kept n times before p j.0 d after → Outcome L k (Earlier j d) (answered (book_in after before) 0 0)
        deadline_fits after = times_fit (Earlier j d) p j.0 d n size deadline_sound deadline_posed after before (sym (nothing_waits p e)) refl

        pub deadline_none : (after : List ℕ) → after ≡ times → NoneMeets n times before p j.0 d → Outcome L k (Earlier j d) (answered (book_in after before) 4 0)
        deadline_none = times_none (Earlier j d) p j.0 d n size deadline_sound deadline_posed
