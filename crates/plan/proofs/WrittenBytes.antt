-- Bytes written job by job are the plan's.
-- Assumes nothing.
use mathlib.Core.Bool.{cond}
use mathlib.Core.List.{List, ◌++◌}
use mathlib.Core.Logic.{◌⊎◌, inl, inr, ⊎_elim}
use mathlib.Core.Path.{◌≡◌, refl, sym, ap, ◌∙◌}
use Prim.Native.Nat.{ℕ, zero, suc, ◌+◌, ◌-◌, ◌*◌, ◌/◌, ◌%◌, ◌≤◌, ◌<◌}
use native.Mathlib.Numerals.{add-one}
use native.Mathlib.Omega.{arith}
use borrow.Author.Tests.{lt-ltb, le-ltb}
use lib.Dec.{T, eqb, ltb, eqb→eq}
use lib.ListN.{length, length-set, length-append, length-replicate, get_or, set, drop, replicate, get_or-replicate, get_or-append}
use lib.Seq.{get_or-set_same, get_or-set_other, get_or-append-add, ext_get_or}
use Rattle.schedule.specs.Make.{byte}
use Rattle.schedule.proofs.Tests.{test, cond_case, eq→eqb, le_or_lt}
use Rattle.schedule.proofs.Loop.{bytes_length, bytes_at}
use Rattle.sets.specs.Sets.{has}
use Rattle.book.specs.Told.{Book, Made, jobs_of, latest_of, cores}
use Rattle.plan.specs.declared.layout.Layout.{Layout}
use Rattle.plan.specs.Plan.{unplaced, plan_of, finish_of, bytes_of}
use Rattle.plan.specs.Place.{core_of}
use Rattle.plan.specs.Inner.Layout.{core_in, Lays}
use Rattle.plan.specs.Inner.Bytes.{seated, Writable}
use Rattle.plan.proofs.BookPlan.{book_plan, all_placed, finish_fits}
use Rattle.plan.proofs.Seats.{seat_of, seat_core, seat_only}

pub core_below : (on_1 job : ℕ) → core_in on_1 job ≤ 1
core_below on_1 job = cond_case (λ c. c ≤ 1) (has on_1 job) 1 0 (λ x. omega arith) (λ x. omega arith)

-- one job more
pub seated_more : (slot : List ℕ) (on_1 n : ℕ) (out : List ℕ) →
    set (seated slot on_1 n out) (cores * get_or slot n 0 + core_in on_1 n) n ≡ seated slot on_1 (n + 1) out
unfolding seated
seated_more slot on_1 n out = rw add-one

-- a job below n as a byte, 255 for any other
abbrev shown : ℕ → ℕ → ℕ
shown n job = cond (ltb job n) job 255

shown_same : (n job : ℕ) → (job ≡ n → ⊥) → shown n job ≡ shown (suc n) job
shown_same n job f = ⊎_elim
    (λ l. simp (le-ltb job n l, le-ltb job (suc n) (let h : suc n ≤ job = ⊎_elim (λ x. absurd (f (omega arith))) (λ x. x) (le_or_lt job n) in h)))
    (λ l. simp (lt-ltb job n l, lt-ltb job (suc n) (omega arith)))
    (le_or_lt n job)

-- the job of byte p
abbrev board : Book → ℕ → ℕ
board k p = seat_of k (p / cores) (p % cores)

module _ (k : Book) (m : Made k) (r : Layout) (x : Lays k r) where
  abbrev end : ℕ
  end = cores * finish_of k

  -- the byte of job i, as the code finds it
  abbrev site : ℕ → ℕ
  site i = cores * get_or r.slot i 0 + core_in r.on_core_1 i

  site_is : (i : ℕ) → i < k.size → site i ≡ cores * plan_of k i + core_of k i
  site_is i l = omega (arith, x.at i l, x.core i l)

  site_within : (i : ℕ) → i < k.size → site i < end
  site_within i l = omega (arith, x.at i l, (book_plan k m).within i l, core_below r.on_core_1 i)

  -- the byte at a job's site is the job's, and no other byte is
  site_board : (i : ℕ) → i < k.size → board k (site i) ≡ i
  site_board i l =
      let s = seat_core k i l (all_placed k m i l) in
      let h : site i / cores ≡ plan_of k i = omega (arith, site_is i l, s.0) in
      let c : site i % cores ≡ core_of k i = omega (arith, site_is i l, s.0) in
      rw (h, c) s.1

  board_site : (i p : ℕ) → i < k.size → p < end → board k p ≡ i → p ≡ site i
  board_site i p l h e =
      let y = seat_only k i l (all_placed k m i l) (p / cores) (p % cores) (omega (arith, finish_fits k m)) (omega arith) e in
      omega (arith, y.0, y.1, site_is i l)

  -- every job's byte is among the bytes lent
  pub plan_writable : (out : List ℕ) → cores * r.finish ≤ length out → Writable k.size r.slot out
  plan_writable out h = record { few = m.1.shaped.few; room = λ i l. omega (arith, x.at i l, x.ends, (book_plan k m).within i l) }

  module _ (out : List ℕ) (room : end ≤ length out) where
    abbrev so_far : ℕ → List ℕ
    so_far n = seated r.slot r.on_core_1 n out

    seated_length : (n : ℕ) → length (so_far n) ≡ length out
    unfolding seated
    seated_length zero = refl
    seated_length (suc n) = simp length-set (seated_length n)

    seated_beyond : (n p : ℕ) → n ≤ k.size → end ≤ p → get_or (so_far n) p 0 ≡ get_or out p 0
    unfolding seated
    seated_beyond zero p h l = refl
    seated_beyond (suc n) p h l = get_or-set_other (so_far n) (site n) p n 0 (λ e. omega (arith, site_within n h)) ∙ seated_beyond n p (omega arith) l

    seated_at : (idle : (p : ℕ) → p < end → get_or out p 0 ≡ 255) (n p : ℕ) → n ≤ k.size → p < end → get_or (so_far n) p 0 ≡ shown n (board k p)
    unfolding seated
    seated_at idle zero p h l = idle p l ∙ simp (le-ltb (board k p) 0 (omega arith))
    seated_at idle (suc n) p h l = go (seated_at idle n p (omega arith) l) (test (eqb p (site n)))
      where
        go : get_or (so_far n) p 0 ≡ shown n (board k p) → T (eqb p (site n)) ⊎ (T (eqb p (site n)) → ⊥) → get_or (set (so_far n) (site n) n) p 0 ≡ shown (suc n) (board k p)
        go ih (inl y) =
            let e : p ≡ site n = eqb→eq p (site n) y in
            let mine : shown (suc n) n ≡ n = simp (lt-ltb n (suc n) (omega arith)) in
            rw e (get_or-set_same (so_far n) (site n) n 0 (omega (arith, seated_length n)) ∙ sym (ap (shown (suc n)) (site_board n h) ∙ mine))
        go ih (inr f) =
            get_or-set_other (so_far n) (site n) p n 0 (λ e. f (eq→eqb p (site n) e)) ∙ ih
            ∙ shown_same n (board k p) (λ e. f (eq→eqb p (site n) (board_site n p h l e)))

  -- the plan's bytes, and the bytes beyond as they were
  seated_bytes : (old : List ℕ) → end ≤ length old → seated r.slot r.on_core_1 k.size (replicate end 255 ++ drop end old) ≡ bytes_of k ++ drop end old
  unfolding byte
  seated_bytes old room =
      ext_get_or 0 (so_far out fits k.size) (ys ++ zs) (seated_length out fits k.size ∙ omega (arith, whole, length-append ys zs, long))
      (λ p l. ⊎_elim
      (λ h. seated_beyond out fits k.size p (omega arith) h ∙ tail xs p (length-replicate end 255) h ∙ sym (tail ys p long h))
      (λ h. seated_at out fits idle k.size p (omega arith) h ∙ sym (get_or-append ys zs 0 p (omega (arith, long)) ∙ written p h))
      (le_or_lt end p))
    where
      xs : List ℕ
      xs = replicate end 255

      ys : List ℕ
      ys = bytes_of k

      zs : List ℕ
      zs = drop end old

      out : List ℕ
      out = xs ++ zs

      long : length ys ≡ end
      long = bytes_length (jobs_of k) (latest_of k) unplaced (finish_of k)

      whole : length out ≡ end + length zs
      whole = length-append xs zs ∙ ap (λ n. n + length zs) (length-replicate end 255)

      fits : end ≤ length out
      fits = omega (arith, whole)

      idle : (p : ℕ) → p < end → get_or out p 0 ≡ 255
      idle p h = get_or-append xs zs 0 p (omega (arith, length-replicate {A = ℕ} end 255)) ∙ get_or-replicate end p 255 0 h

      tail : (l : List ℕ) (p : ℕ) → length l ≡ end → end ≤ p → get_or (l ++ zs) p 0 ≡ get_or zs (p - end) 0
      tail l p e h =
          let q : p ≡ length l + (p - end) = omega arith in
          ap (λ y. get_or (l ++ zs) y 0) q ∙ get_or-append-add l zs (p - end) 0

      written : (p : ℕ) → p < end → get_or ys p 0 ≡ shown k.size (board k p)
      written p h =
          let q : p ≡ cores * (p / cores) + p % cores = omega arith in
          ap (λ y. get_or ys y 0) q ∙ bytes_at (jobs_of k) (latest_of k) unplaced (finish_of k) (p / cores) (p % cores) 0 (omega arith) (omega arith)

  -- the same, as the code reads the finishing time
  pub plan_written : (old : List ℕ) → cores * r.finish ≤ length old →
      seated r.slot r.on_core_1 k.size (replicate (cores * r.finish) 255 ++ drop (cores * r.finish) old) ≡ bytes_of k ++ drop end old
  plan_written old h = rw x.ends (seated_bytes old (omega (arith, x.ends)))
