-- What an accepted call hands out shows the plan of the book, and nothing else.
-- Assumes nothing.
use mathlib.Core.List.{List}
use mathlib.Core.Logic.{◌⊎◌, inl, inr, ⊎_elim}
use mathlib.Core.Path.{◌≡◌, refl, sym, ap, ◌∙◌}
use Prim.Native.Nat.{ℕ, ◌+◌, ◌*◌, ◌≤◌, ◌<◌}
use native.Mathlib.Omega.{arith}
use borrow.Author.Tests.{lt-ltb, le-ltb}
use lib.ListN.{get_or, drop, get_or-append}
use Rattle.schedule.specs.Jobs.{Jobs}
use Rattle.schedule.specs.Plan.{Valid, Meets}
use Rattle.schedule.specs.Listed.{written}
use Rattle.schedule.specs.Make.{byte}
use Rattle.schedule.proofs.Tests.{le_or_lt}
use Rattle.schedule.proofs.Loop.{bytes_length, bytes_at}
use Rattle.book.specs.Told.{Book, jobs_of, latest_of, Made, cores}
use Rattle.plan.specs.Plan.{unplaced, plan_of, finish_of, bytes_of, Plans}
use Rattle.plan.specs.Place.{core_of}
use Rattle.plan.proofs.BookPlan.{book_plan, all_placed, finish_fits, deadlines_met}
use Rattle.plan.proofs.Outcomes.{plans_made}
use Rattle.plan.proofs.Seats.{seat_of, seat_core, seat_only}

-- ---- a seat as a byte
byte_job : (J : Jobs) (i : ℕ) → i < J.size → byte J i ≡ i
unfolding byte
byte_job J i l = simp (lt-ltb i J.size l)

byte_idle : (J : Jobs) (i : ℕ) → J.size ≤ i → byte J i ≡ 255
unfolding byte
byte_idle J i h = simp (le-ltb i J.size h)

module _ (k : Book) (m : Made k) where
  -- what an accepted call hands out: a plan that is valid and in time, its finishing time, and bytes that show each job in its place and nothing else
  pub record Shows (n : ℕ) (new : List ℕ) : Type 0 where
    pub valid : Valid cores (jobs_of k) (plan_of k)
    pub in_time : Meets (jobs_of k) (latest_of k) (plan_of k)
    pub deadlines : Meets (jobs_of k) (written m.0) (plan_of k)
    pub answer : n ≡ finish_of k
    pub each : (i : ℕ) → i < k.size → (core_of k i < cores) × (get_or new (cores * plan_of k i + core_of k i) 255 ≡ i)
    pub others : (u c : ℕ) → u < n → c < cores → (get_or new (cores * u + c) 0 ≡ 255) ⊎ ((i : ℕ) × (i < k.size) × (get_or new (cores * u + c) 0 ≡ i) × (plan_of k i ≡ u) × (core_of k i ≡ c))

  pub plan_shown : (old new : List ℕ) (n : ℕ) → Plans k old new 0 n → Shows n new
  plan_shown old new n x = record {
    valid = (book_plan k m).valid;
    in_time = (book_plan k m).meets;
    deadlines = deadlines_met k m;
    answer = ends;
    each = λ i l.
        let s = seat_core k i l (all_placed k m i l) in
        (s.0, at 255 (plan_of k i) (core_of k i) (omega (arith, (book_plan k m).within i l)) s.0 ∙ ap (byte (jobs_of k)) s.1 ∙ byte_job (jobs_of k) i l);
    others = λ u c hu hc.
        let here = at 0 u c (omega (arith, ends)) hc in
        ⊎_elim
        (λ h. inl (here ∙ byte_idle (jobs_of k) (seat_of k u c) h))
        (λ l.
        let x = seat_only k (seat_of k u c) l (all_placed k m (seat_of k u c) l) u c (omega (arith, ends, finish_fits k m)) hc refl in
        inr (seat_of k u c, l, here ∙ byte_job (jobs_of k) (seat_of k u c) l, sym x.0, sym x.1))
        (le_or_lt k.size (seat_of k u c));
  }
    where
      ends : n ≡ finish_of k
      ends = (plans_made k old new n x).0

      at : (z u c : ℕ) → u < finish_of k → c < cores → get_or new (cores * u + c) z ≡ byte (jobs_of k) (seat_of k u c)
      at z u c hu hc =
          ap (λ l. get_or l (cores * u + c) z) (plans_made k old new n x).1
          ∙ get_or-append (bytes_of k) (drop (cores * finish_of k) old) z (cores * u + c) (omega (arith, bytes_length (jobs_of k) (latest_of k) unplaced (finish_of k)))
          ∙ bytes_at (jobs_of k) (latest_of k) unplaced (finish_of k) u c z hu hc
