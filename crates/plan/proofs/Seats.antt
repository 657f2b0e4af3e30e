-- Each job of a book's plan has one seat, and each seat one job at most.
-- Assumes nothing.
use mathlib.Core.Path.{◌≡◌, sym, subst, ◌∙◌}
use Prim.Native.Nat.{ℕ, zero, suc, ◌<◌}
use native.Mathlib.Nat.{le_antisymm}
use native.Mathlib.Omega.{arith}
use lib.Dec.{T, eqb, eqb→eq}
use Rattle.schedule.proofs.Tests.{cond_case, eq→eqb, le_by}
use Rattle.schedule.proofs.Seats.{seat_slot, seat_once, placed_seat}
use Rattle.book.specs.Told.{Book, jobs_of, latest_of, cores}
use Rattle.plan.specs.Plan.{horizon, unplaced, seat_at, plan_of}
use Rattle.plan.specs.Place.{core_of}

module _ (k : Book) where
  -- the job of a core in a slot
  abbrev pub seat_of : ℕ → ℕ → ℕ
  seat_of = seat_at cores (jobs_of k) (latest_of k)

  module _ (i : ℕ) (held : i < k.size) (placed : plan_of k i < unplaced) where
    pub seat_core : (core_of k i < cores) × (seat_of (plan_of k i) (core_of k i) ≡ i)
    seat_core = cond_case (λ c. (c < cores) × (seat_of (plan_of k i) c ≡ i)) (eqb (seat_of (plan_of k i) 1) i) 1 0
        (λ x. (omega arith, eqb→eq (seat_of (plan_of k i) 1) i x))
        (λ f. (omega arith, go (placed_seat cores (jobs_of k) (latest_of k) unplaced i horizon held placed) f))
      where
        go : (c : ℕ) × (c < cores) × (seat_of (plan_of k i) c ≡ i) → (T (eqb (seat_of (plan_of k i) 1) i) → ⊥) → seat_of (plan_of k i) 0 ≡ i
        go (zero, l, e) f = e
        go (suc zero, l, e) f = absurd (f (eq→eqb (seat_of (plan_of k i) 1) i e))
        go (suc (suc c), l, e) f = absurd (omega arith)

    -- and no other
    pub seat_only : (t c : ℕ) → t < horizon → c < cores → seat_of t c ≡ i → (t ≡ plan_of k i) × (c ≡ core_of k i)
    seat_only t c early below e = (same, le_antisymm (le_by c (core_of k i) (λ l. twice l)) (le_by (core_of k i) c (λ l. twice' l)))
      where
        same : t ≡ plan_of k i
        same = sym (subst (λ x. plan_of k x ≡ t) e (seat_slot cores (jobs_of k) (latest_of k) unplaced t c horizon below early early (omega (arith, e))))

        here : seat_of t (core_of k i) ≡ i
        here = subst (λ u. seat_of u (core_of k i) ≡ i) (sym same) seat_core.1

        twice : core_of k i < c → ⊥
        twice l = seat_once cores (jobs_of k) (latest_of k) unplaced t (core_of k i) c l early (omega (arith, here)) (here ∙ sym e)

        twice' : c < core_of k i → ⊥
        twice' l = seat_once cores (jobs_of k) (latest_of k) unplaced t c (core_of k i) l early (omega (arith, e)) (e ∙ sym here)
