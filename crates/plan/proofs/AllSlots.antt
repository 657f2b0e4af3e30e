-- The layout from the first slot to the last: it ends, and is the plan.
-- Assumes nothing.
use mathlib.Core.Bool.{true, cond}
use mathlib.Core.List.{List}
use mathlib.Core.Logic.{◌⊎◌, ⊎_elim}
use mathlib.Core.Path.{◌≡◌, refl, sym, ap, subst, ◌∙◌}
use Prim.Native.Nat.{ℕ, ◌+◌, ◌≤◌, ◌<◌}
use native.Mathlib.Nat.{le_antisymm}
use native.Mathlib.Omega.{arith}
use borrow.Author.Tests.{lt-ltb}
use lib.Dec.{T, eqb, ltb, leb→le, le→leb, ltb→lt}
use lib.ListN.{replicate}
use Rattle.schedule.specs.Jobs.{Jobs}
use Rattle.schedule.specs.Plan.{finish}
use Rattle.schedule.specs.Make.{slots}
use Rattle.schedule.proofs.Tests.{lt_by}
use Rattle.schedule.proofs.Rows.{greatest_bound, greatest_least}
use Rattle.schedule.proofs.Seats.{slots_stay, slot_seat}
use Rattle.sets.specs.Sets.{has, Below}
use Rattle.sets.proofs.Bits.{empty_has, has_some, none_is}
use Rattle.sets.proofs.Range.{below_in}
use Rattle.book.specs.Told.{Book, jobs_of, latest_of, cores}
use Rattle.plan.specs.declared.layout.Stage.{Stage}
use Rattle.plan.specs.Plan.{horizon, unplaced, slots_by, seat_at, plan_of}
use Rattle.plan.specs.Inner.Layout.{Laid, Late, Lays}

module _ (m : ℕ) (J : Jobs) (row : ℕ → ℕ) where
  -- before slot 0
  pub laid_none : (left : ℕ) → J.size ≤ 64 → Below J.size left → Laid m J row (replicate 64 0) (record { left = left; on_core_1 = 0; next = record { 0 = 0 } })
  unfolding slots
  laid_none left few below =
      let whole : (j : ℕ) → has left j ≡ ltb j J.size = below_in J.size left few below in
      record {
        kept = record {
          row = refl;
          at = λ i l placed. absurd (omega (arith, placed));
          free = λ i l. whole i ∙ lt-ltb i J.size l;
          held = λ i x. ltb→lt i J.size (subst T (whole i) x);
        };
        on_1 = λ i l. empty_has i;
      }

  module _ (slot : List ℕ) (g : Stage) (a : Laid m J row slot g) (within : g.next.0 ≤ horizon) where
    abbrev so_far : ℕ → ℕ
    so_far = slots_by m J row g.next.0

    -- while a job is left, so is a slot
    pub slot_left : ((i : ℕ) → i < J.size → slots_by m J row horizon i < unplaced) → (g.left ≡ 0 → ⊥) → g.next.0 < horizon
    slot_left placed some = lt_by g.next.0 horizon (λ le.
        let e : g.next.0 ≡ horizon = omega arith in
        some (none_is g.left (λ j x.
        let held : j < J.size = a.kept.held j x in
        omega (arith, placed j held, subst (λ u. unplaced ≤ slots_by m J row u j) e (leb→le unplaced (so_far j) (subst T (a.kept.free j held) x))))))

    module _ (none : g.left ≡ 0) where
      -- when none is left, all are placed
      all_placed : (i : ℕ) → i < J.size → so_far i < unplaced
      all_placed i l = lt_by (so_far i) unplaced (λ le. has_some g.left i (subst T (sym (a.kept.free i l)) (le→leb unplaced (so_far i) le)) none)

      -- and stay
      stay : (i : ℕ) → i < J.size → slots_by m J row horizon i ≡ so_far i
      stay i l = slots_stay m J row unplaced i g.next.0 horizon l within (all_placed i l)

      -- the next slot is the finishing time, where the last was not in vain
      ended : (g.next.0 ≡ 0) ⊎ Late m J row g.next.0 → g.next.0 ≡ finish J (slots_by m J row horizon)
      unfolding finish
      ended last = le_antisymm
          (⊎_elim (λ z. omega arith) (λ x. omega (arith, x.2, stay x.0 x.1, greatest_bound J.size ends x.0 x.1)) last)
          (greatest_least J.size ends g.next.0 (λ i l. ⊎_elim
          (λ z. absurd (omega (arith, z, all_placed i l)))
          (λ y. omega (arith, stay i l, y.2))
          (slot_seat m J row unplaced i g.next.0)))
        where
          ends : ℕ → ℕ
          ends i = slots_by m J row horizon i + 1

-- when none is left, it is the layout of the book
pub lays : (k : Book) (slot : List ℕ) (g : Stage) → Laid cores (jobs_of k) (latest_of k) slot g → g.next.0 ≤ horizon → g.left ≡ 0 →
    (g.next.0 ≡ 0) ⊎ Late cores (jobs_of k) (latest_of k) g.next.0 → Lays k (record { slot = slot; on_core_1 = g.on_core_1; finish = g.next.0 })
lays k slot g a within none last = record {
  at = λ i l. a.kept.at i l (all_placed cores (jobs_of k) (latest_of k) slot g a within none i l) ∙ sym (same i l);
  core = λ i l.
      let placed : ltb (so_far i) unplaced ≡ true = lt-ltb (so_far i) unplaced (all_placed cores (jobs_of k) (latest_of k) slot g a within none i l) in
      let here : has g.on_core_1 i ≡ eqb (seat_at cores (jobs_of k) (latest_of k) (so_far i) 1) i = a.on_1 i l ∙ simp placed in
      ap (λ b. cond b 1 0) (here ∙ ap (λ u. eqb (seat_at cores (jobs_of k) (latest_of k) u 1) i) (sym (same i l)));
  ends = ended cores (jobs_of k) (latest_of k) slot g a within none last;
}
  where
    so_far : ℕ → ℕ
    so_far = slots_by cores (jobs_of k) (latest_of k) g.next.0

    same : (i : ℕ) → i < k.size → plan_of k i ≡ so_far i
    same = stay cores (jobs_of k) (latest_of k) slot g a within none
