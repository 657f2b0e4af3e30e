-- The plan of a book: it is there, valid and in time, and ends by the horizon.
-- Assumes nothing.
use mathlib.Core.Path.{ap}
use Prim.Native.Nat.{ℕ, ◌+◌, ◌≤◌, ◌<◌}
use native.Mathlib.Nat.{le_refl, le_trans}
use native.Mathlib.Omega.{arith}
use Rattle.schedule.specs.Plan.{Meets, finish}
use Rattle.schedule.specs.Listed.{written}
use Rattle.schedule.proofs.Rows.{greatest_least}
use Rattle.schedule.proofs.Chains.{reads_closed}
use Rattle.schedule.proofs.Theorem as theorem
use Rattle.refusal.proofs.Table.{table_free}
use Rattle.book.specs.Told.{Book, jobs_of, latest_of, Told, Made, cores}
use Rattle.plan.specs.Plan.{horizon, unplaced, plan_of, finish_of}
use Rattle.plan.specs.Always.{AlwaysPlanned}

module _ (k : Book) (m : Made k) where
  t : Told k m.0
  t = m.1

  latest_fits : (i : ℕ) → i < k.size → latest_of k i ≤ horizon
  latest_fits i l = le_trans (t.holds.latest.beneath i l) (t.limited.deadline i (omega (arith, t.holds.reads.size)))

  pub book_plan : theorem.PlanMade cores (jobs_of k) (latest_of k) (latest_of k) unplaced horizon (plan_of k)
  book_plan = theorem.plan_made cores (jobs_of k) t.holds.early (latest_of k) (latest_of k) unplaced horizon (omega arith) (omega arith)
      (reads_closed m.0 (jobs_of k) t.holds.reads) t.holds.earliest
      (record { consistent = t.holds.latest.consistent; beneath = λ i l. le_refl (latest_of k i); greatest = λ other c b. b })
      (greatest_least k.size (latest_of k) horizon latest_fits) (le_refl horizon)

  pub all_placed : (i : ℕ) → i < k.size → plan_of k i < unplaced
  all_placed i l = (book_plan.placed i l).0

  pub finish_fits : finish_of k ≤ horizon
  unfolding finish
  finish_fits = greatest_least k.size (λ i. plan_of k i + 1) horizon (λ i l. omega (arith, all_placed i l))

  -- no job ends after its deadline as told (01, A valid plan)
  pub deadlines_met : Meets (jobs_of k) (written m.0) (plan_of k)
  deadlines_met = record { ends = λ i l. le_trans (book_plan.meets.ends i l) (t.holds.latest.beneath i l) }

-- (01, The plan made: "A book always has a plan")
pub always_planned : AlwaysPlanned
always_planned = record {
  valid = λ k m. (book_plan k m).valid;
  in_time = λ k m. (book_plan k m).meets;
  ends = finish_fits;
  granted = λ k m old new number value room x. ap (λ r. r.0) (table_free _ _ _ _ (λ short. omega (arith, finish_fits k m)) x);
}
