-- Tightening onward from the times held settles the enlarged list: what it finds is held, and where it finds nothing there is no plan.
-- Assumes nothing.
use mathlib.Core.Path.{◌≡◌}
use Prim.Native.Nat.{ℕ, min, ◌≤◌, ◌<◌}
use native.Mathlib.Nat.{le_trans, le_of_eq}
use native.Mathlib.Omega.{arith}
use lib.Dec.{T}
use Rattle.schedule.specs.Row.{put}
use Rattle.schedule.specs.Jobs.{Jobs}
use Rattle.schedule.specs.Plan.{HasPlan}
use Rattle.schedule.specs.Times.{Earliest, Latest}
use Rattle.schedule.specs.Listed.{Listed, Looped, Reads, written, with_job, with_order, with_deadline}
use Rattle.schedule.specs.Grow.{Added, Linked}
use Rattle.schedule.specs.Book.{Holds}
use Rattle.schedule.proofs.Early.{exists_earliest}
use Rattle.schedule.proofs.Greedy.{row_has_plan}
use Rattle.schedule.proofs.Chains.{reads_closed, reads_loopless, added_reads, linked_reads, order_loopless, job_written, deadline_written}
use Rattle.schedule.proofs.Theorem.{resume_new_job, resume_new_order, resume_earlier_deadline}
use Rattle.schedule.proofs.Book.{holds_job, holds_order, holds_deadline}

-- K are the jobs of the enlarged list L, and `due` the deadlines to tighten onward from
pub record Onward (m : ℕ) (L : Listed) (K : Jobs) (due : ℕ → ℕ) : Type 0 where
  pub reads : Reads L K
  pub loopless : Looped L → ⊥
  pub early : ℕ → ℕ
  pub earliest : Earliest K early
  pub holds : (row : ℕ → ℕ) → Latest m K early due row → Holds m L K row
  pub plans : HasPlan m K (written L) → HasPlan m K due

-- a plan that meets deadlines meets those that agree with them
plan_agrees : (m : ℕ) (K : Jobs) (due other : ℕ → ℕ) → ((i : ℕ) → i < K.size → due i ≡ other i) → HasPlan m K due → HasPlan m K other
plan_agrees m K due other e p = (p.0, p.1, record { ends = λ i l. le_trans (p.2.ends i l) (le_of_eq (e i l)) })

module _ (m : ℕ) (pos : 1 ≤ m) (two : m ≤ 2) (L : Listed) (J : Jobs) (times : ℕ → ℕ) (h : Holds m L J times) where
  -- what a book holds has a plan
  pub holds_planned : (K : Jobs) × Reads L K × HasPlan m K (written L)
  holds_planned =
      let p = row_has_plan m J h.early times pos two (reads_closed L J h.reads) h.earliest h.latest.consistent in
      (J, h.reads, (p.0, p.1, record { ends = λ i l. le_trans (p.2.ends i l) (h.latest.beneath i l) }))

  -- a new job
  pub onward_job : (K : Jobs) (start deadline : ℕ) → Added J K start → Onward m (with_job L start deadline) K (put times J.size deadline)
  onward_job K start deadline x =
      let grown : Listed = with_job L start deadline in
      let reads : Reads grown K = added_reads L J K h.formed h.reads start deadline x in
      let loopless : Looped grown → ⊥ = unfold with_job in h.loopless in
      let e = exists_earliest K (reads_closed grown K reads) (reads_loopless grown K reads loopless) in
      record {
        reads = reads;
        loopless = loopless;
        early = e.0;
        earliest = e.1;
        holds = λ row a. holds_job m pos two L J K times e.0 row h e.1 start deadline x a;
        plans = λ p. (resume_new_job m pos two J K h.early e.0 (written L) times (reads_closed grown K reads) h.earliest e.1 h.latest start deadline x).same_verdict.0
            (plan_agrees m K (written grown) (put (written L) J.size deadline) (job_written L J K h.formed h.reads start deadline x) p);
      }

  -- an order that closes no loop
  pub onward_order : (K : Jobs) (a b : ℕ) → a < J.size → b < J.size → (a ≡ b → ⊥) → (T (J.before b a) → ⊥) → Linked J K a b → Onward m (with_order L a b) K times
  onward_order K a b la lb apart free x =
      let grown : Listed = with_order L a b in
      let reads : Reads grown K = linked_reads L J K h.formed h.reads a b la lb x in
      let loopless : Looped grown → ⊥ = order_loopless L a b h.loopless apart (λ c. free ((h.reads.before b a lb la).1 c)) in
      let e = exists_earliest K (reads_closed grown K reads) (reads_loopless grown K reads loopless) in
      record {
        reads = reads;
        loopless = loopless;
        early = e.0;
        earliest = e.1;
        holds = λ row w. holds_order m pos two L J K times e.0 row h e.1 a b la lb apart free x w;
        plans = unfold with_order written in (resume_new_order m pos two J K h.early e.0 (written L) times (reads_closed grown K reads) h.earliest e.1 h.latest a b x).same_verdict.0;
      }

  -- a deadline no later than the latest time held
  pub onward_deadline : (k v : ℕ) → k < J.size → v ≤ times k → Onward m (with_deadline L k v) J (put times k v)
  onward_deadline k v lk le =
      let less : v ≤ written L k = omega (arith, h.latest.beneath k lk) in
      let low : min (written L k) v ≡ v = omega arith in
      record {
        reads = unfold with_deadline in (record { size = h.reads.size; start = h.reads.start; before = h.reads.before });
        loopless = unfold with_deadline in h.loopless;
        early = h.early;
        earliest = h.earliest;
        holds = λ row a. holds_deadline m L J times h k v lk pos two le row a;
        plans = λ p. (resume_earlier_deadline m pos two J h.early (written L) times (reads_closed L J h.reads) h.earliest h.latest k v less).same_verdict.0
            (plan_agrees m J (written (with_deadline L k v)) (put (written L) k v) (rw low at (deadline_written L J J h.formed h.reads k v)) p);
      }
