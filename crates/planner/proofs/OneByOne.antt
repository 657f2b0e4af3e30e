-- The whole list at once is the requests one by one: its jobs, then its pairs. Each beginning of a list that has a plan has one, so none of them is refused.
-- Assumes nothing.
use mathlib.Core.List.{List, []}
use mathlib.Core.Logic.{inl, inr}
use mathlib.Core.Path.{◌≡◌, refl, sym, subst, ◌∙◌}
use Prim.Native.Nat.{ℕ, zero, suc, ◌/◌, ◌≤◌, ◌<◌}
use native.Mathlib.Nat.{le_of_eq}
use native.Mathlib.Omega.{arith}
use lib.Dec.{T}
use lib.ListN.{length, get_or, take, replicate}
use lib.Seq.{take-suc, take_all, length-take-le, get_or-take}
use Rattle.schedule.specs.Listed.{Listed, ordered, Chain, Formed, Reads, written, with_job, with_order}
use Rattle.schedule.specs.Jobs.{Jobs}
use Rattle.schedule.specs.Plan.{HasPlan}
use Rattle.schedule.specs.Grow.{Extends}
use Rattle.schedule.proofs.Tests.{le_by, lt_by}
use Rattle.schedule.proofs.Chains.{jobs, jobs_reads}
use Rattle.schedule.proofs.Grow.{plan_back}
use Rattle.book.specs.Told.{Book, book_in}
use Rattle.book.proofs.Empty.{told_nothing}
use Rattle.planner.specs.declared.requests.Request.{Request}
use Rattle.planner.specs.Requests.{Plannable, grow, Run, opened, asked}
use Rattle.planner.specs.List.{first_of, second_of, pairs_of, list_of}
use Rattle.planner.proofs.Outcome.{run_told}
use Rattle.planner.proofs.Growing.{size_is}
use Rattle.planner.proofs.Pairs.{no_chain, pairs_more, pairs_held, held_both}
use Rattle.planner.proofs.ListSound.{Sound}
use Rattle.planner.proofs.Accepts.{Accepts, job_accepted, order_accepted}

-- a list whose jobs and chains are among jobs that have a plan has one
pub among_planned : (M : Listed) (K : Jobs) (due : ℕ → ℕ) → Formed M → length M.starts ≤ K.size → ((i : ℕ) → i < length M.starts → get_or M.starts i 0 ≡ K.start i) →
    ((i : ℕ) → i < length M.starts → written M i ≡ due i) → ((a b : ℕ) → a < K.size → b < K.size → Chain M.orders a b → T (K.before a b)) → HasPlan 2 K due → Plannable M
among_planned M K due f longer starts dues chains p =
    (jobs M, reads, (p.0, plan_back (jobs M) K extends 2 p.0 p.1, record { ends = λ i l. omega (arith, p.2.ends i (inside i l), dues i (omega (arith, reads.size))) }))
  where
    reads : Reads M (jobs M)
    reads = jobs_reads M f

    inside : (i : ℕ) → i < (jobs M).size → i < K.size
    inside i l = omega (arith, reads.size)

    extends : Extends (jobs M) K
    extends = record {
      longer = omega (arith, reads.size);
      starts = λ i l. le_of_eq (reads.start i l ∙ starts i (omega (arith, reads.size)));
      chains = λ a b la lb t. chains a b (inside a la) (inside b lb) ((reads.before a b la lb).0 t);
    }

-- and so has a list whose jobs and chains are another's that has a plan
planned_back : (M L : Listed) → Formed M → length M.starts ≤ length L.starts → ((i : ℕ) → i < length M.starts → get_or M.starts i 0 ≡ get_or L.starts i 0) →
    ((i : ℕ) → i < length M.starts → written M i ≡ written L i) → ((a b : ℕ) → Chain M.orders a b → Chain L.orders a b) → Plannable L → Plannable M
planned_back M L f longer starts dues chains p =
    among_planned M p.0 (written L) f (omega (arith, p.1.size)) (λ i l. starts i l ∙ sym (p.1.start i (omega (arith, p.1.size)))) dues
    (λ a b la lb c. (p.1.before a b la lb).1 (chains a b c)) p.2

-- a run goes on by a request that is accepted
run_on : (L : Listed) (k : Book) (q : Request) → Run L k → (a : Accepts k q) → Run (grow L q) a.next
run_on L k q run a = asked L k q _ run a.applies

module _ (starts deadlines pairs : List ℕ) (s : Sound starts deadlines pairs) (p : Plannable (list_of starts deadlines pairs)) where
  -- the first n jobs; all jobs, and the first n pairs
  abbrev begun : ℕ → Listed
  begun n = record { starts = take n starts; deadlines = take n deadlines; orders = [] }

  abbrev paired : ℕ → Listed
  paired n = record { starts = starts; deadlines = deadlines; orders = pairs_of pairs n }

  begun_planned : (n : ℕ) → n ≤ length starts → Plannable (begun n)
  unfolding written ordered
  begun_planned n l = planned_back (begun n) (list_of starts deadlines pairs)
      (record { even = length-take-le n deadlines (omega (arith, s.even)) ∙ sym (length-take-le n starts l); held = λ a b t. absurd t })
      (omega (arith, length-take-le n starts l))
      (λ i h. get_or-take n starts i 0 (omega (arith, length-take-le n starts l)))
      (λ i h. get_or-take n deadlines i 0 (omega (arith, length-take-le n starts l)))
      (λ a b c. absurd (no_chain c)) p

  paired_planned : (n : ℕ) → n ≤ length pairs / 2 → Plannable (paired n)
  unfolding written
  paired_planned n l = planned_back (paired n) (list_of starts deadlines pairs)
      (record { even = sym s.even; held = pairs_held (length starts) pairs s.held n l })
      (omega arith) (λ i h. refl) (λ i h. refl) (pairs_more pairs n (length pairs / 2) l) p

  begun_more : (n : ℕ) → n < length starts → with_job (begun n) (get_or starts n 0) (get_or deadlines n 0) ≡ begun (suc n)
  unfolding with_job
  begun_more n l = λ i. record { starts = sym (take-suc starts n 0 l) i; deadlines = sym (take-suc deadlines n 0 (omega (arith, s.even))) i; orders = [] }

  run_jobs : (n : ℕ) → n ≤ length starts → (k : Book) × Run (begun n) k
  run_jobs zero l = (book_in (replicate 129 0) (replicate 64 0), opened _ told_nothing)
  run_jobs (suc n) l =
      let k = run_jobs n (omega arith) in
      let t = run_told (begun n) k.0 k.1 in
      let size : k.0.size ≡ n = size_is (begun n) k.0 t ∙ length-take-le n starts (omega arith) in
      let sound = s.jobs n (omega arith) in
      let a = job_accepted (begun n) k.0 t (get_or starts n 0) (get_or deadlines n 0) (omega (arith, s.few)) (le_by _ 4095 (λ g. sound.0 (inl g))) (le_by _ 4096 (λ g. sound.0 (inr g)))
      (lt_by _ _ sound.1) (subst Plannable (sym (begun_more n l)) (begun_planned (suc n) l)) in
      (a.next, subst (λ L. Run L a.next) (begun_more n l) (run_on (begun n) k.0 _ k.1 a))

  run_pairs : (n : ℕ) → n ≤ length pairs / 2 → (k : Book) × Run (paired n) k
  unfolding with_order pairs_of
  run_pairs zero l =
      let k = run_jobs (length starts) (omega arith) in
      (k.0, subst (λ L. Run L k.0) (λ i. record { starts = take_all (length starts) starts (omega arith) i; deadlines = take_all (length starts) deadlines (omega (arith, s.even)) i; orders = [] }) k.1)
  run_pairs (suc n) l =
      let k = run_pairs n (omega arith) in
      let t = run_told (paired n) k.0 k.1 in
      let h = held_both (length starts) pairs s.held n (first_of pairs n) (second_of pairs n) l refl refl in
      let a = order_accepted (paired n) k.0 t (first_of pairs n) (second_of pairs n) n (omega (arith, h.0, size_is (paired n) k.0 t)) (omega (arith, h.1, size_is (paired n) k.0 t))
      (s.free n l) (paired_planned (suc n) l) in
      (a.next, run_on (paired n) k.0 _ k.1 a)

  -- a run of requests that holds the whole list
  pub run_exists : (k : Book) × Run (list_of starts deadlines pairs) k
  run_exists = run_pairs (length pairs / 2) (omega arith)
