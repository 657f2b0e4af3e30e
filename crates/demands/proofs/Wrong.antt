-- The planners that document 01 names meet no contract: the empty book, and a job of one slot, tell.
-- Assumes nothing.
use mathlib.Core.List.{List, [], ◌∷◌, ◌++◌}
use mathlib.Core.Logic.{inl, inr, ⊎_elim}
use mathlib.Core.Path.{◌≡◌, refl, sym, ap, subst, ◌∙◌}
use Prim.Native.Nat.{ℕ, zero, suc, ◌≤◌, ◌<◌}
use native.Mathlib.Nat.{not-suc-le-zero, le_of_suc-le-suc}
use native.Mathlib.Omega.{arith}
use lib.Dec.{eqb}
use lib.ListN.{length, get_or, replicate, length-replicate}
use Rattle.schedule.specs.Plan.{Valid}
use Rattle.schedule.specs.Listed.{Listed, Reads, ordered, written, with_job}
use Rattle.schedule.proofs.Counting.{count_bound}
use Rattle.schedule.proofs.Chains.{jobs, jobs_reads}
use Rattle.refusal.proofs.Table.{table_caught}
use Rattle.book.specs.Told.{Book, book_in, Told}
use Rattle.book.proofs.Empty.{told_nothing}
use Rattle.planner.specs.declared.requests.Request.{Request}
use Rattle.planner.specs.declared.requests.Request.TheVariants.{Job}
use Rattle.planner.specs.Requests.{Plannable, accepts_with, grow, request_checks, Applied, answered, Turned, Grown, Applies}
use Rattle.planner.specs.List.{pairs_of, Judged, Judges}
use Rattle.planner.proofs.Pairs.{no_chain}
use Rattle.planner.proofs.Growing.{size_is}
use Rattle.demands.specs.Wrong.{Applying, ShutOut}
use Rattle.demands.proofs.Second.{demand_2}
use Rattle.demands.proofs.Third.{plan_accepted, list_accepted}

long : (n v : ℕ) → length (replicate n v) ≡ n
long n v = length-replicate n v

snoc : (n v : ℕ) → replicate n v ++ (v ∷ []) ≡ replicate (suc n) v
snoc zero v = refl
snoc (suc n) v = ap (λ (l : List ℕ). v ∷ l) (snoc n v)

-- n jobs 0-1 and no order
abbrev ones : ℕ → Listed
ones n = record { starts = replicate n 0; deadlines = replicate n 1; orders = [] }

every : (n v i : ℕ) → i < n → get_or (replicate n v) i 0 ≡ v
every zero v i l = absurd (not-suc-le-zero l)
every (suc n) v zero l = refl
every (suc n) v (suc i) l = every n v i (le_of_suc-le-suc l)

-- up to two of them fit into slot 0
ones_plannable : (n : ℕ) → n ≤ 2 → Plannable (ones n)
unfolding written ordered
ones_plannable n few = (jobs (ones n), reads, ((λ i. 0), valid, record { ends = λ i l. omega (arith, every n 1 i (inside i l)) }))
  where
    reads : Reads (ones n) (jobs (ones n))
    reads = jobs_reads (ones n) (record { even = long n 1 ∙ sym (long n 0); held = λ a b t. absurd t })

    inside : (i : ℕ) → i < (jobs (ones n)).size → i < n
    inside i l = omega (arith, reads.size, long n 0)

    valid : Valid 2 (jobs (ones n)) (λ i. 0)
    valid = record {
      room = λ t. omega (arith, count_bound (jobs (ones n)).size (λ i. eqb 0 t), reads.size, long n 0);
      begun = λ i l. omega (arith, reads.start i l, every n 0 i (inside i l));
      ordered = λ a b la lb t. absurd (no_chain ((reads.before a b la lb).0 t));
    }

abbrev empty : Book
empty = book_in (replicate 129 0) (replicate 64 0)

-- one job more
one_more : (n : ℕ) → with_job (ones n) 0 1 ≡ ones (suc n)
unfolding with_job
one_more n = λ i. record { starts = snoc n 0 i; deadlines = snoc n 1 i; orders = [] }

longer : (n : ℕ) → length (with_job (ones n) 0 1).starts ≡ suc n
longer n = ap (λ (L : Listed). length L.starts) (one_more n) ∙ long (suc n) 0

-- a job 0-1 on a book that holds n of them is accepted
accepted_one : (n : ℕ) (k : Book) (r : Applied) → n ≤ 1 → Told k (ones n) → Applies k (Job 0 1) r → Grown (with_job (ones n) 0 1) (accepts_with (ones n) (Job 0 1)) r
accepted_one n k r few t x =
    plan_accepted (ones n) k (Job 0 1) r ((λ f. omega (arith, long n 0)), ((λ f. ⊎_elim (λ g. omega arith) (λ g. omega arith) f), λ f. omega arith)) (x.outcome (ones n) t)
    (subst Plannable (sym (one_more n)) (ones_plannable (suc n) (omega arith)))

-- on the empty book a job 0-1 is accepted, and a job 0-0 refused by 3
module _ (call : Book → Request → Applied) (app : Applying call) where
  first : Grown (with_job (ones 0) 0 1) 0 (call empty (Job 0 1))
  first = accepted_one 0 empty (call empty (Job 0 1)) (omega arith) told_nothing (app empty (Job 0 1) (ones 0, told_nothing))

  closed : call empty (Job 0 0) ≡ answered empty 3 0
  closed = table_caught (request_checks (ones 0) (Job 0 0)) (Turned empty) (Grown (grow (ones 0) (Job 0 0)) 0) (call empty (Job 0 0)) 3 0
      (inl (inr ((λ f. omega arith), inr ((λ f. ⊎_elim (λ g. omega arith) (λ g. omega arith) f), (omega arith, refl, refl))))) ((app empty (Job 0 0) (ones 0, told_nothing)).outcome (ones 0) told_nothing)

-- the empty list is accepted
no_job : (r : Judged) → Judges [] [] [] [] r → r.number ≡ 0
unfolding pairs_of
no_job r j = (list_accepted [] [] [] [] r j
    ((λ f. ⊎_elim (λ u. ⊎_elim (λ g. g refl) (λ e. omega arith) u) (λ e. omega arith) f), ((λ f. omega arith), ((λ i l. absurd (omega arith)), ((λ i l. absurd (omega arith)), λ i l. absurd (omega arith)))))
    (ones_plannable 0 (omega arith))).0

pub shut_out : ShutOut
shut_out = record {
  refuses_everything = λ call app all. omega (arith, all empty (Job 0 1) (ones 0, told_nothing), ap (λ (z : Applied). z.number) (first call app).accepts);
  refuses_every_list = λ call app all. omega (arith, all [] [] [] [], no_job (call [] [] [] []) (app [] [] [] []));
  answers_alike = λ call n v app alike.
      omega (
        arith,
        (alike empty (Job 0 1) (ones 0, told_nothing)).0,
        (alike empty (Job 0 0) (ones 0, told_nothing)).0,
        ap (λ (z : Applied). z.number) (first call app).accepts,
        ap (λ (z : Applied). z.number) (closed call app),
      );
  changes_nothing = λ call app same.
      omega (arith, ap (λ (k : Book). k.size) (same empty (Job 0 1) (ones 0, told_nothing)), size_is _ _ (first call app).told, longer 0);
  first_request_only = λ call app same.
      let k = (call empty (Job 0 1)).book in
      let t = subst (Told k) (one_more 0) (first call app).told in
      let next = accepted_one 1 k (call k (Job 0 1)) (omega arith) t (app k (Job 0 1) (ones 1, t)) in
      omega (arith, ap (λ (k : Book). k.size) (same k (Job 0 1) (ones 1, t) (omega (arith, size_is _ k t))), size_is _ k t, size_is _ _ next.told, longer 1);
  other_finish = λ L k old new told t p other. let shown = demand_2.plan L k old new told t p in other shown shown.finishes;
}
