-- A request that passes its checks, and leaves a list that has a plan, has an outcome, and is accepted.
-- Assumes nothing.
use mathlib.Core.Bool.{cond}
use mathlib.Core.List.{List, map}
use mathlib.Core.Logic.{◌⊎◌, inl, inr, ⊎_elim}
use mathlib.Core.Path.{◌≡◌, refl, ◌∙◌}
use Prim.Native.Nat.{ℕ, ◌+◌, ◌≤◌, ◌<◌}
use native.Mathlib.Omega.{arith}
use borrow.Author.Tests.{lt-ltb, le-ltb}
use lib.Bits.{bit_or}
use lib.Dec.{T, ltb}
use Rattle.std.specs.List.{range_with_len}
use Rattle.std.proofs.lemmas.List.FromFn.{length-map-range_with_len, get_or-map-range_with_len}
use lib.ListN.{length, get_or, set, get_or-eq_default}
use Rattle.schedule.specs.Jobs.{Jobs}
use Rattle.schedule.specs.Times.{Latest}
use Rattle.schedule.specs.Listed.{Listed, Chain, written, with_job, with_order}
use Rattle.schedule.proofs.Tests.{test, le_or_lt}
use Rattle.schedule.proofs.Exist.{plan_has_latest}
use Rattle.schedule.proofs.Early.{earliest_one}
use Rattle.schedule.proofs.Renumber.{latest_along}
use Rattle.planner.specs.declared.requests.Request.{Request}
use Rattle.planner.specs.declared.requests.Request.TheVariants.{Job, Before}
use Rattle.sets.specs.Sets.{has}
use Rattle.book.specs.Told.{Book, jobs_of, latest_of, row_in, Told}
use Rattle.planner.specs.Requests.{Plannable, loop_checks, Sound, Applied, answered, Applies}
use Rattle.planner.specs.declared.chains.Pending.{Pending}
use Rattle.planner.specs.Inner.Chains.{Links, joined_rows}
use Rattle.sets.proofs.Bits.{only}
use Rattle.sets.proofs.Range.{with_is}
use Rattle.schedule.proofs.Readings.{reads_one, plan_one}
use Rattle.refusal.specs.Table.{Clear}
use Rattle.refusal.proofs.Table.{then_table}
use Rattle.planner.proofs.Orders.{loop_left}
use Rattle.planner.proofs.Outcome.{applies_by}
use Rattle.planner.proofs.Growing.{Grows, size_is, job_grows, order_held, order_free, order_grows, followed_told, told_last, Tight, tight_last}
use Rattle.book.proofs.Parts.{with_latest}
use Rattle.planner.proofs.Pending.{rows_long, joined_links}

-- ---- the latest times of a grown book, in a row of 64
tight_exists : (L : Listed) (grown : Book) → Grows L grown → Plannable L → (row : List ℕ) × Tight grown row
tight_exists L grown g p = (
  row 64,
  record {
    size = length-map-range_with_len entry 0 64;
    rest = λ i l. ⊎_elim (λ le. get_or-eq_default (row 64) 0 {n = i} (omega (arith, length-map-range_with_len entry 0 64))) (λ lt. at 64 i lt ∙ simp (le-ltb i grown.size l)) (le_or_lt 64 i);
    latest = λ early e. latest_along 2 J J (λ i. i) (λ i. i) (reads_one L J J g.onward.reads g.onward.reads) g.onward.early early (latest_of grown) (latest_of grown) x.0 (row_in (row 64))
        (λ i l. earliest_one J early g.onward.early e g.onward.earliest i l) (λ i l. refl)
        (λ i l. at 64 i (omega (arith, g.shaped.few)) ∙ simp (lt-ltb i grown.size l)) x.1;
  },
)
  where
    J : Jobs
    J = jobs_of grown

    x : (row : ℕ → ℕ) × Latest 2 (jobs_of grown) g.onward.early (latest_of grown) row
    x =
        let plan = g.onward.plans (plan_one 2 L p.0 (jobs_of grown) (written L) p.1 g.onward.reads p.2) in
        let y = plan_has_latest 2 (jobs_of grown) g.onward.early (latest_of grown) g.onward.earliest (omega arith) plan.0 plan.1 plan.2 in
        (y.0, y.1)

    entry : ℕ → ℕ
    entry i = cond (ltb i grown.size) (x.0 i) 0

    row : ℕ → List ℕ
    row n = map entry (range_with_len 0 n)

    at : (n i : ℕ) → i < n → get_or (row n) i 0 ≡ entry i
    at n i l = get_or-map-range_with_len entry 0 n i i 0 l (omega arith)

-- ---- rows joined by an order
links_exist : (old : List ℕ) (a b : ℕ) → length old ≡ 64 → a < 64 → b < 64 → (new : List ℕ) × (length new ≡ 64) × Links a b old new
links_exist old a b l la lb =
    let p : Pending = record { job = record { 0 = b }; more = bit_or (get_or old a 0) (only a) } in
    (joined_rows old p, rows_long old p, joined_links old a p l lb la (with_is (get_or old a 0) a la))

-- ---- the outcome
pub record Accepts (k : Book) (q : Request) : Type 0 where
  pub next : Book
  pub value : ℕ
  pub applies : Applies k q (answered next 0 value)

module _ (L : Listed) (k : Book) (t : Told k L) where
  -- a new job
  pub job_accepted : (s d : ℕ) → k.size < 64 → s ≤ 4095 → d ≤ 4096 → s < d → Plannable (with_job L s d) → Accepts k (Job s d)
  job_accepted s d room low high less plan =
      record {
        next = with_latest grown x.0;
        value = k.size;
        applies = applies_by k (Job s d) r (L, t) (λ M u.
            then_table ((λ f. omega (arith, size_is M k u)), ((λ f. ⊎_elim (λ g. omega arith) (λ g. omega arith) f), λ f. omega arith))
            (tight_last (with_job M s d) k grown k.size _ x.0 (size_is M k u) (job_grows M k u s d room low high) x.1));
      }
    where
      grown : Book
      grown = record { size = k.size + 1; start = set k.start k.size s; latest = set k.latest k.size d; before = k.before }

      x : (row : List ℕ) × Tight grown row
      x = tight_exists (with_job L s d) grown (job_grows L k t s d room low high) plan

      r : Applied
      r = answered (with_latest grown x.0) 0 k.size

  -- an order of two jobs
  pub order_accepted : (a b place : ℕ) → a < k.size → b < k.size → Clear (loop_checks place L.orders a b) → Plannable (with_order L a b) → Accepts k (Before (record { 0 = a }) (record { 0 = b }))
  order_accepted a b place la lb clear plan = go (test (has (get_or k.before b 0) a))
    where
      none : (a ≡ b → ⊥) × (Chain L.orders b a → ⊥)
      none = loop_left place L.orders a b clear

      free : T (has (get_or k.before a 0) b) → ⊥
      free x = none.1 ((t.holds.reads.before b a lb la).0 x)

      sound : (M : Listed) → Told k M → Sound M (Before (record { 0 = a }) (record { 0 = b }))
      sound M u = (order_held M k u a b la lb, order_free M k u a b la lb none.0 free)

      rows : (new : List ℕ) × (length new ≡ 64) × Links a b k.before new
      rows = links_exist k.before a b t.shaped.befores (omega (arith, t.shaped.few)) (omega (arith, t.shaped.few))

      grown : Book
      grown = record { size = k.size; start = k.start; latest = k.latest; before = rows.0 }

      grows : (M : Listed) → Told k M → Grows (with_order M a b) grown
      grows M u = order_grows M k u a b la lb rows.0 rows.1 rows.2 none.0 free

      x : (row : List ℕ) × Tight grown row
      x = tight_exists (with_order L a b) grown (grows L t) plan

      go : T (has (get_or k.before b 0) a) ⊎ (T (has (get_or k.before b 0) a) → ⊥) → Accepts k (Before (record { 0 = a }) (record { 0 = b }))
      go (inl old) = record {
        next = k;
        value = 0;
        applies = applies_by k _ _ (L, t) (λ M u.
            then_table (sound M u) (told_last (with_order M a b) 0 0 k k refl (followed_told M k u a b la lb old)));
      }
      go (inr new) = record {
        next = with_latest grown x.0;
        value = 0;
        applies = applies_by k _ _ (L, t) (λ M u.
            then_table (sound M u) (tight_last (with_order M a b) k grown 0 0 x.0 refl (grows M u) x.1));
      }
