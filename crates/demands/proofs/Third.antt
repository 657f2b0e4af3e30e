-- Demand 3: a run leaves the book that the definition gives for the remaining list handed in at once, and 4 is told exactly where that list has no plan.
-- Beside it, the rule that a request that says nothing new changes nothing.
-- Assumes nothing.
use mathlib.Core.List.{List, [], ◌∷◌, ◌++◌}
use mathlib.Core.Logic.{inr}
use mathlib.Core.Path.{◌≡◌, refl, sym, ap, ap₂, ◌∙◌}
use Prim.Native.Nat.{ℕ, zero, suc, ◌+◌, ◌*◌, ◌/◌, ◌≤◌, ◌<◌}
use native.Mathlib.Omega.{arith}
use lib.ListN.{length, get_or, take, drop}
use lib.Seq.{take-suc, take-length}
use Rattle.schedule.specs.Jobs.{Jobs}
use Rattle.schedule.specs.Plan.{finish}
use Rattle.schedule.specs.Times.{Beneath}
use Rattle.schedule.specs.Make.{slots, bytes}
use Rattle.schedule.specs.Listed.{Listed}
use Rattle.schedule.specs.Book.{Holds}
use Rattle.schedule.proofs.Readings.{finish_one, bytes_one}
use Rattle.refusal.specs.Table.{refused, passed}
use Rattle.refusal.proofs.Table.{table_caught, table_free}
use Rattle.book.specs.Told.{Book, jobs_of, latest_of, Told}
use Rattle.planner.specs.declared.requests.Request.{Request}
use Rattle.planner.specs.Requests.{Plannable, Sound, request_checks, accepts_with, Applied, answered, Turned, Grown, Outcome, grow, Run}
use Rattle.planner.specs.List.{first_of, second_of, pairs_of, list_of, Misshapen, SoundRows, list_checks, Judged, TurnedDown, Fitted, Judges}
use Rattle.planner.proofs.Outcome.{run_told, run_one}
use Rattle.planner.proofs.ListOutcome.{list_is_requests}
use Rattle.planner.proofs.Unchanged.{order_unchanged, deadline_unchanged}
use Rattle.plan.specs.Plan.{horizon, unplaced, finish_of, bytes_of, Plans}
use Rattle.demands.specs.Demands.{Demand3, Unchanged}
use Rattle.demands.proofs.Second.{refused_none}

-- ---- handed in at once
at_once : (starts deadlines pairs old : List ℕ) (k : Book) (r : Judged) → Run (list_of starts deadlines pairs) k → (Misshapen starts deadlines pairs old → ⊥) →
    Judges starts deadlines pairs old r → (r.number ≡ 0) × ((i : ℕ) → i < k.size → get_or r.row i 0 ≡ latest_of k i)
at_once starts deadlines pairs old k r run form j =
    let x = list_is_requests starts deadlines pairs old r j in
    let t = run_told (list_of starts deadlines pairs) k run in
    let a = x.accepted form k t in
    (a, λ i l. x.times a k t i (omega (arith, t.holds.reads.size)))

-- orders laid flat
abbrev flat : List (ℕ × ℕ) → List ℕ
flat [] = []
flat (p ∷ rest) = p.0 ∷ p.1 ∷ flat rest

flat_length : (orders : List (ℕ × ℕ)) → length (flat orders) ≡ 2 * length orders
flat_length [] = refl
flat_length (p ∷ rest) = omega (arith, flat_length rest)

flat_at : (orders : List (ℕ × ℕ)) (n : ℕ) → n < length orders → (first_of (flat orders) n, second_of (flat orders) n) ≡ get_or orders n (0, 0)
flat_at [] n l = absurd (omega arith)
flat_at (p ∷ rest) zero l = refl
flat_at (p ∷ rest) (suc n) l =
    ap₂ (λ (a b : ℕ). (get_or (flat (p ∷ rest)) a 0, get_or (flat (p ∷ rest)) b 0)) (let e : 2 * suc n ≡ suc (suc (2 * n)) = omega arith in e)
    (let e : 2 * suc n + 1 ≡ suc (suc (2 * n + 1)) = omega arith in e) ∙ flat_at rest n (omega arith)

flat_pairs : (orders : List (ℕ × ℕ)) (n : ℕ) → n ≤ length orders → pairs_of (flat orders) n ≡ take n orders
unfolding pairs_of
flat_pairs orders zero l = refl
flat_pairs orders (suc n) l =
    ap₂ (λ (a : List (ℕ × ℕ)) (p : ℕ × ℕ). a ++ (p ∷ [])) (flat_pairs orders n (omega arith)) (flat_at orders n l) ∙ sym (take-suc orders n (0, 0) l)

in_rows : (L : Listed) → list_of L.starts L.deadlines (flat L.orders) ≡ L
in_rows L =
    let half : length (flat L.orders) / 2 ≡ length L.orders = omega (arith, flat_length L.orders) in
    let e : pairs_of (flat L.orders) (length (flat L.orders) / 2) ≡ L.orders =
    ap (pairs_of (flat L.orders)) half ∙ flat_pairs L.orders (length L.orders) (omega arith) ∙ take-length L.orders in
    λ i. record { starts = L.starts; deadlines = L.deadlines; orders = e i }

-- ---- the plan
-- no latest time held is above 4096, so as many slots are enough
module _ (L : Listed) (k : Book) (t : Told k L) (J : Jobs) (times : ℕ → ℕ) (h : Holds 2 L J times) where
  low : Beneath (jobs_of k) (latest_of k) (λ i. 4096)
  low i l = omega (arith, t.holds.latest.beneath i l, t.limited.deadline i (omega (arith, t.holds.reads.size)))

  defined : (old new : List ℕ) (told : ℕ) → Plans k old new 0 told → (told ≡ finish J (slots 2 J times unplaced horizon)) × (new ≡ bytes J times unplaced told ++ drop (2 * told) old)
  defined old new told (refused c w x e) = let number : ◌≡◌ {A = ℕ} 0 8 = ap (λ r. r.0) e ∙ x.1 in absurd (omega arith)
  defined old new told (passed f e) =
      let ends : told ≡ finish_of k = ap (λ r. r.1) e in
      let same : told ≡ finish J (slots 2 J times unplaced horizon) =
      ends ∙ finish_one L (jobs_of k) J (latest_of k) times t.holds h unplaced horizon unplaced horizon low (omega arith) (omega arith) (omega arith) in
      let shown : bytes_of k ≡ bytes J times unplaced told =
      bytes_one L (jobs_of k) J (latest_of k) times t.holds h unplaced horizon unplaced horizon low (omega arith) (omega arith) (omega arith) ∙ ap (bytes J times unplaced) (sym same) in
      (same, ap (λ r. r.2) e ∙ ap₂ (λ (front : List ℕ) (n : ℕ). front ++ drop (2 * n) old) shown (sym ends))

-- ---- a sound request is refused only for want of a plan, and else accepted
module _ (L : Listed) (k : Book) (q : Request) (r : Applied) (sound : Sound L q) (o : Outcome L k q r) where
  none_refused : (Plannable (grow L q) → ⊥) → r ≡ answered k 4 0
  none_refused none = table_caught (request_checks L q) (Turned k) (Grown (grow L q) (accepts_with L q)) r 4 0 (inr (sound, (none, refl, refl))) o

  pub plan_accepted : Plannable (grow L q) → Grown (grow L q) (accepts_with L q) r
  plan_accepted plan = table_free (request_checks L q) (Turned k) (Grown (grow L q) (accepts_with L q)) r (sound, λ none. none plan) o

pub list_accepted : (starts deadlines pairs old : List ℕ) (r : Judged) → Judges starts deadlines pairs old r → SoundRows starts deadlines pairs old → Plannable (list_of starts deadlines pairs) →
    (r.number ≡ 0) × (r.value ≡ 0)
list_accepted starts deadlines pairs old r j sound plan =
    let f = table_free (list_checks starts deadlines pairs old) (TurnedDown old) (Fitted (list_of starts deadlines pairs) old) r (sound, λ none. none plan) j in
    (ap (λ (z : Judged). z.number) f.accepts, ap (λ (z : Judged). z.value) f.accepts)

pub demand_3 : Demand3
demand_3 = record {
  told = run_told;
  at_once = at_once;
  in_rows = λ L k run. (flat L.orders, in_rows L, flat_length L.orders);
  plan = λ L k J times old new told run h. defined L k (run_told L k run) J times h old new told;
  one_book = run_one;
  refused = λ L k q r run x sound.
      let o = x.outcome L (run_told L k run) in
      ((λ a. refused_none L k q r (ap (λ (z : Applied). z.number) a) o), none_refused L k q r sound o);
  accepted = λ L k q r run x sound plan. (plan_accepted L k q r sound (x.outcome L (run_told L k run)) plan).accepts;
  list_accepted = list_accepted;
}

-- ---- a request that says nothing new
pub unchanged : Unchanged
unchanged = record {
  order = λ L k a b r t. order_unchanged L k t r a b;
  deadline = λ k j d r m l h high. deadline_unchanged m.0 k m.1 r j d l high h;
}
