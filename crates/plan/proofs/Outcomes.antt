-- What an outcome in numbers tells: 0 is what was asked for, any other number its refusal.
-- Assumes nothing.
use mathlib.Core.List.{List, [], ◌∷◌, ◌++◌}
use mathlib.Core.Path.{◌≡◌, ap, ◌∙◌}
use Prim.Native.Nat.{ℕ, ◌*◌, ◌≤◌, ◌<◌}
use native.Mathlib.Omega.{arith}
use lib.ListN.{length, get_or, drop}
use Rattle.std.specs.Prelude.{Ok}
use Rattle.schedule.proofs.Tests.{lt_by}
use Rattle.refusal.proofs.Table.{table_past, table_refused}
use Rattle.book.specs.Told.{Book, cores}
use Rattle.plan.specs.declared.placed.Place.{Place}
use Rattle.plan.specs.Plan.{plan_of, finish_of, bytes_of, Plans}
use Rattle.plan.specs.Placed.{values_of, Sites}
use Rattle.plan.specs.Place.{core_of, end_of, spare_of, place_of, Places}

module _ (k : Book) (old new : List ℕ) where
  pub plans_made : (v : ℕ) → Plans k old new 0 v → (v ≡ finish_of k) × (new ≡ bytes_of k ++ drop (cores * finish_of k) old)
  plans_made v x =
      let e = (table_past _ _ _ _ (λ n w eight same. let z = ap (λ r. r.0) same in omega arith) x).1 in
      (ap (λ r. r.1) e, ap (λ r. r.2) e)

  pub plans_refused : (n v : ℕ) → 1 ≤ n → Plans k old new n v → (length old < cores * finish_of k) × (n ≡ 8) × (v ≡ cores * finish_of k) × (new ≡ old)
  plans_refused n v some x =
      let y = table_refused _ _ _ _ (λ e. let z = ap (λ r. r.0) e in omega arith) x in
      (y.2.0, ap (λ r. r.0) y.3 ∙ y.2.1, ap (λ r. r.1) y.3 ∙ y.2.2, ap (λ r. r.2) y.3)

module _ (k : Book) (job : ℕ) where
  pub places_made : (values : List ℕ) → Places k job 0 values → (job < k.size) × (values ≡ place_of k job)
  places_made values x =
      let y = table_past _ _ _ _ (λ n w five same. let z = ap (λ r. r.0) same in omega arith) x in
      (lt_by job k.size y.0, ap (λ r. r.1) y.1)

  pub places_refused : (n : ℕ) (values : List ℕ) → 1 ≤ n → Places k job n values → (k.size ≤ job) × (n ≡ 5) × (values ≡ 0 ∷ [])
  places_refused n values some x =
      let y = table_refused _ _ _ _ (λ e. let z = ap (λ r. r.0) e in omega arith) x in
      (y.2.0, ap (λ r. r.0) y.3 ∙ y.2.1, ap (λ r. r.1) y.3 ∙ ap (λ v. v ∷ []) y.2.2)

  -- a place told, value by value
  pub place_told : (p : Place) → Sites (Ok p) (Places k job) →
      (job < k.size) × (p.slot.0 ≡ plan_of k job) × (p.core.0 ≡ core_of k job) × (p.end ≡ end_of k job) × (p.spare ≡ spare_of k job)
  place_told p x =
      let y = places_made _ x in
      let at : (j : ℕ) → get_or (values_of p) j 0 ≡ get_or (place_of k job) j 0 = λ j. ap (λ l. get_or l j 0) y.1 in
      (y.0, at 0, at 1, at 2, at 3)
