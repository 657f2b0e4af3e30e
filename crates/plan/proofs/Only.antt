-- No second outcome meets what the public calls promise; of `span` it is an equation.
-- Assumes nothing.
use mathlib.Core.List.{List}
use mathlib.Core.Path.{◌≡◌, sym, ap, ap₂, ◌∙◌}
use Prim.Native.Nat.{ℕ}
use native.Mathlib.Omega.{arith}
use lib.ListN.{get_or}
use Rattle.std.specs.Prelude.{Result, Ok, Err}
use Rattle.refusal.specs.declared.Refusal.{Refusal}
use Rattle.refusal.specs.Says.{Says, refused_by, number_of, value_of}
use Rattle.refusal.proofs.Table.{table_one}
use Rattle.refusal.proofs.Says.{number_within, number_one, says_told, says_only}
use Rattle.book.specs.Told.{Book}
use Rattle.plan.specs.declared.placed.Place.{Place}
use Rattle.plan.specs.Plan.{Plans}
use Rattle.plan.specs.Placed.{values_of, Sites}
use Rattle.plan.specs.Place.{Places}

-- ---- in numbers
pub plans_only : (k : Book) (old new new' : List ℕ) (n v n' v' : ℕ) → Plans k old new n v → Plans k old new' n' v' → (n ≡ n') × (v ≡ v') × (new ≡ new')
plans_only k old new new' n v n' v' x y =
    let e = table_one {A = ℕ × ℕ × List ℕ} _ _ _ (λ a b r s p q. p ∙ sym q) (λ r s p q. p ∙ sym q) (n, v, new) (n', v', new') x y in
    (ap (λ z. z.0) e, ap (λ z. z.1) e, ap (λ z. z.2) e)

pub places_only : (k : Book) (job n n' : ℕ) (values values' : List ℕ) → Places k job n values → Places k job n' values' → (n ≡ n') × (values ≡ values')
places_only k job n n' values values' x y =
    let e = table_one {A = ℕ × List ℕ} _ _ _ (λ a b r s p q. p ∙ sym q) (λ r s p q. p ∙ sym q) (n, values) (n', values') x y in
    (ap (λ z. z.0) e, ap (λ z. z.1) e)

-- ---- of the answers
pub plan_only : (k : Book) (old new new' : List ℕ) (r r' : Result ℕ Refusal) → Says r (Plans k old new) → Says r' (Plans k old new') → (r ≡ r') × (new ≡ new')
plan_only k old new new' r r' x y = (
  says_only (Plans k old new) (Plans k old new') r r' (λ n v m w p q. let e = plans_only k old new new' n v m w p q in (e.0, e.1)) x y,
  (plans_only k old new new' (number_of r) (value_of r) (number_of r') (value_of r') (says_told (Plans k old new) r x) (says_told (Plans k old new') r' y)).2,
)

-- where a promise leaves one number and one row of values, it leaves one result
pub sites_only : (P : ℕ → List ℕ → Type 0) → ((n m : ℕ) (v w : List ℕ) → P n v → P m w → (n ≡ m) × (v ≡ w)) → (r s : Result Place Refusal) → Sites r P → Sites s P → r ≡ s
sites_only P one (Ok p) (Ok q) x y =
    let e = (one 0 0 _ _ x y).1 in
    let at : (j : ℕ) → get_or (values_of p) j 0 ≡ get_or (values_of q) j 0 = λ j. ap (λ l. get_or l j 0) e in
    λ i. Ok (record { slot = record { 0 = at 0 i }; core = record { 0 = at 1 i }; end = at 2 i; spare = at 3 i })
sites_only P one (Ok p) (Err s) x y = absurd (omega (arith, (one 0 _ _ _ x y).0, (number_within s.reason).0))
sites_only P one (Err r) (Ok q) x y = absurd (omega (arith, (one _ 0 _ _ x y).0, (number_within r.reason).0))
sites_only P one (Err r) (Err s) x y = let e = one _ _ _ _ x y in ap Err (ap₂ refused_by (number_one r.reason s.reason e.0) (ap (λ l. get_or l 0 0) e.1))

pub place_only : (k : Book) (job : ℕ) (r r' : Result Place Refusal) → Sites r (Places k job) → Sites r' (Places k job) → r ≡ r'
place_only k job = sites_only (Places k job) (places_only k job)
