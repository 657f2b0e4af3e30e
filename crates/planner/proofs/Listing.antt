-- The pairs that pass a test, as a list of orders.
-- Assumes nothing.
use mathlib.Core.Bool.{Bool}
use mathlib.Core.List.{List, [], ◌∷◌, ◌++◌}
use mathlib.Core.Logic.{◌↔◌, ◌⊎◌, inl, inr, ⊎_elim}
use mathlib.Core.Path.{◌≡◌, refl, sym, subst}
use Prim.Native.Nat.{ℕ, zero, suc, ◌<◌}
use native.Mathlib.Nat.{not-suc-le-zero}
use native.Mathlib.Omega.{arith}
use lib.Dec.{T}
use Rattle.schedule.specs.Listed.{ordered}
use Rattle.schedule.proofs.Tests.{test}
use Rattle.schedule.proofs.Search.{split_last}
use Rattle.schedule.proofs.Chains.{ordered_append}

-- a list of the orders of another, and of those that S says
abbrev More : List (ℕ × ℕ) → (ℕ → ℕ → Type 0) → Type 0
More o S = (p : List (ℕ × ℕ)) × ((x y : ℕ) → T (ordered p x y) ↔ (T (ordered o x y) ⊎ S x y))

-- one pair, if it passes
one : (P : ℕ → ℕ → Bool) (a b : ℕ) (o : List (ℕ × ℕ)) → More o (λ x y. (x ≡ a) × (y ≡ b) × T (P a b))
one P a b o = go (test (P a b))
  where
    go : T (P a b) ⊎ (T (P a b) → ⊥) → More o (λ x y. (x ≡ a) × (y ≡ b) × T (P a b))
    go (inl t) = (
      o ++ ((a, b) ∷ []),
      λ x y. let s = ordered_append o a b x y in (
        (λ u. ⊎_elim (λ v. inl v) (λ v. inr (v.0, v.1, t)) (s.0 u)),
        (λ u. ⊎_elim (λ v. s.1 (inl v)) (λ v. s.1 (inr (v.0, v.1))) u),
      ),
    )
    go (inr f) = (o, λ x y. ((λ u. inl u), (λ u. ⊎_elim (λ v. v) (λ v. absurd (f v.2)) u)))

-- those of every number below n
each : (S : ℕ → ℕ → ℕ → Type 0) → ((i : ℕ) (o : List (ℕ × ℕ)) → More o (S i)) → (n : ℕ) (o : List (ℕ × ℕ)) → More o (λ x y. (i : ℕ) × (i < n) × S i x y)
each S f zero o = (o, λ x y. ((λ u. inl u), (λ u. ⊎_elim (λ v. v) (λ v. absurd (not-suc-le-zero v.1)) u)))
each S f (suc n) o =
    let q = each S f n o in
    let p = f n q.0 in (
      p.0,
      λ x y. (
        (λ u. ⊎_elim (λ v. ⊎_elim (λ w. inl w) (λ w. inr (w.0, omega (arith, w.1), w.2)) ((q.1 x y).0 v)) (λ v. inr (n, omega arith, v)) ((p.1 x y).0 u)),
        (λ u. ⊎_elim (λ v. (p.1 x y).1 (inl ((q.1 x y).1 (inl v))))
            (λ v. ⊎_elim (λ e. (p.1 x y).1 (inr (subst (λ (i : ℕ). S i x y) e v.2))) (λ l. (p.1 x y).1 (inl ((q.1 x y).1 (inr (v.0, l, v.2))))) (split_last v.1)) u),
      ),
    )

-- all that pass
pub pairs_listed : (n : ℕ) (P : ℕ → ℕ → Bool) → ((a b : ℕ) → T (P a b) → (a < n) × (b < n)) → (o : List (ℕ × ℕ)) × ((a b : ℕ) → T (ordered o a b) ↔ T (P a b))
unfolding ordered
pairs_listed n P h =
    let q = each (λ a x y. (b : ℕ) × (b < n) × ((x ≡ a) × (y ≡ b) × T (P a b))) (λ a. each (λ b x y. (x ≡ a) × (y ≡ b) × T (P a b)) (one P a) n) n [] in (
      q.0,
      λ a b. (
        (λ t. ⊎_elim (λ u. absurd u) (λ u. let v = u.2.2 in subst (λ (j : ℕ). T (P a j)) (sym v.1) (subst (λ (i : ℕ). T (P i u.2.0)) (sym v.0) v.2)) ((q.1 a b).0 t)),
        (λ t. let l = h a b t in (q.1 a b).1 (inr (a, l.0, (b, l.1, (refl, refl, t))))),
      ),
    )
