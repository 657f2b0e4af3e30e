-- Bytes stored one after the other are stored together.
-- Assumes nothing.
use mathlib.Core.List.{List, [], ◌∷◌, ◌++◌}
use mathlib.Core.Path.{◌≡◌, refl, ap, ◌∙◌}
use Prim.Native.Nat.{ℕ, suc, ◌+◌, ◌≤◌}
use native.Mathlib.Nat.{add-zero}
use native.Mathlib.Omega.{arith}
use lib.ListN.{length, set}
use lib.Seq.{sets, set_comm}

pub sets_append : (xs ys l : List ℕ) (i : ℕ) → sets (sets l i xs) (i + length xs) ys ≡ sets l i (xs ++ ys)
sets_append [] ys l i = ap (λ (n : ℕ). sets l n ys) (add-zero i)
sets_append (x ∷ xs) ys l i =
    let e : i + suc (length xs) ≡ suc i + length xs = omega arith in
    ap (λ (n : ℕ). sets (sets (set l i x) (suc i) xs) n ys) e ∙ sets_append xs ys (set l i x) (suc i)

-- what is stored further on may be stored first
set_sets : (xs l : List ℕ) (i j b : ℕ) → i + length xs ≤ j → set (sets l i xs) j b ≡ sets (set l j b) i xs
set_sets [] l i j b h = refl
set_sets (x ∷ xs) l i j b h = set_sets xs (set l i x) (suc i) j b (omega arith) ∙ ap (λ (r : List ℕ). sets r (suc i) xs) (set_comm l i j x b (λ e. omega arith))

pub sets_comm : (xs ys l : List ℕ) (i j : ℕ) → i + length xs ≤ j → sets (sets l i xs) j ys ≡ sets (sets l j ys) i xs
sets_comm xs [] l i j h = refl
sets_comm xs (y ∷ ys) l i j h = ap (λ (r : List ℕ). sets r (suc j) ys) (set_sets xs l i j y h) ∙ sets_comm xs ys (set l j y) i (suc j) (omega arith)
