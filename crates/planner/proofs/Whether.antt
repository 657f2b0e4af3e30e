-- An answer of yes or no: how it is given and read, and that there is one.
-- Assumes nothing.
use mathlib.Core.Bool.{Bool, true, false}
use mathlib.Core.List.{List}
use mathlib.Core.Path.{◌≡◌, refl, sym, subst, ◌∙◌}
use Prim.Native.Nat.{ℕ, ◌<◌}
use native.Mathlib.Omega.{arith}
use lib.Dec.{T, eqb, eqb→eq}
use lib.ListN.{get_or, replicate}
use Rattle.std.specs.Bool.{Decides}
use Rattle.std.specs.Cmp.Lexicographic.{pointwise}
use Rattle.std.proofs.lemmas.Bool.Decides.{Decides-eqb}
use Rattle.std.proofs.lemmas.Slice.Eq.{slice_eq-Decides}
use Rattle.schedule.proofs.Tests.{eq→eqb}
use Rattle.book.specs.Told.{book_in, nothing_listed, Made}
use Rattle.book.proofs.Empty.{told_nothing}
use Rattle.planner.specs.Memory.{Whether}
use Rattle.planner.proofs.Growing.{true_T, false_T}

pub whether_yes : {P : Type 0} → P → Whether P true
whether_yes p = record { yes = λ e. p; no = λ e x. subst T e tt }

pub whether_no : {P : Type 0} → (P → ⊥) → Whether P false
whether_no f = record { yes = λ e. absurd (subst T (sym e) tt); no = λ e x. f x }

pub whether_as : {P Q : Type 0} {r : Bool} → (P → Q) → (Q → P) → Whether P r → Whether Q r
whether_as f g w = record { yes = λ e. f (w.yes e); no = λ e x. w.no e (g x) }

pub whether_eq : {P : Type 0} (x y : ℕ) → (x ≡ y → P) → (P → x ≡ y) → Whether P (eqb x y)
whether_eq x y f g = record { yes = λ e. f (eqb→eq x y (true_T _ e)); no = λ e p. false_T _ e (eq→eqb x y (g p)) }

-- two lists compared by `==`
pub whether_same : (xs ys : List ℕ) (r : Bool) → r ≡ pointwise eqb xs ys → Whether (xs ≡ ys) r
whether_same xs ys r e =
    let d : Decides r (xs ≡ ys) = slice_eq-Decides Decides-eqb xs ys r e in
    record { yes = d.0; no = λ n same. subst T (sym (d.1 same) ∙ n) tt }

-- there is one answer
pub whether_only : (P : Type 0) (r s : Bool) → Whether P r → Whether P s → r ≡ s
whether_only P true true v w = refl
whether_only P true false v w = absurd (w.no refl (v.yes refl))
whether_only P false true v w = absurd (v.no refl (w.yes refl))
whether_only P false false v w = refl

-- an answer of yes to everything is shut out, and so is an answer of no
pub whether_too_many : (times before : List ℕ) (r : Bool) → 64 < get_or times 0 0 → Whether (Made (book_in times before)) r → r ≡ false
whether_too_many times before r l w = whether_only _ r false w (whether_no (λ m. omega (arith, m.1.shaped.few)))

pub whether_empty : (r : Bool) → Whether (Made (book_in (replicate 129 0) (replicate 64 0))) r → r ≡ true
whether_empty r w = whether_only _ r true w (whether_yes (nothing_listed, told_nothing))
