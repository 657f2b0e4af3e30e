-- What a call made of a set, where the job or the number of jobs is in range, and where it is not.
-- Assumes nothing.
use Rattle.std.proofs.Common.{◌≡◌, ℕ, ◌^◌, ◌<◌, ◌≤◌, Bool, ◌&&◌, ◌||◌, eqb, ltb, sym, ap, ◌∙◌, ⊎_elim, arith, eqb→eq, le-ltb, lt-ltb, ne_eqb}
use mathlib.Core.Bool.{and-true, and-false, or-false}
use lib.Bits.{bit_or}
use Rattle.schedule.proofs.Tests.{test, le_or_lt, eq→eqb}
use Rattle.sets.specs.Sets.{has, With, Without, Below}
use Rattle.sets.proofs.Bits.{past_has, only, with_has}

-- ---- in range
-- job j is job i and in range, or not
is_in : (i j : ℕ) → i < 64 → (eqb j i && ltb j 64) ≡ eqb j i
is_in i j h = ⊎_elim
    (λ x. let e : j ≡ i = eqb→eq j i x in simp (lt-ltb j 64 (omega arith), and-true))
    (λ f. simp (ne_eqb j i (λ e. f (eq→eqb j i e))))
    (test (eqb j i))

pub with_in : (x i r : ℕ) → i < 64 → With x i r → (j : ℕ) → has r j ≡ (has x j || eqb j i)
with_in x i r h w j = w j ∙ ap (λ (b : Bool). has x j || b) (is_in i j h)

in_with : (x i r : ℕ) → i < 64 → ((j : ℕ) → has r j ≡ (has x j || eqb j i)) → With x i r
in_with x i r h w j = w j ∙ sym (ap (λ (b : Bool). has x j || b) (is_in i j h))

pub with_is : (x i : ℕ) → i < 64 → With x i (bit_or x (only i))
with_is x i h = in_with x i (bit_or x (only i)) h (λ j. with_has x i j h)

-- below n and in range, or not
low_in : (n j : ℕ) → n ≤ 64 → (ltb j n && ltb j 64) ≡ ltb j n
low_in n j h = ⊎_elim (λ l. simp (le-ltb j n l)) (λ l. simp (lt-ltb j n l, lt-ltb j 64 (omega arith))) (le_or_lt n j)

pub below_in : (n r : ℕ) → n ≤ 64 → Below n r → (j : ℕ) → has r j ≡ ltb j n
below_in n r h w j = w j ∙ low_in n j h

pub in_below : (n r : ℕ) → n ≤ 64 → ((j : ℕ) → has r j ≡ ltb j n) → Below n r
in_below n r h w j = w j ∙ sym (low_in n j h)

-- ---- out of range: the set stays, or has all 64
pub with_out : (x i : ℕ) → 64 ≤ i → With x i x
with_out x i h j = ⊎_elim
    (λ e. let q : j ≡ i = eqb→eq j i e in simp (le-ltb j 64 (omega arith), and-false, or-false))
    (λ f. simp (ne_eqb j i (λ e. f (eq→eqb j i e)), or-false))
    (test (eqb j i))

pub without_out : (x i : ℕ) → x < 2 ^ 64 → 64 ≤ i → Without x i x
without_out x i hx h j = ⊎_elim
    (λ e. let q : j ≡ i = eqb→eq j i e in simp (past_has x j hx (omega arith)))
    (λ f. simp (ne_eqb j i (λ e. f (eq→eqb j i e)), and-true))
    (test (eqb j i))

pub below_out : (n r : ℕ) → 64 ≤ n → ((j : ℕ) → has r j ≡ ltb j 64) → Below n r
below_out n r h w j = w j ∙ ⊎_elim
    (λ l. simp (le-ltb j 64 l, and-false))
    (λ l. simp (lt-ltb j 64 l, lt-ltb j n (omega arith)))
    (le_or_lt 64 j)
