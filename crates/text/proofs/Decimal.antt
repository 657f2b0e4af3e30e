-- A number in decimal digits: the digits of its tenth, and its last digit.
-- Assumes nothing.
use mathlib.Core.Bool.{cond}
use mathlib.Core.List.{List, [], ◌∷◌, ◌++◌}
use mathlib.Core.Logic.{⊎_elim}
use mathlib.Core.Path.{◌≡◌, refl}
use Prim.Native.Nat.{ℕ, zero, suc, ◌+◌, ◌-◌, ◌*◌, ◌/◌, ◌%◌, ◌^◌, ◌≤◌, ◌<◌}
use native.Mathlib.Nat.{pow-suc}
use native.Mathlib.Omega.{arith}
use borrow.Author.Tests.{lt-ltb, le-ltb}
use lib.Dec.{ltb}
use lib.ListN.{length, get_or, length-append, get_or-append}
use Rattle.text.proofs.Putting.{le_or_lt}
use Rattle.text.specs.Text.{digits, decimal}

-- room for more digits than there are changes nothing
enough : (j k n : ℕ) → n < j → n < k → digits j n ≡ digits k n
unfolding digits
enough zero k n h i = absurd (omega arith)
enough (suc j) zero n h i = absurd (omega arith)
enough (suc j) (suc k) n h i =
    ⊎_elim
    (λ large. rw (enough j k (n / 10) (omega arith) (omega arith)))
    (λ small. rw (lt-ltb n 10 small))
    (le_or_lt 10 n)

-- what stands in front of the last digit
abbrev pub front : ℕ → List ℕ
front n = cond (ltb n 10) [] (decimal (n / 10))

pub decimal_last : (n : ℕ) → decimal n ≡ front n ++ ((48 + n % 10) ∷ [])
unfolding decimal digits
decimal_last n =
    ⊎_elim
    (λ large. rw (enough n (suc (n / 10)) (n / 10) (omega arith) (omega arith)))
    (λ small. rw (lt-ltb n 10 small))
    (le_or_lt 10 n)

pub front_small : (n : ℕ) → n ≤ 9 → front n ≡ []
front_small n h = rw (lt-ltb n 10 (omega arith))

pub front_large : (n : ℕ) → 9 < n → front n ≡ decimal (n / 10)
front_large n h = rw (le-ltb n 10 (omega arith))

-- ---- what is written is the number, and no zero stands in front
-- the number that digits spell, behind those that spelled n
unfoldable pub value : ℕ → List ℕ → ℕ
value n [] = n
value n (digit ∷ more) = value (10 * n + (digit - 48)) more

value_last : (n : ℕ) (front : List ℕ) (digit : ℕ) → value n (front ++ (digit ∷ [])) ≡ 10 * value n front + (digit - 48)
unfolding value
value_last n [] digit = refl
value_last n (first ∷ more) digit = value_last (10 * n + (first - 48)) more digit

spelled : (k n : ℕ) → n < k → value 0 (decimal n) ≡ n
unfolding value
spelled zero n h = absurd (omega arith)
spelled (suc k) n h =
    rw (decimal_last n)
    (⊎_elim
    (λ (small : n ≤ 9). rw (front_small n small) (omega arith))
    (λ (large : 9 < n). rw (front_large n large, value_last) (omega (arith, spelled k (n / 10) (omega arith))))
    (le_or_lt n 9))

pub decimal_value : (n : ℕ) → value 0 (decimal n) ≡ n
decimal_value n = spelled (suc n) n (omega arith)

leads : (k n : ℕ) → n < k → 0 < n → 48 < get_or (decimal n) 0 0
leads zero n h pos = absurd (omega arith)
leads (suc k) n h pos =
    rw (decimal_last n)
    (⊎_elim
    (λ (small : n ≤ 9). rw (front_small n small) (omega arith))
    (λ (large : 9 < n). rw (front_large n large, get_or-append (decimal (n / 10)) _ 0 0 (some (n / 10))) (leads k (n / 10) (omega arith) (omega arith)))
    (le_or_lt n 9))
  where
    some : (m : ℕ) → 0 < length (decimal m)
    some m = rw (decimal_last m, length-append) (omega arith)

pub no_zero_first : (n : ℕ) → 0 < n → get_or (decimal n) 0 0 ≡ 48 → ⊥
no_zero_first n pos e = omega (arith, leads (suc n) n (omega arith) pos)

-- ---- how many digits
pub decimal_short : (k n : ℕ) → n < 10 ^ suc k → length (decimal n) ≤ suc k
decimal_short zero n h = rw (decimal_last n, front_small n (omega arith)) (omega arith)
decimal_short (suc k) n h =
    let below : n < 10 ^ suc k * 10 = rw (← pow-suc 10 (suc k)) h in
    ⊎_elim
    (λ (small : n ≤ 9). rw (decimal_last n, front_small n small) (omega arith))
    (λ (large : 9 < n). rw (decimal_last n, front_large n large) (simp length-append (omega (arith, decimal_short k (n / 10) (omega arith)))))
    (le_or_lt n 9)
