-- The laws of sets that are numbers: what digit each operation gives, the count of ones, and that digits settle the number.
-- Assumes nothing.
use Rattle.std.proofs.Common.{◌≡◌, ℕ, zero, suc, ◌+◌, ◌-◌, ◌*◌, ◌/◌, ◌%◌, ◌^◌, ◌<◌, ◌≤◌, Bool, true, false, not, ◌&&◌, ◌||◌, T, eqb, ltb, ◌⊎◌, sym, refl, ap, ◌∙◌, subst, ap₂, inl, inr, ⊎_elim, lt_of_lt_of_le, mod-lt, mod-eq_of_lt, le_antisymm, one-mul, pow-suc, div-one, one-add, arith, lit<, eqb→eq, T_not, pow_pos, pow_mono, shl_exact, shr-shr, le-ltb, lt-ltb, eq-eqb, ne_eqb, eqb-true}
use native.Mathlib.Nat.{sub-zero, div-eq_of_lt, zero-div, mul-mod_left, mod-one}
use native.Mathlib.Decide.{dec_lt}
use lib.Dec.{not_T, eqb_refl, eqb-suc-zero, eqb-zero-suc, eqb-suc-suc}
use lib.Bits.{bit_and, bit_or, and_le_r, and_shr, or_shr, and_mod, or_mod}
use lib.Count.{ones, ones_cat, count_trailing_zeros, trailing_of_zero, under}
use lib.Pow.{pow-lt, mod-pow-add}
use Rattle.schedule.specs.Count.{one, count}
use Rattle.schedule.proofs.Tests.{test, and_pair, and_fst, and_snd, same_test, le_by, le_or_lt}
use Rattle.schedule.proofs.Counting.{count_lt, count_but, count_mono}
use Rattle.sets.specs.Sets.{has, Without, First, Rest}

-- what holds at 0 and at 1 holds of a digit
digit : (P : ℕ → Type 0) → P 0 → P 1 → (n : ℕ) → P (n % 2)
digit P p₀ p₁ n = go (n % 2) (mod-lt n (lit< tt))
  where
    go : (r : ℕ) → r < 2 → P r
    go zero h = p₀
    go (suc zero) h = p₁
    go (suc (suc r)) h = absurd (omega arith)

-- Any operation that goes digit by digit: its digit j is the operation's own of the two digits j.
module _ (op : ℕ → ℕ → ℕ) (f : Bool → Bool → Bool)
    (shr : (a b k : ℕ) → op a b / 2 ^ k ≡ op (a / 2 ^ k) (b / 2 ^ k))
    (low : (a b k : ℕ) → op a b % 2 ^ k ≡ op (a % 2 ^ k) (b % 2 ^ k))
    (t00 : eqb (op 0 0) 1 ≡ f false false) (t01 : eqb (op 0 1) 1 ≡ f false true)
    (t10 : eqb (op 1 0) 1 ≡ f true false) (t11 : eqb (op 1 1) 1 ≡ f true true) where
  at_digits : (a b : ℕ) → eqb (op (a % 2) (b % 2)) 1 ≡ f (eqb (a % 2) 1) (eqb (b % 2) 1)
  at_digits a b =
      digit (λ (p : ℕ). eqb (op p (b % 2)) 1 ≡ f (eqb p 1) (eqb (b % 2) 1))
      (digit (λ (q : ℕ). eqb (op 0 q) 1 ≡ f false (eqb q 1)) t00 t01 b)
      (digit (λ (q : ℕ). eqb (op 1 q) 1 ≡ f true (eqb q 1)) t10 t11 b) a

  op_has : (x y j : ℕ) → has (op x y) j ≡ f (has x j) (has y j)
  unfolding has
  op_has x y j =
      ap (λ (n : ℕ). eqb (n % 2) 1) (shr x y j)
      ∙ ap (λ (n : ℕ). eqb n 1) (low (x / 2 ^ j) (y / 2 ^ j) 1)
      ∙ at_digits (x / 2 ^ j) (y / 2 ^ j)

pub and_has : (x y j : ℕ) → has (bit_and x y) j ≡ (has x j && has y j)
and_has = op_has bit_and (λ p q. p && q) and_shr and_mod refl refl refl refl

pub or_has : (x y j : ℕ) → has (bit_or x y) j ≡ (has x j || has y j)
or_has = op_has bit_or (λ p q. p || q) or_shr or_mod refl refl refl refl

-- digits past a number's length are not set
pub high_has : (x j : ℕ) → x < 2 ^ j → has x j ≡ false
unfolding has
high_has x j h = ap (λ (n : ℕ). eqb (n % 2) 1) (div-eq_of_lt h)

-- a set has none of the jobs from 64 on
pub past_has : (x j : ℕ) → x < 2 ^ 64 → 64 ≤ j → has x j ≡ false
past_has x j hx h = high_has x j (lt_of_lt_of_le hx (pow_mono {i = 64} {j = j} h))

-- The count of ones of the n low digits is the count of the numbers below n that are in the set.
ones_digit : (d : ℕ) → ones (d % 2) ≡ one (eqb (d % 2) 1)
unfolding ones
ones_digit d = digit (λ (p : ℕ). ones p ≡ one (eqb p 1)) refl refl d

low_ones : (n x : ℕ) → ones (x % 2 ^ n) ≡ count n (has x)
unfolding count has ones
low_ones zero x = ap ones (mod-one x)
low_ones (suc n) x =
    ap (λ (m : ℕ). ones (x % 2 ^ m)) (sym (one-add n))
    ∙ ap ones (mod-pow-add x 1 n)
    ∙ ones_cat n (x / 2 ^ n % 2) (x % 2 ^ n) (mod-lt x (pow_pos n))
    ∙ ap₂ (λ (a b : ℕ). a + b) (ones_digit (x / 2 ^ n)) (low_ones n x)

pub ones_count : (n x : ℕ) → x < 2 ^ n → ones x ≡ count n (has x)
ones_count n x h = ap ones (sym (mod-eq_of_lt h)) ∙ low_ones n x

-- digit j + 1 of x is digit j of its half
half_has : (x j : ℕ) → has x (suc j) ≡ has (x / 2) j
unfolding has
half_has x j = ap (λ (n : ℕ). eqb (n % 2) 1) (ap (λ (m : ℕ). x / 2 ^ m) (sym (one-add j)) ∙ sym (shr-shr x 1 j))

-- the complement in k digits
flip : (p x : ℕ) → x < p * 2 → eqb ((p * 2 - 1 - x) % 2) 1 ≡ not (eqb (x % 2) 1)
flip p x h =
    ap (λ (n : ℕ). eqb n 1) (let e : (p * 2 - 1 - x) % 2 ≡ 1 - x % 2 = omega arith in e)
    ∙ digit (λ (d : ℕ). eqb (1 - d) 1 ≡ not (eqb d 1)) refl refl x

pub not_has : (k x j : ℕ) → x < 2 ^ k → j < k → has ((2 ^ k - 1) - x) j ≡ not (has x j)
unfolding has
not_has zero x j h hj = absurd (omega arith)
not_has (suc k) x zero h hj =
    simp (div-one, pow-suc) (flip (2 ^ k) x (rw pow-suc at h))
not_has (suc k) x (suc j) h hj =
    let h' : x < 2 ^ k * 2 = rw pow-suc at h in
    half_has (2 ^ suc k - 1 - x) j
    ∙ ap (λ (n : ℕ). has n j)
    (ap (λ (p : ℕ). (p - 1 - x) / 2) (pow-suc 2 k) ∙ (let e : (2 ^ k * 2 - 1 - x) / 2 ≡ 2 ^ k - 1 - x / 2 = omega arith in e))
    ∙ not_has k (x / 2) j (omega arith) (omega arith)
    ∙ ap not (sym (half_has x j))

-- the set of i alone, as code writes it
two_even : (m : ℕ) → has (2 ^ suc m) 0 ≡ false
unfolding has
two_even m = simp (div-one, pow-suc, mul-mod_left)

one_has : (i j : ℕ) → has (2 ^ i) j ≡ eqb j i
unfolding has
one_has zero zero = refl
one_has zero (suc j) = high_has 1 (suc j) (pow-lt {i = 0} {j = suc j} (omega arith)) ∙ sym (eqb-suc-zero j)
one_has (suc i) zero = two_even i ∙ sym (eqb-zero-suc i)
one_has (suc i) (suc j) =
    half_has (2 ^ suc i) j
    ∙ ap (λ (n : ℕ). has n j) (ap (λ (n : ℕ). n / 2) (pow-suc 2 i) ∙ (let e : 2 ^ i * 2 / 2 ≡ 2 ^ i = omega arith in e))
    ∙ one_has i j ∙ sym (eqb-suc-suc j i)

-- the set of i alone, as the code makes it, `1u64 << i`
abbrev pub only : ℕ → ℕ
only i = (1 * 2 ^ i) % 2 ^ 64

pub only_is : (i : ℕ) → i < 64 → only i ≡ 2 ^ i
only_is i h = shl_exact 1 i 64 (lit< tt) (omega arith) ∙ one-mul (2 ^ i)

pub only_has : (i j : ℕ) → i < 64 → has (only i) j ≡ eqb j i
only_has i j h = ap (λ (n : ℕ). has n j) (only_is i h) ∙ one_has i j

-- i put into x, y taken out of x, and i alone taken out of it
pub with_has : (x i j : ℕ) → i < 64 → has (bit_or x (only i)) j ≡ (has x j || eqb j i)
with_has x i j h = or_has x (only i) j ∙ ap (λ (b : Bool). has x j || b) (only_has i j h)

pub except_has : (x y j : ℕ) → x < 2 ^ 64 → y < 2 ^ 64 → has (bit_and x ((2 ^ 64 - 1) - y)) j ≡ (has x j && not (has y j))
except_has x y j hx hy =
    and_has x ((2 ^ 64 - 1) - y) j ∙ go (dec_lt j 64)
  where
    go : Dec (j < 64) → (has x j && has ((2 ^ 64 - 1) - y) j) ≡ (has x j && not (has y j))
    go (yes h) = ap (λ (b : Bool). has x j && b) (not_has 64 y j hy h)
    go (no h) = simp (past_has x j hx (omega arith))

pub without_has : (x i : ℕ) → x < 2 ^ 64 → i < 64 → Without x i (bit_and x ((2 ^ 64 - 1) - only i))
without_has x i hx hi j = except_has x (only i) j hx (mod-lt (1 * 2 ^ i) (lit< tt)) ∙ ap (λ (b : Bool). has x j && not b) (only_has i j hi)

-- counts of tests that agree agree; a count is at most the numbers counted
pub count_same : (n : ℕ) (p q : ℕ → Bool) → ((j : ℕ) → j < n → p j ≡ q j) → count n p ≡ count n q
unfolding count
count_same zero p q h = refl
count_same (suc n) p q h =
    ap₂ (λ (b : Bool) (m : ℕ). one b + m) (h n (omega arith)) (count_same n p q (λ j k. h j (omega arith)))

-- digits settle the number
digit_of : (n : ℕ) → n % 2 ≡ one (eqb (n % 2) 1)
digit_of n = digit (λ (d : ℕ). d ≡ one (eqb d 1)) refl refl n

low_same : (n x y : ℕ) → ((j : ℕ) → j < n → has x j ≡ has y j) → x % 2 ^ n ≡ y % 2 ^ n
unfolding has
low_same zero x y h = mod-one x ∙ sym (mod-one y)
low_same (suc n) x y h =
    ap (λ (m : ℕ). x % 2 ^ m) (sym (one-add n)) ∙ mod-pow-add x 1 n
    ∙ ap₂ (λ (d r : ℕ). d * 2 ^ n + r)
    (digit_of (x / 2 ^ n) ∙ ap one (h n (omega arith)) ∙ sym (digit_of (y / 2 ^ n)))
    (low_same n x y (λ j k. h j (omega arith)))
    ∙ sym (mod-pow-add y 1 n) ∙ ap (λ (m : ℕ). y % 2 ^ m) (one-add n)

pub has_same : (n x y : ℕ) → x < 2 ^ n → y < 2 ^ n → ((j : ℕ) → j < n → has x j ≡ has y j) → x ≡ y
has_same n x y hx hy h = sym (mod-eq_of_lt hx) ∙ low_same n x y h ∙ mod-eq_of_lt hy

-- a number is below its power of two
pub below_pow : (n : ℕ) → n < 2 ^ n
below_pow zero = omega arith
below_pow (suc n) = rw pow-suc (omega (arith, below_pow n))

-- sets with the same members are the same number
pub digits_same : (x y : ℕ) → ((j : ℕ) → has x j ≡ has y j) → x ≡ y
digits_same x y h = has_same (x + y) x y (low x y) (high y x) (λ j l. h j)
  where
    low : (x y : ℕ) → x < 2 ^ (x + y)
    low x y = omega (arith, below_pow x, pow_mono {i = x} {j = x + y} (omega arith))

    high : (x y : ℕ) → x < 2 ^ (y + x)
    high x y = omega (arith, below_pow x, pow_mono {i = x} {j = y + x} (omega arith))

-- A loop that builds a set by a test p, number by number: below i + 1 is below i, or i.
pub ltb_more : (j i : ℕ) → ltb j (i + 1) ≡ (ltb j i || eqb j i)
ltb_more j i = go (dec_lt j i) (dec_lt i j)
  where
    go : Dec (j < i) → Dec (i < j) → ltb j (i + 1) ≡ (ltb j i || eqb j i)
    go (yes h) e = simp (lt-ltb j (i + 1) (omega arith), lt-ltb j i h)
    go (no h) (yes k) = simp (le-ltb j (i + 1) (omega arith), le-ltb j i (omega arith), ne_eqb j i (λ q. omega arith))
    go (no h) (no k) = simp (lt-ltb j (i + 1) (omega arith), le-ltb j i (omega arith), eq-eqb j i (omega arith))

-- s holds exactly the numbers below n that pass p
abbrev pub Built : (ℕ → Bool) → ℕ → ℕ → Type 0
Built p n s = (j : ℕ) → has s j ≡ (ltb j n && p j)

pub built_none : (p : ℕ → Bool) → Built p 0 0
unfolding has
built_none p j = ap (λ (n : ℕ). eqb (n % 2) 1) (zero-div (2 ^ j)) ∙ sym (ap (λ (b : Bool). b && p j) (le-ltb j 0 (omega arith)))

both : (a b e : Bool) → (e ≡ true → b ≡ true) → ((a && b) || e) ≡ ((a || e) && b)
both true true e h = refl
both true false true h = sym (h refl)
both true false false h = refl
both false b true h = sym (h refl)
both false b false h = refl

pub built_more : (p : ℕ → Bool) (i s r : ℕ) → p i ≡ true → Built p i s → ((j : ℕ) → has r j ≡ (has s j || eqb j i)) → Built p (i + 1) r
built_more p i s r pi h w j =
    w j ∙ ap (λ (b : Bool). b || eqb j i) (h j)
    ∙ both (ltb j i) (p j) (eqb j i) (λ e. ap p (eqb-true j i e) ∙ pi)
    ∙ sym (ap (λ (b : Bool). b && p j) (ltb_more j i))

skip : (a b e : Bool) → (e ≡ true → b ≡ false) → (a && b) ≡ ((a || e) && b)
skip true b e h = refl
skip false b true h = sym (h refl)
skip false b false h = refl

pub built_same : (p : ℕ → Bool) (i s : ℕ) → p i ≡ false → Built p i s → Built p (i + 1) s
built_same p i s pi h j =
    h j ∙ skip (ltb j i) (p j) (eqb j i) (λ e. ap p (eqb-true j i e) ∙ pi)
    ∙ sym (ap (λ (b : Bool). b && p j) (ltb_more j i))

-- no job is in the empty set, and a set without jobs is empty
pub empty_has : (j : ℕ) → has 0 j ≡ false
empty_has j = high_has 0 j (pow_pos j)

pub empty_is : (x : ℕ) → x < 2 ^ 64 → ((j : ℕ) → has x j ≡ false) → x ≡ 0
empty_is x h f = has_same 64 x 0 h (pow_pos 64) (λ j l. f j ∙ sym (empty_has j))

pub none_is : (x : ℕ) → ((j : ℕ) → T (has x j) → ⊥) → x ≡ 0
none_is x f = digits_same x 0 (λ j. same_test (has x j) (has 0 j) (λ y. absurd (f j y)) (λ y. absurd (subst T (empty_has j) y)))

-- a set with a job in it is not empty
pub has_some : (x j : ℕ) → T (has x j) → x ≡ 0 → ⊥
has_some x j t e = subst T (ap (λ (n : ℕ). has n j) e ∙ empty_has j) t

-- the jobs below n
pub low_has : (n j : ℕ) → has (2 ^ n - 1) j ≡ ltb j n
low_has n j = go (dec_lt j n)
  where
    go : Dec (j < n) → has (2 ^ n - 1) j ≡ ltb j n
    go (yes h) = ap (λ (x : ℕ). has x j) (sym (sub-zero (2 ^ n - 1))) ∙ not_has n 0 j (pow_pos n) h ∙ ap not (empty_has j) ∙ sym (lt-ltb j n h)
    go (no h) =
        high_has (2 ^ n - 1) j (omega (arith, pow_mono {i = n} {j = j} (omega arith), pow_pos n)) ∙ sym (le-ltb j n (omega arith))

-- the lowest one of a number is one of its digits
pub trailing_has : (k x : ℕ) → x < 2 ^ k → (x ≡ 0 → ⊥) → (count_trailing_zeros k x < k) × T (has x (count_trailing_zeros k x))
unfolding count_trailing_zeros
trailing_has zero x h f = absurd (f (omega arith))
trailing_has (suc k) x h f = go (x % 2) refl (λ g. trailing_has k (x / 2) (let e : x / 2 < 2 ^ k = omega (arith, rw pow-suc at h) in e) g)
  where
    lowest : x % 2 ≡ 1 → T (has x 0)
    lowest e = unfold has in simp (div-one, e) tt

    go : (r : ℕ) → x % 2 ≡ r → ((x / 2 ≡ 0 → ⊥) → (count_trailing_zeros k (x / 2) < k) × T (has (x / 2) (count_trailing_zeros k (x / 2)))) →
        (under r (count_trailing_zeros k (x / 2)) < suc k) × T (has x (under r (count_trailing_zeros k (x / 2))))
    go zero e ih = let y = ih (λ z. f (omega arith)) in (omega (arith, y.0), rw half_has y.1)
    go (suc r) e ih = (omega arith, lowest (omega arith))

-- no digit below the lowest one is set
pub trailing_none : (k x j : ℕ) → j < count_trailing_zeros k x → has x j ≡ false
unfolding count_trailing_zeros
trailing_none zero x j h = absurd (omega arith)
trailing_none (suc k) x j h = go (x % 2) refl j h (λ i. trailing_none k (x / 2) i)
  where
    go : (r : ℕ) → x % 2 ≡ r → (i : ℕ) → i < under r (count_trailing_zeros k (x / 2)) → ((i : ℕ) → i < count_trailing_zeros k (x / 2) → has (x / 2) i ≡ false) → has x i ≡ false
    go zero e zero l ih = unfold has in simp (div-one, e)
    go zero e (suc i) l ih = half_has x i ∙ ih i (omega arith)
    go (suc r) e i l ih = absurd (omega arith)

-- one less has the digits above the lowest one, and not that one
lessened : (k x j : ℕ) → x < 2 ^ k → (x ≡ 0 → ⊥) → (has x j && has (x - 1) j) ≡ (has x j && not (eqb j (count_trailing_zeros k x)))
unfolding count_trailing_zeros
lessened zero x j h f = absurd (f (omega arith))
lessened (suc k) x j h f = go (x % 2) refl j (λ i g. lessened k (x / 2) i (let e : x / 2 < 2 ^ k = omega (arith, rw pow-suc at h) in e) g)
  where
    twice : (b : Bool) → (b && b) ≡ (b && true)
    twice true = refl
    twice false = refl

    even : (y : ℕ) → y % 2 ≡ 0 → has y 0 ≡ false
    even y e = unfold has in simp (div-one, e)

    go : (r : ℕ) → x % 2 ≡ r → (i : ℕ) → ((i : ℕ) → (x / 2 ≡ 0 → ⊥) → (has (x / 2) i && has (x / 2 - 1) i) ≡ (has (x / 2) i && not (eqb i (count_trailing_zeros k (x / 2))))) →
        (has x i && has (x - 1) i) ≡ (has x i && not (eqb i (under r (count_trailing_zeros k (x / 2)))))
    go zero e zero ih = simp (even x e)
    go zero e (suc i) ih =
        let s : (x - 1) / 2 ≡ x / 2 - 1 = omega arith in
        simp (half_has, s, eqb-suc-suc) (ih i (λ z. f (omega arith)))
    go (suc r) e zero ih =
        let s : (x - 1) % 2 ≡ 0 = omega arith in
        simp (even (x - 1) s)
    go (suc r) e (suc i) ih =
        let s : (x - 1) / 2 ≡ x / 2 = omega arith in
        simp (half_has, s, eqb-suc-zero) (twice (has (x / 2) i))

-- the first job of x, as the code counts it
pub first_is : (x : ℕ) → x < 2 ^ 64 → First x (count_trailing_zeros 64 x)
first_is x h = record { lowest = trailing_none 64 x; met = trailing_has 64 x h; none = λ e. rw e (trailing_of_zero 64) }

-- and no other
pub first_only : (x a b : ℕ) → First x a → First x b → a ≡ b
first_only x a b f g = ⊎_elim
    (λ some. let more : x ≡ 0 → ⊥ = λ e. omega arith in le_antisymm (le_by a b (λ l. under_first b g f more l)) (le_by b a (λ l. under_first a f g more l)))
    (λ l. let e : x ≡ 0 = omega arith in f.none e ∙ sym (g.none e))
    (le_or_lt 1 x)
  where
    under_first : {c : ℕ} (d : ℕ) → First x d → First x c → (x ≡ 0 → ⊥) → d < c → ⊥
    under_first d p q more l = subst T (q.lowest d l) (p.met more).1

-- x and one less than it, where 0 wraps, is x without its first job
pub rest_is : (x y : ℕ) → x < 2 ^ 64 → y < 2 ^ 64 → (y + 1) % 2 ^ 64 ≡ x → Rest x (bit_and x y)
rest_is x y hx hy e k f j = and_has x y j ∙ ⊎_elim
    (λ some.
    let less : y ≡ x - 1 = omega arith in
    rw (less, first_only x k (count_trailing_zeros 64 x) f (first_is x hx)) (lessened 64 x j hx (λ z. omega arith)))
    (λ l. let z : x ≡ 0 = omega arith in rw z (simp (empty_has j)))
    (le_or_lt 1 x)

-- A walk over a set, job by job: x without k is y.
module _ (x y k : ℕ) (w : Without x k y) where
  pub walk_sub : (j : ℕ) → T (has y j) → T (has x j)
  walk_sub j t = and_fst (has x j) (not (eqb j k)) (rw (w j) at t)

  pub walk_split : (j : ℕ) → T (has x j) → (j ≡ k) ⊎ T (has y j)
  walk_split j t = ⊎_elim (λ e. inl (eqb→eq j k e)) (λ f. inr (rw (w j) (and_pair (has x j) (not (eqb j k)) t (not_T (eqb j k) f)))) (test (eqb j k))

  pub walk_out : T (has y k) → ⊥
  walk_out t = T_not (eqb k k) (and_snd (has x k) (not (eqb k k)) (rw (w k) at t)) (eqb_refl k)

  walk_less : k < 64 → T (has x k) → count 64 (has y) < count 64 (has x)
  walk_less l t = count_lt 64 (has y) (has x) k l (λ j h. walk_sub j) t walk_out

  pub walk_one : k < 64 → T (has x k) → count 64 (has x) ≡ count 64 (has y) + 1
  walk_one l t =
      let but : count 64 (λ j. not (eqb j k) && has x j) ≤ count 64 (has y) = count_mono 64 (λ j. not (eqb j k) && has x j) (has y)
      (λ j h u. rw (w j) (and_pair (has x j) (not (eqb j k)) (and_snd (not (eqb j k)) (has x j) u) (and_fst (not (eqb j k)) (has x j) u))) in
      omega (arith, walk_less l t, count_but 64 (has x) k)

-- the walk over a set with its first job taken out is shorter
pub rest_less : (x y k : ℕ) → (x ≡ 0 → ⊥) → First x k → Rest x y → count 64 (has y) < count 64 (has x)
rest_less x y k some f r = walk_less x y k (r k f) (f.met some).0 (f.met some).1

-- sets apart have an empty meet
none_both : (a b : Bool) → (T a → T b → ⊥) → (a && b) ≡ false
none_both true true f = absurd (f tt tt)
none_both true false f = refl
none_both false b f = refl

pub apart_is : (x y : ℕ) → y < 2 ^ 64 → ((a : ℕ) → T (has x a) → T (has y a) → ⊥) → bit_and x y ≡ 0
apart_is x y h f = empty_is (bit_and x y) (omega (arith, and_le_r x y)) (λ j. and_has x y j ∙ none_both (has x j) (has y j) (f j))

pub apart_has : (x y : ℕ) → bit_and x y ≡ 0 → (a : ℕ) → T (has x a) → T (has y a) → ⊥
apart_has x y e a t u = has_some (bit_and x y) a (rw (and_has x y a) (and_pair (has x a) (has y a) t u)) e

-- a count of tests that fail from n on stops at n
pub count_cut : (n k : ℕ) (p q : ℕ → Bool) → n ≤ k → ((j : ℕ) → j < n → p j ≡ q j) → ((j : ℕ) → n ≤ j → p j ≡ false) → count k p ≡ count n q
unfolding count
count_cut n zero p q h f g = let e : n ≡ 0 = omega arith in rw e refl
count_cut n (suc k) p q h f g = go (dec_lt k n) (λ l. count_cut n k p q l f g)
  where
    go : Dec (k < n) → (n ≤ k → count k p ≡ count n q) → count (suc k) p ≡ count n q
    go (yes l) ih = let e : n ≡ suc k = omega arith in rw e (count_same (suc k) p q (λ j i. f j (omega arith)))
    go (no l) ih = unfold count in ap (λ (b : Bool). one b + count k p) (g k (omega arith)) ∙ (let e : 0 + count k p ≡ count n q = omega (arith, ih (omega arith)) in e)
