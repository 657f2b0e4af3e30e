-- The laws of a table of checks, each by induction on the checks, once for all tables.
-- Assumes nothing.
use mathlib.Core.Logic.{inl, inr}
use mathlib.Core.Path.{◌≡◌, refl, sym, subst, ◌∙◌}
use Prim.Native.Nat.{ℕ, ◌≤◌, ◌<◌}
use native.Mathlib.Omega.{arith}
use native.Mathlib.Nat.{le_antisymm}
use native.Mathlib.Decide.{dec_le}
use Rattle.refusal.specs.Table.{Checks, check, ◌then◌, places, Clear, Refuses, Among, Table, refused, passed, One}

-- a number that is not above another
le_by : (a b : ℕ) → (b < a → ⊥) → a ≤ b
le_by a b f = go (dec_le a b)
  where
    go : Dec (a ≤ b) → a ≤ b
    go (yes h) = h
    go (no h) = absurd (f (omega arith))

-- ---- one outcome
-- checks that refuse are not clear
pub refuses_not_clear : (checks : Checks) (n v : ℕ) → Refuses checks n v → Clear checks → ⊥
refuses_not_clear (check number value fault) n v x free = free x.0
refuses_not_clear (a then b) n v (inl x) free = refuses_not_clear a n v x free.0
refuses_not_clear (a then b) n v (inr x) free = refuses_not_clear b n v x.1 free.1
refuses_not_clear (places m at) n v x free = refuses_not_clear (at x.0) n v x.3 (free x.0 x.1)

-- one number and value at most
pub refuses_one : (checks : Checks) (n v m w : ℕ) → Refuses checks n v → Refuses checks m w → (n ≡ m) × (v ≡ w)
refuses_one (check number value fault) n v m w x y = (x.1 ∙ sym y.1, x.2 ∙ sym y.2)
refuses_one (a then b) n v m w (inl x) (inl y) = refuses_one a n v m w x y
refuses_one (a then b) n v m w (inl x) (inr y) = absurd (refuses_not_clear a n v x y.0)
refuses_one (a then b) n v m w (inr x) (inl y) = absurd (refuses_not_clear a m w y x.0)
refuses_one (a then b) n v m w (inr x) (inr y) = refuses_one b n v m w x.1 y.1
refuses_one (places k at) n v m w x y =
    let same : x.0 ≡ y.0 = le_antisymm (le_by _ _ (λ l. refuses_not_clear (at y.0) m w y.3 (x.2 y.0 l))) (le_by _ _ (λ l. refuses_not_clear (at x.0) n v x.3 (y.2 x.0 l))) in
    refuses_one (at x.0) n v m w x.3 (subst (λ i. Refuses (at i) m w) (sym same) y.3)

pub table_one : {A : Type 0} (checks : Checks) (refuse : ℕ → ℕ → A → Type 0) (next : A → Type 0) → ((n v : ℕ) → One (refuse n v)) → One next → One (Table checks refuse next)
table_one checks refuse next each one r s (refused n v x a) (refused m w y b) = let same = refuses_one checks n v m w x y in each n v r s a (rw (same.0, same.1) b)
table_one checks refuse next each one r s (refused n v x a) (passed y b) = absurd (refuses_not_clear checks n v x y)
table_one checks refuse next each one r s (passed x a) (refused m w y b) = absurd (refuses_not_clear checks m w y x)
table_one checks refuse next each one r s (passed x a) (passed y b) = one r s a b

-- ---- the numbers of a table
-- a refusal has a number of the table
pub refuses_among : (checks : Checks) (n v : ℕ) → Refuses checks n v → Among checks n
refuses_among (check number value fault) n v x = x.1
refuses_among (a then b) n v (inl x) = inl (refuses_among a n v x)
refuses_among (a then b) n v (inr x) = inr (refuses_among b n v x.1)
refuses_among (places m at) n v x = (x.0, x.1, refuses_among (at x.0) n v x.3)

-- what holds of every number of the table
abbrev pub Each : (ℕ → Type 0) → Checks → Type 0
Each P (check number value fault) = P number
Each P (a then b) = Each P a × Each P b
Each P (places m at) = (i : ℕ) → Each P (at i)

pub each_map : (P Q : ℕ → Type 0) (checks : Checks) → ((n : ℕ) → P n → Q n) → Each P checks → Each Q checks
each_map P Q (check number value fault) f x = f number x
each_map P Q (a then b) f x = (each_map P Q a f x.0, each_map P Q b f x.1)
each_map P Q (places m at) f x = λ i. each_map P Q (at i) f (x i)

pub among_each : (P : ℕ → Type 0) (checks : Checks) (n : ℕ) → Each P checks → Among checks n → P n
among_each P (check number value fault) n each x = rw x each
among_each P (a then b) n each (inl x) = among_each P a n each.0 x
among_each P (a then b) n each (inr x) = among_each P b n each.1 x
among_each P (places m at) n each x = among_each P (at x.0) n (each x.0) x.2

pub refuses_each : (P : ℕ → Type 0) (checks : Checks) (n v : ℕ) → Each P checks → Refuses checks n v → P n
refuses_each P checks n v each x = among_each P checks n each (refuses_among checks n v x)

-- a number that the first checks do not have is given by those that follow
pub refuses_past : (a b : Checks) (n v : ℕ) → Each (λ m. n ≡ m → ⊥) a → Refuses (a then b) n v → Clear a × Refuses b n v
refuses_past a b n v other (inl x) = absurd (refuses_each (λ m. n ≡ m → ⊥) a n v other x refl)
refuses_past a b n v other (inr x) = x

-- ---- what a table tells
module _ {A : Type 0} (checks : Checks) (refuse : ℕ → ℕ → A → Type 0) (next : A → Type 0) (r : A) where
  -- where no check finds its fault, what follows
  pub table_free : Clear checks → Table checks refuse next r → next r
  table_free free (refused n v x a) = absurd (refuses_not_clear checks n v x free)
  table_free free (passed x a) = a

  -- where one is the first to find its fault, its refusal
  pub table_caught : (n v : ℕ) → Refuses checks n v → Table checks refuse next r → refuse n v r
  table_caught n v x (refused m w y a) = let same = refuses_one checks n v m w x y in rw (same.0, same.1) a
  table_caught n v x (passed y a) = absurd (refuses_not_clear checks n v x y)

  -- a result that no number of the table refuses has passed all checks
  pub table_past : ((n v : ℕ) → Among checks n → refuse n v r → ⊥) → Table checks refuse next r → Clear checks × next r
  table_past f (refused n v x a) = absurd (f n v (refuses_among checks n v x) a)
  table_past f (passed x a) = (x, a)

  -- a result that what follows does not give was refused, by the first check that found its fault
  pub table_refused : (next r → ⊥) → Table checks refuse next r → (n : ℕ) × (v : ℕ) × Refuses checks n v × refuse n v r
  table_refused f (refused n v x a) = (n, v, x, a)
  table_refused f (passed x a) = absurd (f a)

  -- what holds of every refusal by a number of the table, and of what follows
  pub table_all : (P : Type 0) → ((n v : ℕ) → Among checks n → refuse n v r → P) → (next r → P) → Table checks refuse next r → P
  table_all P f g (refused n v x a) = f n v (refuses_among checks n v x) a
  table_all P f g (passed x a) = g a

-- ---- checks and then others: a table whose next is a table
module _ {A : Type 0} (a b : Checks) (refuse : ℕ → ℕ → A → Type 0) (next : A → Type 0) (r : A) where
  pub table_nested : Table (a then b) refuse next r → Table a refuse (Table b refuse next) r
  table_nested (refused n v (inl x) y) = refused n v x y
  table_nested (refused n v (inr x) y) = passed x.0 (refused n v x.1 y)
  table_nested (passed x y) = passed x.0 (passed x.1 y)

  pub table_flat : Table a refuse (Table b refuse next) r → Table (a then b) refuse next r
  table_flat (refused n v x y) = refused n v (inl x) y
  table_flat (passed x (refused n v y z)) = refused n v (inr (x, y)) z
  table_flat (passed x (passed y z)) = passed (x, y) z

  -- past the first checks, the rest decide
  pub table_then : Clear a → Table b refuse next r → Table (a then b) refuse next r
  table_then x y = table_flat (passed x y)

  -- a refusal by a number that the first checks do not have: they are clear, and the rest give it
  pub table_last : (n : ℕ) → Each (λ m. n ≡ m → ⊥) a → ((m w : ℕ) → refuse m w r → m ≡ n) → (next r → ⊥) → Table (a then b) refuse next r → (w : ℕ) × Clear a × Refuses b n w
  table_last n other same f (refused m w x y) = let z = refuses_past a b n w other (subst (λ m. Refuses (a then b) m w) (same m w y) x) in (w, z.0, z.1)
  table_last n other same f (passed x y) = absurd (f y)

-- the same, for the proofs of the code, where the goal says the checks
pub then_table : {A : Type 0} {a b : Checks} {refuse : ℕ → ℕ → A → Type 0} {next : A → Type 0} {r : A} → Clear a → Table b refuse next r → Table (a then b) refuse next r
then_table {A} {a} {b} {refuse} {next} {r} x y = table_then a b refuse next r x y

-- where the first checks are clear, the rest decide
pub table_rest : {A : Type 0} {a b : Checks} {refuse : ℕ → ℕ → A → Type 0} {next : A → Type 0} {r : A} → Clear a → Table (a then b) refuse next r → Table b refuse next r
table_rest {A} {a} {b} {refuse} {next} {r} x y = table_free a refuse (Table b refuse next) r x (table_nested a b refuse next r y)
