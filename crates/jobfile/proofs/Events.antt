-- What an event tells: one number and one value, which no other event tells.
-- Assumes nothing.
use mathlib.Core.Bool.{Bool, true, false, not, ◌||◌}
use mathlib.Core.Path.{◌≡◌, refl, sym, ap, ap₂, subst}
use Prim.Native.Nat.{ℕ}
use lib.Dec.{T, eqb}
use Rattle.std.specs.Prelude.{Some, None, Result, Ok, Err}
use Rattle.refusal.proofs.Says.{number_one, says_only, says_more, says_told}
use Rattle.refusal.specs.Says.{Says, reason_number, refused_by}
use Rattle.refusal.specs.declared.Refusal.{Refusal}
use Rattle.jobfile.specs.Reader.{stops, halts, ReadEvent, Tells, event_number, event_value}

-- a test and its opposite
pub never : (b : Bool) → T b → T (not b) → ⊥
never true x y = y
never false x y = x

stops_halts : (n : ℕ) → T (stops n) → T (halts n)
stops_halts n x = go (eqb n 255) (stops n) x
  where
    go : (a b : Bool) → T b → T (a || b)
    go true b y = tt
    go false b y = y

-- the end is no stop
end_no_stop : (n : ℕ) → n ≡ 255 → T (stops n) → ⊥
end_no_stop n e x = rw e at x

-- what follows of the number and the value
pub tells_more : (P Q : ℕ → ℕ → Type 0) (r : ReadEvent) → ((n v : ℕ) → P n v → Q n v) → Tells r P → Tells r Q
tells_more P Q (Ok (Some a)) f x = says_more _ _ a (λ n v y. (y.0, f n v y.1)) x
tells_more P Q (Ok None) f x = f 255 0 x
tells_more P Q (Err e) f x = (x.0, f (reason_number e.reason) e.value x.1)

-- at the end, and at a stop
pub tells_end : (P Q : ℕ → ℕ → Type 0) (r : ReadEvent) → r ≡ Ok None → (P 255 0 → Q 255 0) → Tells r P → Tells r Q
tells_end P Q r e f x = rw e (f (rw e at x))

pub tells_stop : (P Q : ℕ → ℕ → Type 0) (r : ReadEvent) (stop : Refusal) → r ≡ Err stop → ((n v : ℕ) → T (halts n) → P n v → Q n v) → Tells r P → Tells r Q
tells_stop P Q r stop e f x = rw e (let y = rw e at x in (y.0, f (reason_number stop.reason) stop.value (stops_halts (reason_number stop.reason) y.0) y.1))

-- in numbers
pub tells_told : (P : ℕ → ℕ → Type 0) (r : ReadEvent) → Tells r P → P (event_number r) (event_value r)
tells_told P (Ok (Some a)) x = (says_told _ a x).1
tells_told P (Ok None) x = x
tells_told P (Err e) x = x.1

-- where a promise leaves one number and one value, it leaves one event
module _ (P Q : ℕ → ℕ → Type 0) (one : (n v m w : ℕ) → P n v → Q m w → (n ≡ m) × (v ≡ w)) where
  halted : (a : Result ℕ Refusal) (m w : ℕ) → T (halts m) → Says a (λ n v. T (not (halts n)) × P n v) → Q m w → ⊥
  halted a m w h x y = let z = says_told _ a x in never (halts m) h (subst (λ n. T (not (halts n))) (one _ _ m w z.1 y).0 z.0)

  halted_back : (a : Result ℕ Refusal) (m w : ℕ) → T (halts m) → Says a (λ n v. T (not (halts n)) × Q n v) → P m w → ⊥
  halted_back a m w h x y = let z = says_told _ a x in never (halts m) h (subst (λ n. T (not (halts n))) (sym (one m w _ _ y z.1).0) z.0)

  pub tells_only : (r s : ReadEvent) → Tells r P → Tells s Q → r ≡ s
  tells_only (Ok (Some a)) (Ok (Some b)) x y = ap (λ answer. Ok (Some answer)) (says_only _ _ a b (λ n v m w p q. one n v m w p.1 q.1) x y)
  tells_only (Ok (Some a)) (Ok None) x y = absurd (halted a 255 0 tt x y)
  tells_only (Ok (Some a)) (Err f) x y = absurd (halted a (reason_number f.reason) f.value (stops_halts (reason_number f.reason) y.0) x y.1)
  tells_only (Ok None) (Ok (Some b)) x y = absurd (halted_back b 255 0 tt y x)
  tells_only (Ok None) (Ok None) x y = refl
  tells_only (Ok None) (Err f) x y = absurd (end_no_stop (reason_number f.reason) (sym (one 255 0 _ _ x y.1).0) y.0)
  tells_only (Err e) (Ok (Some b)) x y = absurd (halted_back b (reason_number e.reason) e.value (stops_halts (reason_number e.reason) x.0) y x.1)
  tells_only (Err e) (Ok None) x y = absurd (end_no_stop (reason_number e.reason) (one _ _ 255 0 x.1 y).0 x.0)
  tells_only (Err e) (Err f) x y = let same = one _ _ _ _ x.1 y.1 in ap Err (ap₂ refused_by (number_one e.reason f.reason same.0) same.1)
