-- What an answer says: one number and one value, which no other answer says.
-- Assumes nothing.
use mathlib.Core.Path.{◌≡◌, refl, sym, ap, ap₂, ◌∙◌}
use Prim.Native.Nat.{ℕ, ◌≤◌}
use native.Mathlib.Omega.{arith}
use Rattle.std.specs.Prelude.{cond, eqb, Result, Ok, Err}
use Rattle.refusal.specs.declared.Reason.{Reason}
use Rattle.refusal.specs.declared.Reason.TheVariants.{TooManyJobs, OutOfRange, NoSlot, NoPlan, NotHeld, Loop, Uneven, NoRoom, FileTooLong, UnknownMark, CutShort, SecondNotHeld, BeforeItself, NoJobs}
use Rattle.refusal.specs.declared.Refusal.{Refusal}
use Rattle.refusal.specs.Says.{Says, reason_number, refused_by, number_of, value_of}

-- ---- the numbers of the reasons
-- from 1 to 14
pub number_within : (r : Reason) → (1 ≤ reason_number r) × (reason_number r ≤ 14)
number_within TooManyJobs = (omega arith, omega arith)
number_within OutOfRange = (omega arith, omega arith)
number_within NoSlot = (omega arith, omega arith)
number_within NoPlan = (omega arith, omega arith)
number_within NotHeld = (omega arith, omega arith)
number_within Loop = (omega arith, omega arith)
number_within Uneven = (omega arith, omega arith)
number_within NoRoom = (omega arith, omega arith)
number_within FileTooLong = (omega arith, omega arith)
number_within UnknownMark = (omega arith, omega arith)
number_within CutShort = (omega arith, omega arith)
number_within SecondNotHeld = (omega arith, omega arith)
number_within BeforeItself = (omega arith, omega arith)
number_within NoJobs = (omega arith, omega arith)

-- the reason of a number from 1 to 14
abbrev reason_of : ℕ → Reason
reason_of n =
    cond (eqb n 1) TooManyJobs
    (cond (eqb n 2) OutOfRange
    (cond (eqb n 3) NoSlot
    (cond (eqb n 4) NoPlan
    (cond (eqb n 5) NotHeld
    (cond (eqb n 6) Loop
    (cond (eqb n 7) Uneven
    (cond (eqb n 8) NoRoom
    (cond (eqb n 9) FileTooLong
    (cond (eqb n 10) UnknownMark
    (cond (eqb n 11) CutShort
    (cond (eqb n 12) SecondNotHeld
    (cond (eqb n 13) BeforeItself NoJobs))))))))))))

reason_of_number : (r : Reason) → reason_of (reason_number r) ≡ r
reason_of_number TooManyJobs = refl
reason_of_number OutOfRange = refl
reason_of_number NoSlot = refl
reason_of_number NoPlan = refl
reason_of_number NotHeld = refl
reason_of_number Loop = refl
reason_of_number Uneven = refl
reason_of_number NoRoom = refl
reason_of_number FileTooLong = refl
reason_of_number UnknownMark = refl
reason_of_number CutShort = refl
reason_of_number SecondNotHeld = refl
reason_of_number BeforeItself = refl
reason_of_number NoJobs = refl

-- a number is of one reason
pub number_one : (r s : Reason) → reason_number r ≡ reason_number s → r ≡ s
number_one r s e = sym (reason_of_number r) ∙ ap reason_of e ∙ reason_of_number s

-- ---- answers
-- in numbers
pub says_told : (P : ℕ → ℕ → Type 0) (a : Result ℕ Refusal) → Says a P → P (number_of a) (value_of a)
says_told P (Ok v) x = x
says_told P (Err r) x = x

-- what follows of the number and the value
pub says_more : (P Q : ℕ → ℕ → Type 0) (a : Result ℕ Refusal) → ((n v : ℕ) → P n v → Q n v) → Says a P → Says a Q
says_more P Q (Ok v) f x = f 0 v x
says_more P Q (Err r) f x = f (reason_number r.reason) r.value x

-- where a promise leaves one number and one value, it leaves one answer
pub says_only : (P Q : ℕ → ℕ → Type 0) (a b : Result ℕ Refusal) → ((n v m w : ℕ) → P n v → Q m w → (n ≡ m) × (v ≡ w)) → Says a P → Says b Q → a ≡ b
says_only P Q (Ok v) (Ok w) one x y = ap Ok (one 0 v 0 w x y).1
says_only P Q (Ok v) (Err s) one x y = absurd (omega (arith, (one 0 v _ _ x y).0, (number_within s.reason).0))
says_only P Q (Err r) (Ok w) one x y = absurd (omega (arith, (one _ _ 0 w x y).0, (number_within r.reason).0))
says_only P Q (Err r) (Err s) one x y = let same = one _ _ _ _ x y in ap Err (ap₂ refused_by (number_one r.reason s.reason same.0) same.1)
