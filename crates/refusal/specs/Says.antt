-- An answer's number and value, and the class of a number (01, Numbers of refusal).
-- Assumes nothing.
use Rattle.std.specs.Prelude.{ℕ, cond, ◌||◌, eqb, Option, Some, None, Result, Ok, Err}
use Rattle.refusal.specs.declared.Reason.{Reason}
use Rattle.refusal.specs.declared.Reason.TheVariants.{TooManyJobs, OutOfRange, NoSlot, NoPlan, NotHeld, Loop, Uneven, NoRoom, FileTooLong, UnknownMark, CutShort, SecondNotHeld, BeforeItself, NoJobs}
use Rattle.refusal.specs.declared.Refusal.{Refusal}
use Rattle.refusal.specs.declared.Class.{Class}
use Rattle.refusal.specs.declared.Class.TheVariants.{Room, Request, Plan, Form}

-- the number of a reason; none is 0 (01, Numbers of refusal)
abbrev pub reason_number : Reason → ℕ
reason_number TooManyJobs = 1
reason_number OutOfRange = 2
reason_number NoSlot = 3
reason_number NoPlan = 4
reason_number NotHeld = 5
reason_number Loop = 6
reason_number Uneven = 7
reason_number NoRoom = 8
reason_number FileTooLong = 9
reason_number UnknownMark = 10
reason_number CutShort = 11
reason_number SecondNotHeld = 12
reason_number BeforeItself = 13
reason_number NoJobs = 14

-- a refusal by its two parts
abbrev pub refused_by : Reason → ℕ → Refusal
refused_by reason value = record { reason = reason; value = value }

-- the number and the value of every answer, of which a promise says P: accepted is 0 and what is answered, refused is the reason's number, which is not 0, and what is returned with it (01, Code places: "a definition gives this paper's number and values for every case of the enum")
abbrev pub Says : Result ℕ Refusal → (ℕ → ℕ → Type 0) → Type 0
Says (Ok value) P = P 0 value
Says (Err refusal) P = P (reason_number refusal.reason) refusal.value

-- the number, and 0 where nothing is refused; and the value, answered or returned with the refusal
module _ {R : Type 0} where
  abbrev pub number_by : (R → ℕ) → Result ℕ R → ℕ
  number_by told (Ok value) = 0
  number_by told (Err refusal) = told refusal

  abbrev pub value_by : (R → ℕ) → Result ℕ R → ℕ
  value_by told (Ok value) = value
  value_by told (Err refusal) = told refusal

abbrev pub number_of : Result ℕ Refusal → ℕ
number_of = number_by (λ refusal. reason_number refusal.reason)

abbrev pub value_of : Result ℕ Refusal → ℕ
value_of = value_by (λ refusal. refusal.value)

-- "room 1, 8, 9; request 2, 3, 5, 6; plan 4; form 7, 10, 11; every other number has class none"; 12, 13, "both of class request" (02, A1); "14 .. class form" (02, A2)
abbrev pub class_of : ℕ → Option Class
class_of n =
    cond (eqb n 1 || eqb n 8 || eqb n 9) (Some Room)
    (cond (eqb n 2 || eqb n 3 || eqb n 5 || eqb n 6 || eqb n 12 || eqb n 13) (Some Request)
    (cond (eqb n 4) (Some Plan)
    (cond (eqb n 7 || eqb n 10 || eqb n 11 || eqb n 14) (Some Form) None)))
