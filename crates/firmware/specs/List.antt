-- How late a list is, in a lent number; a class as a number.
-- Assumes nothing.
use Rattle.std.specs.Prelude.{cond, List, ◌≡◌, ℕ, eqb, ℤ, pos, Option, Some, None}
use Rattle.planner.specs.Late.{Latens}
use Rattle.refusal.specs.declared.Class.{Class}
use Rattle.refusal.specs.declared.Class.TheVariants.{Room, Request, Plan, Form}

-- the lateness, and 0 with it; a refusal leaves the lateness lent as it was (01, Numbers of refusal: "leave .. lent memory untouched")
pub record FindsLateness (starts deadlines pairs : List ℕ) (old new : ℤ) (number answer : ℕ) : Type 0 where
  pub value : ℤ
  pub latens : Latens starts deadlines pairs number value
  pub late : new ≡ cond (eqb number 0) value old
  pub answers : pos answer ≡ cond (eqb number 0) (pos 0) value

-- (01, Numbers of refusal: "Each number has a class")
abbrev pub class_number : Option Class → ℕ
class_number None = 0
class_number (Some Room) = 1
class_number (Some Request) = 2
class_number (Some Plan) = 3
class_number (Some Form) = 4
