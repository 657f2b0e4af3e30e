-- What checks leave: nothing, or the refusal of the first that finds its fault.
-- Assumes nothing.
use Rattle.std.specs.Prelude.{ℕ, Result, Ok, Err}
use Rattle.refusal.specs.declared.Reason.{Reason}
use Rattle.refusal.specs.declared.Refusal.{Refusal}
use Rattle.refusal.specs.Says.{reason_number, refused_by}
use Rattle.refusal.specs.Table.{Checks, Clear, Refuses}

-- Ok where no check finds its fault, else the number and the value of the first that does
abbrev pub Passes : {A : Type 0} → Checks → Result A Refusal → Type 0
Passes checks (Ok x) = Clear checks
Passes checks (Err refusal) = Refuses checks (reason_number refusal.reason) refusal.value

-- a reason, with the place where it was found
abbrev pub at_place : {A : Type 0} → ℕ → Result A Reason → Result A Refusal
at_place place (Ok x) = Ok x
at_place place (Err reason) = Err (refused_by reason place)
