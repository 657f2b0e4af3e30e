-- What is told of the place of a job, in numbers.
-- Assumes nothing.
use Rattle.std.specs.Prelude.{List, [], ◌∷◌, ℕ, Result, Ok, Err}
use Rattle.refusal.specs.declared.Refusal.{Refusal}
use Rattle.refusal.specs.Says.{reason_number}
use Rattle.plan.specs.declared.placed.Place.{Place}

-- the values of a place (01, The plan made: "its slot, its core, its end (slot + 1) and its spare")
abbrev pub values_of : Place → List ℕ
values_of place = place.slot.0 ∷ place.core.0 ∷ place.end ∷ place.spare ∷ []

-- the number and values of every case, of which a promise says P; the number of a refusal is its reason's, which is not 0 (01, Code places: "a definition gives this paper's number and values for every case of the enum")
abbrev pub Sites : Result Place Refusal → (ℕ → List ℕ → Type 0) → Type 0
Sites (Ok place) P = P 0 (values_of place)
Sites (Err refusal) P = P (reason_number refusal.reason) (refusal.value ∷ [])
