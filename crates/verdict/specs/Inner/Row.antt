-- What a row of numbers promises.
-- Assumes nothing.
use Rattle.std.specs.Prelude.{Bool, true, false, List, ◌≡◌, ℕ, min, ◌≤◌, ◌<◌, length, get_or, set}

-- the lesser of an entry and a limit stands in its place; a row that has no such place stays
abbrev pub Lowered : List ℕ → ℕ → ℕ → List ℕ → Bool → Type 0
Lowered old place limit new true = (place < length old) × (new ≡ set old place (min (get_or old place 0) limit))
Lowered old place limit new false = (length old ≤ place) × (new ≡ old)
