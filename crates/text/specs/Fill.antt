-- A pattern with its values filled in.
-- Assumes nothing.
use Rattle.std.specs.Prelude.{cond, List, [], ◌∷◌, ◌++◌, ℕ, ltb, length, get_or}
use Rattle.text.specs.Text.{decimal}

-- a byte of the pattern: below the number of values it stands for the value of that place, else for itself
abbrev pub piece : List ℕ → ℕ → List ℕ
piece values byte = cond (ltb byte (length values)) (decimal (get_or values byte 0)) (byte ∷ [])

abbrev pub filled : List ℕ → List ℕ → List ℕ
filled values [] = []
filled values (byte ∷ pattern) = piece values byte ++ filled values pattern
