-- A byte order mark at the beginning of a text.
-- Assumes nothing.
use mathlib.Core.Bool.{cond}
use mathlib.Core.List.{List, [], ◌∷◌}
use mathlib.Core.Path.{◌≡◌, refl}
use native.Mathlib.Omega.{arith}
use Prim.Native.Nat.{ℕ}
use lib.Dec.{eqb}
use Rattle.std.specs.List.{starts_with}
use Rattle.std.proofs.lemmas.Bool.Decides.{nat_tests}
use Rattle.keying.specs.Text.{begin}

swap : (a b : ℕ) → eqb a b ≡ eqb b a
swap a b = grind (arith, nat_tests)

-- the test of the three bytes is the test of the beginning
pub begin_starts : (text : List ℕ) → begin text ≡ cond (starts_with eqb text (0xEF ∷ 0xBB ∷ 0xBF ∷ [])) 3 0
unfolding begin
begin_starts [] = refl
begin_starts (a ∷ []) = grind (arith, nat_tests)
begin_starts (a ∷ b ∷ []) = grind (arith, nat_tests)
begin_starts (a ∷ b ∷ c ∷ text) = grind (arith, nat_tests)
