-- The empty book.
-- Assumes nothing.
use mathlib.Core.Path.{◌≡◌, refl}
use Prim.Native.Nat.{ℕ, zero, suc}
use native.Mathlib.Omega.{arith}
use lib.ListN.{get_or, replicate}
use Rattle.schedule.proofs.Book.{holds_nothing}
use Rattle.sets.proofs.Bits.{empty_has}
use Rattle.book.specs.Told.{part, book_in, Told, nothing_listed}

pub zeros : (n i : ℕ) → ◌≡◌ {A = ℕ} (get_or (replicate n 0) i 0) 0
zeros zero i = refl
zeros (suc n) zero = refl
zeros (suc n) (suc i) = zeros n i

nothing : Told (record { size = 0; start = replicate 64 0; latest = replicate 64 0; before = replicate 64 0 }) nothing_listed
nothing = record {
  shaped = record {
    few = omega arith;
    starts = refl;
    latests = refl;
    befores = refl;
    start_rest = λ i l. zeros 64 i;
    latest_rest = λ i l. zeros 64 i;
    before_rest = λ a b t. absurd (rw (zeros 64 b, empty_has a) at t);
  };
  limited = record { start = λ i l. absurd (omega arith); deadline = λ i l. absurd (omega arith) };
  holds = holds_nothing 2 _ _ refl;
}

pub told_nothing : Told (book_in (replicate 129 0) (replicate 64 0)) nothing_listed
unfolding part
told_nothing = nothing
