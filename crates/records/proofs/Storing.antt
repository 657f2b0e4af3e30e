-- A record stored at an offset: it fits or not, one outcome, and it is found there.
-- Assumes nothing.
use mathlib.Core.Bool.{Bool, true, false, cond}
use mathlib.Core.List.{List}
use mathlib.Core.Path.{◌≡◌, refl, sym, ap, ◌∙◌}
use Prim.Native.Nat.{ℕ, ◌+◌, ◌≤◌, ◌<◌}
use native.Mathlib.Omega.{arith}
use borrow.Author.Tests.{le-leb, lt-leb}
use lib.ListN.{length}
use lib.Seq.{sets}
use Rattle.records.specs.declared.Record.{Record}
use Rattle.records.specs.Record.{bytes_of, length_of, Stands}
use Rattle.records.specs.Store.{Stores}
use Rattle.records.proofs.Standing.{length_six, stands_stored}

module _ (r : Record) (at : ℕ) (old : List ℕ) where
  pub stores_whole : (s : Record) (fits : Bool) (new : List ℕ) → at + 6 ≤ length old → r ≡ s → fits ≡ true → new ≡ sets old at (bytes_of s) → Stores r at old fits new
  stores_whole s fits new h e f g = record {
    answer = f ∙ sym (le-leb (at + length_of r) (length old) (omega (arith, length_six r)));
    bytes = rw (f, e) g;
  }

  pub stores_none : length old < at + 6 → Stores r at old false old
  stores_none h = record {
    answer = sym (lt-leb (at + length_of r) (length old) (omega (arith, length_six r)));
    bytes = refl;
  }

  -- one answer and one row of bytes
  pub stores_only : (a b : Bool) (new new' : List ℕ) → Stores r at old a new → Stores r at old b new' → (a ≡ b) × (new ≡ new')
  stores_only a b new new' x y =
      let same = x.answer ∙ sym y.answer in
      (same, x.bytes ∙ ap (λ fits. cond fits (sets old at (bytes_of r)) old) same ∙ sym y.bytes)

  -- where there is room, it is stored, and stands there
  pub stores_room : (fits : Bool) (new : List ℕ) → at + length_of r ≤ length old → Stores r at old fits new → (fits ≡ true) × (new ≡ sets old at (bytes_of r)) × Stands new at r
  stores_room fits new h x =
      let taken : fits ≡ true = x.answer ∙ le-leb (at + length_of r) (length old) h in
      let bytes : new ≡ sets old at (bytes_of r) = x.bytes ∙ ap (λ b. cond b (sets old at (bytes_of r)) old) taken in
      (taken, bytes, rw bytes (stands_stored old at r h))
