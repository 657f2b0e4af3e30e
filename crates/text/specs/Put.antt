-- Text put into lent bytes.
-- Assumes nothing.
use Rattle.std.specs.Prelude.{List, ◌≡◌, ℕ, ◌+◌, ◌-◌, length, take}
use Rattle.std.proofs.lemmas.List.Edits.{sets}
use Rattle.text.specs.declared.Page.{Page}

-- as much of the text as there is room for from the place on
abbrev pub fitting : List ℕ → ℕ → List ℕ → List ℕ
fitting text at out = take (length out - at) text

-- that much stands from the place on, every other byte stays, and the next place is behind it
pub record Puts (text : List ℕ) (at : ℕ) (old new : List ℕ) (next : ℕ) : Type 0 where
  pub bytes : new ≡ sets old at (fitting text at old)
  pub behind : next ≡ at + length (fitting text at old)

-- a page with a text more: it is put at the page's place, and the bytes are still those that were lent
pub record Adds (text : List ℕ) (from to : Page) : Type 0 where
  pub puts : Puts text from.at from.out.now to.out.now to.at
  pub lent : to.out.ghost_name ≡ from.out.ghost_name
