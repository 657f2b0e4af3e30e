-- A verdict's text on a page.
-- Assumes nothing.
use Rattle.std.specs.Prelude.{List, ℕ, ◌≤◌, length}
use Rattle.text.specs.declared.Page.{Page}
use Rattle.text.specs.Put.{Adds}

-- a page with a text of some kind more, of at most 80 bytes
pub record AddsShort (Kind : List ℕ → Type 0) (from to : Page) : Type 0 where
  pub text : List ℕ
  pub kind : Kind text
  pub short : length text ≤ 80
  pub adds : Adds text from to
