-- Patterns filled in, and texts one behind the other by their number.
-- Assumes nothing.
use mathlib.Core.List.{List, [], ◌∷◌, ◌++◌, append_assoc, append-nil}
use mathlib.Core.Path.{◌≡◌, refl, sym, ap, ◌∙◌}
use Prim.Native.Nat.{ℕ, zero, suc, ◌+◌, ◌*◌, ◌≤◌, ◌<◌}
use native.Mathlib.Nat.{suc-mul}
use native.Mathlib.Numerals.{add-one}
use native.Mathlib.Omega.{arith}
use lib.ListN.{length, get_or, take, length-append}
use lib.Seq.{take-suc}
use Rattle.text.specs.Text.{each}
use Rattle.text.specs.Fill.{piece, filled}
use Rattle.text.specs.Put.{Adds}
use Rattle.text.specs.declared.Page.{Page}
use Rattle.text.proofs.Putting.{adds_none, adds_then}

-- ---- patterns
filled_append : (values p q : List ℕ) → filled values (p ++ q) ≡ filled values p ++ filled values q
filled_append values [] q = refl
filled_append values (byte ∷ p) q = ap (λ l. piece values byte ++ l) (filled_append values p q) ∙ sym (append_assoc (piece values byte) (filled values p) (filled values q))

-- one byte of the pattern more
pub filled_next : (values pattern : List ℕ) (i : ℕ) → i < length pattern → filled values (take (i + 1) pattern) ≡ filled values (take i pattern) ++ piece values (get_or pattern i 0)
filled_next values pattern i h =
    rw (add-one, take-suc pattern i 0) (filled_append values (take i pattern) (get_or pattern i 0 ∷ []) ∙ rw append-nil)

-- ---- by their number
-- none yet, and one more: a loop that puts the text of 0, 1, 2..
module _ (text : ℕ → List ℕ) where
  pub each_none : (page : Page) → Adds (each 0 text) page page
  unfolding each
  each_none page = adds_none page

  pub each_next : {i : ℕ} {a b c : Page} → Adds (each i text) a b → Adds (text i) b c → Adds (each (i + 1) text) a c
  unfolding each
  each_next p q = rw add-one (adds_then p q)

-- no longer than its parts
pub each_short : (k n : ℕ) (text : ℕ → List ℕ) → ((i : ℕ) → i < n → length (text i) ≤ k) → length (each n text) ≤ n * k
unfolding each
each_short k zero text h = omega arith
each_short k (suc n) text h =
    omega (arith, length-append (each n text) (text n), suc-mul n k, h n (omega arith), each_short k n text (λ i l. h i (omega arith)))
