-- Bytes as they are written: idle cores first, then each job at its seat.
-- Assumes nothing.
use Rattle.std.specs.Prelude.{List, ℕ, zero, suc, ◌+◌, ◌*◌, ◌≤◌, ◌<◌, length, get_or, set}
use Rattle.book.specs.Told.{cores}
use Rattle.plan.specs.Inner.Layout.{core_in}

-- the bytes once the jobs below n have theirs
unfoldable pub seated : List ℕ → ℕ → ℕ → List ℕ → List ℕ
seated slot on_1 zero out = out
seated slot on_1 (suc n) out = set (seated slot on_1 n out) (cores * get_or slot n 0 + core_in on_1 n) n

-- every seat is among the bytes lent
pub record Writable (size : ℕ) (slot out : List ℕ) : Type 0 where
  pub few : size ≤ 64
  pub room : (i : ℕ) → i < size → cores * get_or slot i 0 + 1 < length out
