-- A span of a plan (01, The plan made).
-- Assumes nothing.
use Rattle.std.specs.Prelude.{cond, ◌&&◌, List, [], ℕ, ◌-◌, ◌*◌, leb, length, take, drop}
use Rattle.book.specs.Told.{cores}

-- (01, The plan made: "from slot a up to but not including b .. the empty part if a > b or 2b is more than the bytes lent")
abbrev pub span_of : List ℕ → ℕ → ℕ → List ℕ
span_of plan a b = cond (leb a b && leb (cores * b) (length plan)) (take (cores * b - cores * a) (drop (cores * a) plan)) []
