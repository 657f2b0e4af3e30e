-- Whether memory holds a book.
-- Assumes nothing.
use Rattle.std.specs.Prelude.{◌⊎◌, ◌≡◌, ℕ}
use Rattle.book.specs.Told.{Book, Made}

-- 1 exactly where the book was made by requests, else 0 (01, Requests on a book: "made by these requests alone")
abbrev pub TellsBook : Book → ℕ → Type 0
TellsBook k r = ((r ≡ 1) × Made k) ⊎ ((r ≡ 0) × (Made k → ⊥))
