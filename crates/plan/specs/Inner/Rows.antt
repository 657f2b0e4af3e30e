-- The rows of a book, as the private functions have them.
-- Assumes nothing.
use Rattle.book.specs.Told.{Book}
use Rattle.plan.specs.declared.rows.Rows.{Rows}

-- the book that they are of
abbrev pub told_by : Rows → Book
told_by r = record { size = r.size; start = r.start.now; latest = r.latest.now; before = r.before.now }
