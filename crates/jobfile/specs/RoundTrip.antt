-- What is written is read back.
-- Assumes nothing.
use Rattle.std.specs.Prelude.{List, ◌≡◌, ℕ, length, take, replicate}
use Rattle.book.specs.Told.{Book, Told, nothing_listed}
use Rattle.jobfile.specs.Reader.{AfterRead, after_read}
use Rattle.jobfile.specs.Writer.{records_of, WritesBook}
use Rattle.jobfile.specs.File.{SingleReads}

-- the bytes that a call of write gave, cut to the value told and read into an empty book: each record is accepted, and the reading ends at their length with the same book (01, Job file)
abbrev pub ReadsBack : Book → Type 0
ReadsBack k = (old new : List ℕ) (v : ℕ) (e : Book) (numbers : List ℕ) (r : AfterRead) → WritesBook k old new 0 v → Told e nothing_listed → SingleReads (take v new) e 0 numbers r →
    (numbers ≡ replicate (length (records_of k)) 0) × (r ≡ after_read k v 255 0)
