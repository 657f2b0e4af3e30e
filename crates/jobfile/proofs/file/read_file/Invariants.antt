-- `jobfile::file::read_file` meets its contract. The invariant: the numbers of the records read are stored, and what is read from here on is the rest.
use Prim.Native.Nat.{◌-◌}
use lib.ListN.{length}
use Rattle.book.specs.Told.{book_in}
use Rattle.jobfile.specs.Inner.File.{Underway}
use Rattle.jobfile.proofs.file.read_file.Given as goal

abbrev pub invariant-loop-answer : goal.invariant-loop-answer
invariant-loop-answer l = Underway (book_in l.initial.times l.initial.before) l.file l.initial.answers l.answers (book_in l.times l.before) l.at l.records

abbrev pub decreases-loop-answer : goal.decreases-loop-answer
decreases-loop-answer l = length l.file - l.at
