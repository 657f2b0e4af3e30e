use Rattle.refusal.proofs.Says.{says_told}
use Rattle.book.specs.Told.{book_in}
use Rattle.jobfile.specs.Writer.{WritesBook}
use Rattle.firmware.proofs.file.firmware_write.Goals as goal

pub returns : goal.returns
returns c = let a = c.args in rw (c.tell.ensures.number, c.tell.ensures.value) (says_told (WritesBook (book_in a.times.now a.before.now) a.out.now c.write.new.out) _ c.write.ensures)
