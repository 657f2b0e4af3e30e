use Rattle.std.proofs.lemmas.Result.{err_from_is_err_and}
use Rattle.book.specs.Told.{book_in}
use Rattle.jobfile.proofs.Reading.{end_reads, stop_reads, request_reads}
use Rattle.jobfile.proofs.reader.read.Goals as goal

pub returns-in_err-found : goal.returns-in_err-found
returns-in_err-found c =
    let p = err_from_is_err_and c.from_residual.result c.from_residual.ensures.1 in
    rw (p.1, p.2) (stop_reads _ _ _ c.requires _ c.in_err-found.ensures)

pub returns-in_default : goal.returns-in_default
returns-in_default c = end_reads _ _ _ c.requires (rw c.in_default.is at c.in_ok-found.ensures)

pub returns : goal.returns
returns c =
    rw c.length_of.ensures (request_reads _ _ _ c.requires _ (rw c.in-Some.is at c.in_ok-found.ensures)
    (book_in c.apply.new.times c.apply.new.before) c.apply.result
    (rw c.asked.ensures at c.apply.ensures))
