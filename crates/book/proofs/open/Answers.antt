use Rattle.book.proofs.Empty.{told_nothing}
use Rattle.book.proofs.open.Goals as goal

pub returns : goal.returns
returns c = told_nothing
