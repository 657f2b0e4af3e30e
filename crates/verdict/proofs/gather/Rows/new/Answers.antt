use borrow.Author.Rules.{rules}
use Rattle.verdict.specs.Gathered.{given}
use Rattle.verdict.proofs.gather.Rows.new.Goals as goal

pub returns : goal.returns
unfolding given
returns c = search rules
