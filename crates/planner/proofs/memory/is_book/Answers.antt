use Rattle.book.specs.Told.{book_in}
use Rattle.planner.proofs.Whether.{whether_no, whether_as}
use Rattle.planner.proofs.IsBook.{made_regular, made_steady, steady_made}
use Rattle.planner.proofs.memory.is_book.Goals as goal

pub returns-then-regular : goal.returns-then-regular
returns-then-regular c =
    let k = book_in c.args.times.now c.args.before.now in
    whether_as (steady_made _ _ c.told-times c.told-before (c.regular.ensures.yes c.if-regular.true)) (made_steady k) c.steady.ensures

pub returns-else-regular : goal.returns-else-regular
returns-else-regular c =
    let k = book_in c.args.times.now c.args.before.now in
    rw c.if-regular.false (whether_no (λ m. c.regular.ensures.no c.if-regular.false (made_regular k m)))
