use Rattle.book.specs.Told.{book_in}
use Rattle.planner.specs.declared.requests.Request.TheVariants.{Job, Before, Earlier}
use Rattle.planner.proofs.Outcome.{says_applies}
use Rattle.planner.proofs.requests.apply.Goals as goal

pub returns-in-Job : goal.returns-in-Job
returns-in-Job c =
    let a = c.args in
    rw c.in-Job.is (says_applies (book_in a.times.now a.before.now) (Job _ _) (book_in c.add_job.new.times a.before.now) c.add_job.result c.requires c.add_job.ensures)

pub returns-in-Before : goal.returns-in-Before
returns-in-Before c =
    let a = c.args in
    rw c.in-Before.is (says_applies (book_in a.times.now a.before.now) (Before _ _) (book_in c.add_order.new.times c.add_order.new.before) c.add_order.result c.requires c.add_order.ensures)

pub returns-in-Earlier : goal.returns-in-Earlier
returns-in-Earlier c =
    let a = c.args in
    rw c.in-Earlier.is (says_applies (book_in a.times.now a.before.now) (Earlier _ _) (book_in c.draw_in.new.times a.before.now) c.draw_in.result c.requires c.draw_in.ensures)
