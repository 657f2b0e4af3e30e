use Rattle.refusal.proofs.Says.{says_told}
use Rattle.book.specs.Told.{book_in}
use Rattle.plan.specs.Plan.{Plans}
use Rattle.firmware.proofs.plans.firmware_plan.Goals as goal

pub returns : goal.returns
returns c = let a = c.args in rw (c.tell.ensures.number, c.tell.ensures.value) (says_told (Plans (book_in a.times.now a.before.now) a.out.now c.plan.new.out) _ c.plan.ensures)
