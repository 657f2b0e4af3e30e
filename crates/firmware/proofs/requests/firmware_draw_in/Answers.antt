use Rattle.std.proofs.Common.{sym}
use Rattle.refusal.proofs.Says.{says_told}
use Rattle.book.specs.Told.{book_in}
use Rattle.planner.specs.declared.requests.Request.TheVariants.{Earlier}
use Rattle.planner.specs.Requests.{Applies, answered}
use Rattle.firmware.proofs.requests.firmware_draw_in.Goals as goal

pub returns : goal.returns
returns c =
    let a = c.args in
    rw (c.tell.ensures.number, c.tell.ensures.value, sym c.from.ensures)
    (says_told (λ n v. Applies (book_in a.times.now a.before.now) (Earlier c.from.result a.deadline) (answered (book_in c.apply.new.times c.apply.new.before) n v)) _ c.apply.ensures)
