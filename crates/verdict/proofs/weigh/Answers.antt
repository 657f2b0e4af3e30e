use borrow.Author.Rules.{rules}
use mir.Syntax.{w16}
use mir.Val.{SFits}
use mir.Facts.{to_z-of_z}
use Rattle.verdict.proofs.Texts.{adds_more}
use Rattle.verdict.proofs.Assembled.{weighs_by, weighs_refused}
use Rattle.verdict.proofs.weigh.Goals as goal

pub returns-in-Ok : goal.returns-in-Ok
returns-in-Ok c =
    let fits : SFits w16 c.in-Ok.slots = search rules in
    let told = rw (to_z-of_z fits) at c.accepted.ensures in
    rw (← c.entries-starts.ensures, ← c.entries-deadlines.ensures, ← c.entries-pairs.ensures)
    (adds_more (λ text e. weighs_by _ _ _ text _ c.shortest-short.ensures c.in-Ok.slots c.in-Ok.ensures e) told)

pub returns-in-Err : goal.returns-in-Err
returns-in-Err c =
    rw (← c.entries-starts.ensures, ← c.entries-deadlines.ensures, ← c.entries-pairs.ensures)
    (adds_more (λ text e. weighs_refused _ _ _ text _ c.shortest-short.ensures _ c.in-Err.ensures e) c.turned_down.ensures)
