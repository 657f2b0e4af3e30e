use mathlib.Core.Path.{sym, ap, ◌∙◌}
use native.Mathlib.Omega.{arith}
use Rattle.std.proofs.Common.{of_calls}
use Rattle.keying.specs.Inner.Machine.{reader_turn}
use Rattle.keying.proofs.Walk.{reached_counts, told_start, told_on, told_more, told_over, told_wrong, told_end}
use Rattle.keying.proofs.keyed.walk.Goals as goal
use Rattle.keying.proofs.keyed.walk.Goals.{in-Some+else-length_of-at, in_default}

pub loop-i-init : goal.loop-i-init
loop-i-init g c = (omega (arith, c.begin-i.ensures.1), (λ f. f), rw (c.fresh-reader.ensures, c.begin-i.ensures.0) (told_start c.args.text.now c.args.put.now))

pub take-requires : goal.take-requires
take-requires g c = reached_counts c.loop-i.invariant.2.reached (omega arith)

pub at-requires : goal.at-requires
at-requires g c = (told_wrong c.loop-i.invariant.2 c.in-Err.slip c.in-Err.size (omega arith) (ap (reader_turn c.loop-i.reader) (sym c.byte_at.ensures) ∙ sym c.in-Err.ensures)).0

-- a mistake
pub returns-in-Err : goal.returns-in-Err
returns-in-Err g c =
    rw c.at.ensures (told_wrong c.loop-i.invariant.2 c.in-Err.slip c.in-Err.size (omega arith) (ap (reader_turn c.loop-i.reader) (sym c.byte_at.ensures) ∙ sym c.in-Err.ensures)).1

-- the records don't fit
pub returns-then-length_of-at : goal.returns-then-length_of-at
returns-then-length_of-at g c =
    rw c.at-then-length_of-at.ensures (told_over c.loop-i.invariant.2 c.in-Ok.turn c.in-Some.told (omega arith) (ap (reader_turn c.loop-i.reader) (sym c.byte_at.ensures) ∙ sym c.in-Ok.ensures)
    c.in-Some.is (omega (arith, c.length_of.ensures)))

-- the reader goes on, or a record more is told
pub loop-i-preserved : goal.loop-i-preserved
loop-i-preserved g c =
    let turned = ap (reader_turn c.loop-i.reader) (sym c.byte_at.ensures) ∙ sym c.in-Ok.ensures in
    elim c.match-told.branch [
      | in-Some+else-length_of-at w ↦ (omega arith, rw w.put-is (search of_calls), rw (w.put-is, w.at-is, w.length_of-at.ensures) (told_more c.loop-i.invariant.2 c.in-Ok.turn w.in-Some.told w.put.new.self (omega arith) turned w.in-Some.is (omega (arith, w.length_of.ensures, w.if-length_of-at.false)) w.put.ensures))
      | in_default w ↦ (omega arith, rw w.put-is c.loop-i.invariant.1, rw (w.put-is, w.at-is) (told_on c.loop-i.invariant.2 c.in-Ok.turn (omega arith) turned w.in_default.is))
    ]

pub returns-after-told : goal.returns-after-told
returns-after-told g c =
    let turned = ap (reader_turn c.loop-i.reader) (sym c.byte_at.ensures) ∙ sym c.in-Ok.ensures in
    elim c.match-told.branch [
      | in-Some+else-length_of-at w ↦ rw (w.put-is, w.at-is, w.length_of-at.ensures) (told_end (told_more c.loop-i.invariant.2 c.in-Ok.turn w.in-Some.told w.put.new.self (omega arith) turned w.in-Some.is (omega (arith, w.length_of.ensures, w.if-length_of-at.false)) w.put.ensures) (omega arith))
      | in_default w ↦ rw (w.put-is, w.at-is) (told_end (told_on c.loop-i.invariant.2 c.in-Ok.turn (omega arith) turned w.in_default.is) (omega arith))
    ]
