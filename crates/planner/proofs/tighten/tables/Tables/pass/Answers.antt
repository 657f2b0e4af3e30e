use mathlib.Core.List.{List}
use mathlib.Core.Path.{◌≡◌, sym, subst}
use Prim.Native.Nat.{ℕ}
use native.Mathlib.Omega.{arith}
use Rattle.std.specs.Prelude.{Some}
use Rattle.book.specs.Told.{cores, row_in}
use Rattle.planner.specs.Inner.Tighten.{Moves, AtD}
use Rattle.planner.proofs.TightenDue.{Among, DueBelow, among_start, among_next, due_all, due_by, due_none}
use Rattle.planner.proofs.TightenSink.{passing_still, passing_moved, passing_moves, none_join, or_some}
use Rattle.planner.proofs.tighten.tables.Tables.pass.Goals as goal

pub returns-then-not-sink : goal.returns-then-not-sink
returns-then-not-sink c J early known =
    let q = c.loop-due.invariant in
    let b : DueBelow c.loop-due.limit J.size c.loop-due.row c.in-Some.due = rw known.size (due_all q.1 c.in-Some.ensures) in
    let m : Moves cores J early c.loop-due.row c.lower_at.new.row (AtD cores J early (row_in c.loop-due.row) c.in-Some.due.d) (Some c.in_ok-moved.moved) = c.in_ok-moved.ensures J early known (due_by b) in
    none_join (q.2 J early known).sunk (none_join m.0 ((c.sink.ensures J early known).none c.if-not-sink.true))

pub loop-due-preserved-then-moved-ne0 : goal.loop-due-preserved-then-moved-ne0
loop-due-preserved-then-moved-ne0 c =
    let t = c.args.self.now in
    let q = c.loop-due.invariant in
    let d = c.in-Some.due.d in
    let among = c.below-among-then-moved-ne0 in
    rw c.from-limit.ensures (
      omega (arith, c.in-Some.ensures.below),
      among_start t.size d c.sink.new.row among.result t.few among.ensures,
      (λ J early known.
          let b : DueBelow c.loop-due.limit J.size c.loop-due.row c.in-Some.due = rw known.size (due_all q.1 c.in-Some.ensures) in
          let m : Moves cores J early c.loop-due.row c.lower_at.new.row (AtD cores J early (row_in c.loop-due.row) d) (Some c.in_ok-moved.moved) = c.in_ok-moved.ensures J early known (due_by b) in
          passing_moved (q.2 J early known) d (or_some c.loop-due.all c.in_ok-moved.moved c.if-moved-ne0.true) m.0 (m.2 c.if-moved-ne0.true) ((c.sink.ensures J early known).sunk c.if-not-sink.false)),
    )

pub loop-due-preserved : goal.loop-due-preserved
loop-due-preserved c =
    let t = c.args.self.now in
    let q = c.loop-due.invariant in
    let d = c.in-Some.due.d in
    let some = c.requires in
    let all : DueBelow c.loop-due.limit t.size c.loop-due.row c.in-Some.due = due_all q.1 c.in-Some.ensures in
    let b : DueBelow c.loop-due.limit some.0.size c.loop-due.row c.in-Some.due = rw some.2.size all in
    let m : Moves cores some.0 some.1 c.loop-due.row c.lower_at.new.row (AtD cores some.0 some.1 (row_in c.loop-due.row) d) (Some c.in_ok-moved.moved) = c.in_ok-moved.ensures some.0 some.1 some.2 (due_by b) in
    let same : c.lower_at.new.row ≡ c.loop-due.row = (m.1 c.if-moved-ne0.false).0 in
    rw c.from-limit.ensures (
      omega (arith, c.in-Some.ensures.below),
      subst (λ (x : List ℕ). Among t.size d x c.in-Some.due.jobs) (sym same) (among_next all),
      (λ J early known.
          let b : DueBelow c.loop-due.limit J.size c.loop-due.row c.in-Some.due = rw known.size all in
          let m : Moves cores J early c.loop-due.row c.lower_at.new.row (AtD cores J early (row_in c.loop-due.row) d) (Some c.in_ok-moved.moved) = c.in_ok-moved.ensures J early known (due_by b) in
          let still = m.1 c.if-moved-ne0.false in
          passing_still (q.2 J early known) b still.0 still.1),
    )

pub returns : goal.returns
returns c J early known = passing_moves (c.loop-due.invariant.2 J early known) (λ k l. due_none c.loop-due.invariant.1 c.in_default.ensures k (omega (arith, known.size)))
