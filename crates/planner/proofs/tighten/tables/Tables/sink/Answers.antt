use mathlib.Core.Path.{refl, sym, subst}
use Prim.Native.Nat.{◌<◌}
use native.Mathlib.Omega.{arith}
use lib.Dec.{T}
use lib.ListN.{length-set}
use Rattle.std.specs.Prelude.{Some}
use Rattle.std.proofs.lemmas.List.Elements.{All-pop}
use Rattle.planner.proofs.TightenSink.{sunk_put, sunk_none, followed}
use Rattle.planner.proofs.tighten.tables.Tables.sink.Goals as goal

pub returns-in_default : goal.returns-in_default
returns-in_default c J early known =
    let q = c.loop-last in
    let t = c.args.self.now in
    let i = c.from-i.result in
    let left = All-pop (λ job. job < t.size) q.last-iterator.iter.rest.now c.next.new.self.iter.rest.now (Some c.in-Some.field-0.now) c.in-Some.ensures.steps q.invariant.2 in
    let l : i < J.size = omega (arith, left.1, c.from-i.ensures, c.in-Some.last-is, known.size) in
    let eased = c.in_default.ensures J early i l refl (followed J t.followers.now i q.moved l known.follow) known.earliest.raised in
    record {
      sunk = λ b. absurd (subst T (sym b) tt);
      none = λ b. sunk_none (q.invariant.4 J early known) (omega (arith, t.few, known.size)) q.invariant.3 l eased refl;
    }

pub loop-last-preserved-then-time-held : goal.loop-last-preserved-then-time-held
loop-last-preserved-then-time-held c =
    let q = c.loop-last in
    let t = c.args.self.now in
    let i = c.from-i.result in
    let left = All-pop (λ job. job < t.size) q.last-iterator.iter.rest.now c.next.new.self.iter.rest.now (Some c.in-Some.field-0.now) c.in-Some.ensures.steps q.invariant.2 in (
      tt,
      tt,
      left.0,
      simp length-set q.invariant.3,
      (λ J early known.
          let l : i < J.size = omega (arith, left.1, c.from-i.ensures, c.in-Some.last-is, known.size) in
          let eased = c.in-Some-capped.ensures J early i l refl (followed J t.followers.now i q.moved l known.follow) known.earliest.raised in
          sunk_put (q.invariant.4 J early known) (omega (arith, t.few, known.size)) q.invariant.3 l eased),
    )

pub loop-last-preserved : goal.loop-last-preserved
loop-last-preserved c =
    let q = c.loop-last in
    let left = All-pop (λ job. job < c.args.self.now.size) q.last-iterator.iter.rest.now c.next.new.self.iter.rest.now (Some c.in-Some.field-0.now) c.in-Some.ensures.steps q.invariant.2 in
    (tt, tt, left.0, q.invariant.3, q.invariant.4)
