use mathlib.Core.Logic.{inl, inr, ⊎_elim}
use mathlib.Core.Path.{◌≡◌, sym, ap, subst, ◌∙◌}
use Prim.Native.Nat.{ℕ, ◌+◌, ◌-◌, ◌*◌, ◌≤◌, ◌<◌, min}
use native.Mathlib.Omega.{arith}
use lib.ListN.{get_or}
use Rattle.schedule.proofs.Counting.{count_bound}
use Rattle.book.specs.Told.{cores}
use Rattle.std.specs.Iterator.Adapters.{zip_first, zip_second}
use Rattle.std.specs.Slice.Iter.{iter_rest}
use Rattle.planner.specs.Inner.Tighten.Rule.{pressed}
use Rattle.planner.proofs.TightenPress.{walked_start, walked_end, walked_time, walked_late, walked_more, Passed, count_by, passed_start, passed_next, passed_found, passed_none}
use Rattle.planner.proofs.tighten.tables.Tables.pressure.Goals as goal
use Rattle.planner.proofs.tighten.tables.Tables.pressure.Goals.{then-held-s-via-then-held-s, then-held-s-via-else-held-s+then-d-s}

pub returns-then-least-gt64 : goal.returns-then-least-gt64
returns-then-least-gt64 c =
    let s = c.requires in (
      omega arith,
      (λ J early row x.
          let p = passed_start cores x s.1 s.2 c.ranges.held.fits in
          passed_none cores x s.1 s.2 c.ranges.held.fits p 64 p.bound (omega (arith, c.from-d.ensures, c.from-held.ensures, c.if-least-gt64.true))),
    )

pub loop-time-init : goal.loop-time-init
loop-time-init c =
    let t = c.args.self.now in
    let s = c.requires in
    let zipped = c.zip-time-items.ensures in
    let same = c.into_iter-time-iterator.ensures.into_iter_gives in
    let from = c.from-from.result in
    let start : from ≡ get_or t.rank.now c.args.job.0 0 = omega (arith, c.from-from.ensures) in (
      (tt, tt),
      tt,
      (
        from,
        omega (arith, start, t.ranks c.args.job.0 s.0),
        walked_start t from _ _ (omega arith) (omega arith)
            (ap (λ z. iter_rest (zip_first z)) same ∙ ap iter_rest zipped.first ∙ c.iter.ensures.rest)
            (ap (λ z. iter_rest (zip_second z)) same ∙ zipped.second.0),
        64,
        (omega (arith, c.if-least-gt64.false), omega (arith, c.saturating_sub-near.ensures)),
        (λ J early row x. subst (λ (k : ℕ). Passed cores x k 64) (sym start) (passed_start cores x s.1 s.2 c.ranges.held.fits)),
      ),
    )

pub returns-then-held-s : goal.returns-then-held-s
returns-then-held-s c =
    let t = c.args.self.now in
    let s = c.requires in
    let q = c.loop-time.invariant.2 in
    let it = c.in-Some.ensures.steps in
    let n = c.pressing-most in
    let tried : get_or t.times.now q.0 0 ≡ c.from-s.result = omega (arith, walked_time q.2 it.0 it.1, c.in-Some.time-is, c.from-s.ensures) in
    let full : cores * (c.args.due.d - min c.args.held (get_or t.times.now q.0 0)) ≤ n.result =
    elim c.then-held-s.branch [
      | then-held-s-via-then-held-s w ↦ omega (arith, tried, c.from-d.ensures, c.from-held.ensures, c.if-most-least.false, w.if-held-s)
      | then-held-s-via-else-held-s+then-d-s w ↦ omega (arith, tried, c.from-d.ensures, c.from-held.ensures, w.if-held-s, w.if-d-s)
    ] in (
      omega (arith, n.ensures, count_bound 64 (pressed c.args.due.jobs (get_or t.followers.now c.args.job.0 0) c.in-Some.late.now c.args.job.0)),
      (λ J early row x.
          let p = q.5 J early row x in
          let here = count_by cores x s.1 s.2 c.ranges.held.fits p n.result _ n.ensures (walked_late q.2 it.0 it.1) in
          passed_found cores x s.1 s.2 c.ranges.held.fits p n.result here full),
    )

pub returns-then-most-least : goal.returns-then-most-least
returns-then-most-least c =
    let s = c.requires in
    let q = c.loop-time.invariant.2 in
    let it = c.in-Some.ensures.steps in
    let n = c.pressing-most in (
      omega arith,
      (λ J early row x.
          let p = q.5 J early row x in
          let here = count_by cores x s.1 s.2 c.ranges.held.fits p n.result _ n.ensures (walked_late q.2 it.0 it.1) in
          passed_none cores x s.1 s.2 c.ranges.held.fits p n.result (omega (arith, here)) (omega (arith, c.from-d.ensures, c.from-held.ensures, c.if-most-least.true))),
    )

pub loop-time-preserved-then-near-s : goal.loop-time-preserved-then-near-s
loop-time-preserved-then-near-s c =
    let t = c.args.self.now in
    let s = c.requires in
    let q = c.loop-time.invariant.2 in
    let it = c.in-Some.ensures.steps in
    let n = c.pressing-most in
    let tried : get_or t.times.now q.0 0 ≡ c.from-s.result = omega (arith, walked_time q.2 it.0 it.1, c.in-Some.time-is, c.from-s.ensures) in
    let sooner : get_or t.times.now q.0 0 < c.args.held = omega (arith, tried, c.from-held.ensures, c.if-held-s.false) in (
      (tt, tt),
      tt,
      (
        q.0 + 1,
        omega (arith, (t.rising q.0 q.1 (omega arith)).0),
        walked_more q.2 it.0 it.1,
        n.result,
        (omega (arith, c.if-most-least.false), omega arith),
        (λ J early row x.
            let p = q.5 J early row x in
            let here = count_by cores x s.1 s.2 c.ranges.held.fits p n.result _ n.ensures (walked_late q.2 it.0 it.1) in
            passed_next cores x s.1 s.2 c.ranges.held.fits p n.result sooner (omega (arith, here)) (omega (arith, tried, sooner, c.from-d.ensures, c.if-d-s.false))),
      ),
    )

pub loop-time-preserved : goal.loop-time-preserved
loop-time-preserved c =
    let t = c.args.self.now in
    let s = c.requires in
    let q = c.loop-time.invariant.2 in
    let it = c.in-Some.ensures.steps in
    let tried : get_or t.times.now q.0 0 ≡ c.from-s.result = omega (arith, walked_time q.2 it.0 it.1, c.in-Some.time-is, c.from-s.ensures) in
    let sooner : get_or t.times.now q.0 0 < c.args.held = omega (arith, tried, q.4.0, q.4.1, c.from-d.ensures, c.from-held.ensures, c.if-near-s.false) in (
      (tt, tt),
      tt,
      (
        q.0 + 1,
        omega (arith, (t.rising q.0 q.1 (omega arith)).0),
        walked_more q.2 it.0 it.1,
        q.3,
        q.4,
        (λ J early row x.
            let p = q.5 J early row x in
            passed_next cores x s.1 s.2 c.ranges.held.fits p q.3 sooner p.bound (omega (arith, tried, q.4.1, c.from-d.ensures, c.if-near-s.false))),
      ),
    )

pub unreachable-requires : goal.unreachable-requires
unreachable-requires c =
    let q = c.loop-time.invariant.2 in
    let ended = walked_end q.2 (omega arith) (omega arith) (⊎_elim (λ z. inl z.1.0) (λ z. inr z.1.0) c.in-None.ensures.steps) in
    omega (arith, ended, q.1)
