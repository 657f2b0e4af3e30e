use mathlib.Core.Path.{◌≡◌}
use Prim.Native.Nat.{◌+◌, ◌<◌}
use native.Mathlib.Omega.{arith}
use borrow.Author.Rules.{rules}
use Rattle.planner.specs.List.{order_at}
use Rattle.planner.specs.Inner.Passes.{Passes, at_place}
use Rattle.planner.specs.Inner.Entries.{Spells}
use Rattle.planner.proofs.Pairs.{found_at, clear_more, Met, pair_met, held_both, earned, spells_more, spells_held}
use Rattle.planner.proofs.entries.looping_pair.Goals as goal

pub returns-in_err-map_err : goal.returns-in_err-map_err
returns-in_err-map_err c =
    let pairs = c.args.pairs.now in
    let p = c.in-Some.p in
    let m : Met pairs c.loop-p.p-iterator c.next.new.self p c.in-Some.pair.now = pair_met _ _ _ _ c.in-Some.pair c.loop-p.invariant.0 (search rules) in
    let placed : c.map_err.result ≡ at_place p c.closes.result = search rules in
    let at : Passes (order_at pairs p) c.map_err.result = rw placed (earned _ _ p _ _ _ (rw m.place c.loop-p.invariant.2) (rw c.from-first.ensures m.first) (rw c.from-second.ensures m.second) c.closes.ensures) in
    let same : c.from_residual.result ≡ c.map_err.result = search rules in
    record {
      passes = rw same (found_at _ (order_at pairs) _ p c.map_err.result m.below m.place c.loop-p.invariant.1 (search rules) at);
      spells = λ o. absurd (search rules);
    }

pub follow-requires : goal.follow-requires
follow-requires c =
    let pairs = c.args.pairs.now in
    let p = c.in-Some.p in
    let m : Met pairs c.loop-p.p-iterator c.next.new.self p c.in-Some.pair.now = pair_met _ _ _ _ c.in-Some.pair c.loop-p.invariant.0 (search rules) in
    let h : (c.from-first.result.0 < c.args.size) × (c.from-second.result.0 < c.args.size) = held_both c.args.size _ c.requires.1 p _ _ m.below (rw c.from-first.ensures m.first) (rw c.from-second.ensures m.second) in
    let s = c.loop-p.invariant.2 in
    (c.requires.0, h.0, h.1, (λ y l t. omega (arith, (spells_held _ _ _ _ c.requires.1 c.loop-p.invariant.0.few s _ y t).1)))

pub loop-p-preserved : goal.loop-p-preserved
loop-p-preserved c =
    let pairs = c.args.pairs.now in
    let p = c.in-Some.p in
    let m : Met pairs c.loop-p.p-iterator c.next.new.self p c.in-Some.pair.now = pair_met _ _ _ _ c.in-Some.pair c.loop-p.invariant.0 (search rules) in
    let placed : c.map_err.result ≡ at_place p c.closes.result = search rules in
    let at : Passes (order_at pairs p) c.map_err.result = rw placed (earned _ _ p _ _ _ (rw m.place c.loop-p.invariant.2) (rw c.from-first.ensures m.first) (rw c.from-second.ensures m.second) c.closes.ensures) in
    let more : Spells pairs (p + 1) c.follow.new.rows = spells_more _ c.loop-p.rows _ p (rw m.place c.loop-p.invariant.2) (rw (c.from-first.ensures, m.first, c.from-second.ensures, m.second) at c.follow.ensures) in
    (m.onward, rw m.counts (clear_more (order_at pairs) _ p c.map_err.result m.place c.loop-p.invariant.1 (search rules) at), rw (m.counts, ← m.place) more)
