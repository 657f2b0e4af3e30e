use mathlib.Core.Path.{◌≡◌}
use borrow.Author.Rules.{rules}
use Rattle.planner.specs.List.{pair_at}
use Rattle.planner.specs.Inner.Passes.{Passes, at_place}
use Rattle.planner.proofs.Pairs.{found_at, clear_more, Met, pair_met}
use Rattle.planner.proofs.entries.unheld_pair.Goals as goal

pub returns-in_err-map_err : goal.returns-in_err-map_err
returns-in_err-map_err c =
    let pairs = c.args.pairs.now in
    let p = c.in-Some.p in
    let m : Met pairs c.loop-p.p-iterator c.next.new.self p c.in-Some.pair.now = pair_met _ _ _ _ c.in-Some.pair c.loop-p.invariant.0 (search rules) in
    let placed : c.map_err.result ≡ at_place p c.unheld.result = search rules in
    let at : Passes (pair_at c.args.size pairs p) c.map_err.result = rw (placed, ← m.first, ← m.second, ← c.from-first.ensures, ← c.from-second.ensures) (c.unheld.ensures.0 p) in
    let same : c.from_residual.result ≡ c.map_err.result = search rules in
    rw same (found_at _ (pair_at c.args.size pairs) _ p c.map_err.result m.below m.place c.loop-p.invariant.1 (search rules) at)

pub loop-p-preserved : goal.loop-p-preserved
loop-p-preserved c =
    let pairs = c.args.pairs.now in
    let p = c.in-Some.p in
    let m : Met pairs c.loop-p.p-iterator c.next.new.self p c.in-Some.pair.now = pair_met _ _ _ _ c.in-Some.pair c.loop-p.invariant.0 (search rules) in
    let placed : c.map_err.result ≡ at_place p c.unheld.result = search rules in
    let at : Passes (pair_at c.args.size pairs p) c.map_err.result = rw (placed, ← m.first, ← m.second, ← c.from-first.ensures, ← c.from-second.ensures) (c.unheld.ensures.0 p) in
    (m.onward, rw m.counts (clear_more (pair_at c.args.size pairs) _ p c.map_err.result m.place c.loop-p.invariant.1 (search rules) at))
