use mathlib.Core.Path.{◌≡◌, sym, ap, ◌∙◌}
use Prim.Native.Nat.{ℕ, ◌-◌}
use native.Mathlib.Omega.{arith}
use lib.ListN.{get_or}
use Rattle.schedule.specs.Times.{up}
use Rattle.book.specs.Told.{cores}
use Rattle.planner.proofs.TightenLower.{ruled_shut, ruled_still, ruled_full, ruled_lower}
use Rattle.planner.proofs.tighten.tables.Tables.lowered.Goals as goal

pub returns-then-held-begin-clause-ruled : goal.returns-then-held-begin-clause-ruled
returns-then-held-begin-clause-ruled c J early row x =
    let begin : get_or c.args.self.now.times.now c.from.result 0 ≡ early c.args.job.0 = ap (λ (n : ℕ). get_or c.args.self.now.times.now n 0) c.from.ensures ∙ (x.known.ranks c.args.job.0 x.job).1 in
    ruled_shut cores (omega arith) J early row x.job x.known.earliest (omega (arith, x.holds, c.if-held-begin.true))

pub returns-then-held-left-clause-ruled : goal.returns-then-held-left-clause-ruled
unfolding up
returns-then-held-left-clause-ruled c J early row x =
    let begin : get_or c.args.self.now.times.now c.from.result 0 ≡ early c.args.job.0 = ap (λ (n : ℕ). get_or c.args.self.now.times.now n 0) c.from.ensures ∙ (x.known.ranks c.args.job.0 x.job).1 in
    let left : c.saturating_sub-left.result ≡ c.args.due.d - up cores c.pressure.result = omega (arith, c.saturating_sub-left.ensures, c.div_ceil-slots.ensures) in
    rw (sym x.holds) (ruled_still cores (omega arith) J early row x.job x.known.earliest (c.pressure.ensures.1 J early row x) (omega (arith, x.holds)) (omega (arith, x.holds, c.if-held-begin.false)) (omega (arith, left, x.holds, c.if-held-left.true)))

pub returns-then-left-begin-clause-ruled : goal.returns-then-left-begin-clause-ruled
unfolding up
returns-then-left-begin-clause-ruled c J early row x =
    let begin : get_or c.args.self.now.times.now c.from.result 0 ≡ early c.args.job.0 = ap (λ (n : ℕ). get_or c.args.self.now.times.now n 0) c.from.ensures ∙ (x.known.ranks c.args.job.0 x.job).1 in
    let left : c.saturating_sub-left.result ≡ c.args.due.d - up cores c.pressure.result = omega (arith, c.saturating_sub-left.ensures, c.div_ceil-slots.ensures) in
    ruled_full cores (omega arith) J early row x.job x.known.earliest (c.pressure.ensures.1 J early row x) (omega (arith, x.holds)) (omega (arith, x.holds, c.if-held-begin.false)) (omega (arith, left, x.holds, c.if-held-left.false)) (omega (arith, left, begin, c.if-left-begin.true))

pub returns-clause-ruled : goal.returns-clause-ruled
unfolding up
returns-clause-ruled c J early row x =
    let begin : get_or c.args.self.now.times.now c.from.result 0 ≡ early c.args.job.0 = ap (λ (n : ℕ). get_or c.args.self.now.times.now n 0) c.from.ensures ∙ (x.known.ranks c.args.job.0 x.job).1 in
    let left : c.saturating_sub-left.result ≡ c.args.due.d - up cores c.pressure.result = omega (arith, c.saturating_sub-left.ensures, c.div_ceil-slots.ensures) in
    rw left (ruled_lower cores (omega arith) J early row x.job x.known.earliest (c.pressure.ensures.1 J early row x) (omega (arith, x.holds)) (omega (arith, x.holds, c.if-held-begin.false)) (omega (arith, left, x.holds, c.if-held-left.false)) (omega (arith, left, begin, c.if-left-begin.false)))
