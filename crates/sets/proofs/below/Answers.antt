use Rattle.std.proofs.Common.{ℕ, ◌-◌, ap, ◌∙◌, arith}
use Rattle.sets.specs.Sets.{has}
use Rattle.sets.proofs.Bits.{low_has, only_is}
use Rattle.sets.proofs.Range.{in_below, below_out}
use Rattle.sets.proofs.below.Goals as goal

pub returns-then-n-ge-JOBS : goal.returns-then-n-ge-JOBS
returns-then-n-ge-JOBS c = below_out c.args.n _ c.if-n-ge-JOBS.true (low_has 64)

pub returns : goal.returns
returns c =
    let n = c.args.n in
    in_below n _ (omega arith) (λ j. ap (λ (x : ℕ). has (x - 1) j) (only_is n (omega arith)) ∙ low_has n j)
