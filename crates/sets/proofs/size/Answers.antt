use Rattle.sets.proofs.Bits.{ones_count}
use Rattle.sets.proofs.size.Goals as goal

pub returns : goal.returns
returns c = ones_count 64 c.args.set c.ranges.set.fits
