use Rattle.std.proofs.Common.{sym}
use lib.Seq.{length-take-le}
use Rattle.keying.proofs.Pages.{lines_within}
use Rattle.keyout.proofs.main.Goals as goal

-- the lines are no longer than the bytes lent for them
pub slice_bounds-text-end : goal.slice_bounds-text-end
slice_bounds-text-end c = lines_within _ _ c.in-Ok.size _ c.in-Ok.ensures

pub slice_bounds-write_whole-end : goal.slice_bounds-write_whole-end
slice_bounds-write_whole-end c = sym (length-take-le _ _ (lines_within _ _ c.in-Ok.size _ c.in-Ok.ensures))
