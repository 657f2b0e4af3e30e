use Rattle.std.proofs.Common.{length, ◌+◌}
use Rattle.stream.proofs.write_whole.Given as goal

-- a write either takes some bytes or uses up a try
abbrev pub decreases-loop-rest : goal.decreases-loop-rest
decreases-loop-rest l = length l.rest + l.tries
