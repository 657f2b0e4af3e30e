use Rattle.std.proofs.Common.{arith}
use Rattle.std.proofs.lemmas.Grind.{common_steps}
use mathlib.Core.Path.{refl, ◌∙◌}
use Rattle.plan.proofs.WrittenBytes.{seated_more}
use Rattle.plan.specs.Inner.Bytes.{seated}
use Rattle.plan.proofs.bytes.write.Goals as goal

pub loop-i-init : goal.loop-i-init
unfolding seated
loop-i-init c = refl

pub loop-i-preserved : goal.loop-i-preserved
loop-i-preserved c = c.seat.ensures ∙ grind (arith, common_steps, seated_more)
