use Prim.Native.Nat.{◌^◌, ◌<◌}
use borrow.Author.Rules.{rules}
use Rattle.verdict.proofs.Texts.{short_short}
use Rattle.verdict.proofs.lines.short.Goals as goal

pub returns-in-Ok-clause-few : goal.returns-in-Ok-clause-few
returns-in-Ok-clause-few c =
    let small : c.in-Ok.slots < 2 ^ 64 = search rules in
    rw c.in-Ok.is (short_short 0 c.in-Ok.slots small)
