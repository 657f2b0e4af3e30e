use mathlib.Core.Path.{sym, ap, ◌∙◌}
use native.Mathlib.Omega.{arith}
use Rattle.std.specs.Prelude.{cond}
use Rattle.keying.proofs.Begin.{begin_starts}
use Rattle.keying.proofs.keyed.begin.Goals as goal

pub returns-then-starts_with : goal.returns-then-starts_with
returns-then-starts_with c =
    (sym (begin_starts c.args.text.now ∙ ap (λ starts. cond starts 3 0) (sym c.starts_with.ensures.value ∙ c.if-starts_with.true)), c.starts_with.ensures.bound c.if-starts_with.true)

pub returns-else-starts_with : goal.returns-else-starts_with
returns-else-starts_with c =
    (sym (begin_starts c.args.text.now ∙ ap (λ starts. cond starts 3 0) (sym c.starts_with.ensures.value ∙ c.if-starts_with.false)), omega arith)
