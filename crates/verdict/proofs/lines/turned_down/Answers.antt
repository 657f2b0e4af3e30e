use mathlib.Core.Path.{refl}
use Prim.Native.Nat.{◌^◌, ◌<◌}
use native.Mathlib.Omega.{arith}
use borrow.Author.Rules.{rules}
use borrow.Author.Tests.{ne_eqb}
use lib.IntN.{pos}
use Rattle.refusal.specs.Says.{reason_number}
use Rattle.refusal.specs.declared.Reason.TheVariants.{NoJobs}
use Rattle.refusal.proofs.Says.{number_within, number_one}
use Rattle.verdict.specs.Line.{turned_down_line}
use Rattle.verdict.proofs.Texts.{turned_down_short}
use Rattle.verdict.proofs.lines.turned_down.Goals as goal

pub returns-in_default : goal.returns-in_default
returns-in_default c =
    let r = c.args.refusal in
    let small : r.value < 2 ^ 64 = search rules in
    record {
      text = turned_down_line (reason_number r.reason) (pos r.value);
      kind = refl;
      short = turned_down_short (reason_number r.reason) r.value (omega (arith, (number_within r.reason).1)) small;
      adds = rw (ne_eqb (reason_number r.reason) 14 (λ e. c.in_default.not-NoJobs (number_one r.reason NoJobs e))) (rw (c.from.ensures, c.number.ensures) at c.fill-in_default.ensures);
    }
