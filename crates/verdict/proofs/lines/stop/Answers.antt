use mathlib.Core.Path.{refl}
use Prim.Native.Nat.{◌^◌, ◌<◌}
use native.Mathlib.Omega.{arith}
use borrow.Author.Rules.{rules}
use borrow.Author.Tests.{ne_eqb}
use Rattle.refusal.specs.Says.{reason_number}
use Rattle.refusal.specs.declared.Reason.TheVariants.{FileTooLong}
use Rattle.refusal.proofs.Says.{number_within, number_one}
use Rattle.report.specs.Line.{stopped_line}
use Rattle.verdict.proofs.Texts.{stopped_short}
use Rattle.verdict.proofs.lines.stop.Goals as goal

pub returns-in_default : goal.returns-in_default
returns-in_default c =
    let r = c.args.refusal in
    let small : r.value < 2 ^ 64 = search rules in
    record {
      text = stopped_line r.value (reason_number r.reason);
      kind = rw (ne_eqb (reason_number r.reason) 9 (λ e. c.in_default.not-FileTooLong (number_one r.reason FileTooLong e))) refl;
      short = stopped_short r.value (reason_number r.reason) small (omega (arith, (number_within r.reason).1));
      adds = rw (c.from.ensures, c.number.ensures) at c.stopped.ensures;
    }
