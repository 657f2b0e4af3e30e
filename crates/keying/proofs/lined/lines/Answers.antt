use mathlib.Core.Path.{refl, sym}
use native.Mathlib.Omega.{arith}
use Rattle.std.specs.Prelude.{Ok}
use Rattle.std.proofs.Common.{rules}
use Rattle.keying.specs.Lines.{Lines}
use Rattle.keying.proofs.Pages.{reads_adds, reads_whole, lines_end}
use Rattle.keying.specs.contracts.lined.fn.lines.walk+2 as closure
use Rattle.keying.proofs.lined.lines.Goals as goal

pub shape_of-out-in-Break-branch-2 : goal.shape_of-out-in-Break-branch-2
shape_of-out-in-Break-branch-2 c =
    let all = reads_adds c.walk-2.ensures (λ f. (closure.captures f).page) (λ f. f.0.ghost_name) (λ f r g x. (search rules, search rules)) in
    search (rules, sym all.1, all.0.lent, sym all.0.lent)

pub returns-in_err-walk-2 : goal.returns-in_err-walk-2
returns-in_err-walk-2 c = absurd (reads_whole c.in_ok-walk.ensures c.in_err-walk-2.field-0.0 c.in_err-walk-2.ensures)

pub shape_of-out : goal.shape_of-out
shape_of-out c =
    let all = reads_adds c.walk-2.ensures (λ f. (closure.captures f).page) (λ f. f.0.ghost_name) (λ f r g x. (search rules, search rules)) in
    search (rules, sym all.1, all.0.lent, sym all.0.lent)

pub returns : goal.returns
returns c =
    let w = c.in_ok-walk-2.ensures in
    let all = reads_adds w (λ f. (closure.captures f).page) (λ f. f.0.ghost_name) (λ f r g x. (search rules, search rules)) in
    let lines : Lines c.args.file.now c.args.out.now (Ok (closure.captures c.walk-2.new.tell).page.at) (closure.captures c.walk-2.new.tell).page.out.now =
    lines_end _ w.printed w.answer.0 w.within (omega arith) refl all.0 in
    record {
      text = lines.text;
      number = lines.number;
      value = lines.value;
      printed = lines.printed;
      within = lines.within;
      answer = (lines.answer.0, search (rules, lines.answer.1, sym all.1));
      bytes = search (rules, lines.bytes, sym all.1);
    }
