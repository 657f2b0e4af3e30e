use Rattle.std.proofs.Common.{◌≡◌, sym, ap, ◌∙◌, length, arith}
use Rattle.book.specs.Told.{part}
use Rattle.book.proofs.Parts.{part_length}
use Rattle.planner.proofs.HandedOver.{keeps_put}
use Rattle.planner.proofs.requests.settle.Goals as goal

pub copy_from_slice-requires : goal.copy_from_slice-requires
copy_from_slice-requires c = sym (ap length c.latest.ensures ∙ part_length 65 _ (omega (arith, c.told-times)))

pub returns : goal.returns
returns c =
    let due : c.copy_from_slice.new.self ≡ part 65 c.args.times.now = c.copy_from_slice.ensures.after ∙ c.latest.ensures in
    record {
      row = c.tighten.new.row;
      tight = rw (c.if-not-tighten.false, c.starts.ensures, due) at c.tighten.ensures;
      book = rw c.copy_from_slice-2.ensures.after (keeps_put _ _ c.tighten.array_long c.requires.long);
    }
