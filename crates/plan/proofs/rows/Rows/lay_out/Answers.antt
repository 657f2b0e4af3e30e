use mathlib.Core.Logic.{inl}
use mathlib.Core.Path.{refl}
use native.Mathlib.Omega.{arith}
use Rattle.book.specs.Told.{jobs_of, latest_of, cores}
use Rattle.plan.specs.Inner.Rows.{told_by}
use Rattle.plan.proofs.BookPlan.{all_placed}
use Rattle.plan.proofs.AllSlots.{laid_none, slot_left, lays}
use Rattle.plan.proofs.rows.Rows.lay_out.Goals as goal

pub loop-stage-init : goal.loop-stage-init
loop-stage-init c =
    let k = told_by c.args.self.now in
    (omega arith, laid_none cores (jobs_of k) (latest_of k) c.below.result c.args.self.now.few c.below.ensures, inl refl)

pub serve-stage-requires : goal.serve-stage-requires
serve-stage-requires c =
    let k = told_by c.args.self.now in
    let i = c.loop-stage.invariant in
    let some = c.loop-stage-test.true in
    record {
      few = c.args.self.now.few;
      early = slot_left cores (jobs_of k) (latest_of k) c.loop-stage.slot c.loop-stage.stage i.1 i.0 (all_placed k c.requires) some;
      some = some;
      laid = i.1;
    }

pub returns : goal.returns
returns c =
    let i = c.loop-stage.invariant in
    lays (told_by c.args.self.now) c.loop-stage.slot c.loop-stage.stage i.1 i.0 c.loop-stage-test.false i.2
