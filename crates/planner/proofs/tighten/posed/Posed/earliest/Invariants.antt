use Rattle.planner.specs.Inner.Tighten.Posed.{rows_of}
use Rattle.planner.proofs.TightenEarly.{Making}
use Rattle.planner.proofs.tighten.posed.Posed.earliest.Given as goal

abbrev pub invariant-loop-place : goal.invariant-loop-place
invariant-loop-place l = Making l.self.size l.self.start.now (rows_of l.self) l.early l.place-items l.todo l.place-index
