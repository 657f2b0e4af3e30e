use mathlib.Core.Path.{◌≡◌, refl}
use native.Mathlib.Omega.{arith}
use lib.ListN.{length}
use Rattle.book.specs.Told.{cores, jobs_in}
use Rattle.planner.specs.Inner.Tighten.Posed.{rows_of}
use Rattle.planner.specs.Inner.Tighten.{Settles}
use Rattle.planner.specs.Inner.Tighten.Known.{Known}
use Rattle.planner.specs.Inner.Tighten.Sink.{Fits}
use Rattle.planner.proofs.TightenSink.{tightens_settled}
use Rattle.planner.proofs.tighten.posed.Posed.beneath.Goals as goal

pub returns-then-sink : goal.returns-then-sink
returns-then-sink c =
    let p = c.args.self in
    let old = c.args.row.now in
    let J = jobs_in p.size p.start.now (rows_of p) in
    let b = c.requires in
    let known : Known J b.early _ = record { size = refl; levels = b.levels; ranks = b.ranks; earliest = b.earliest; follow = λ i j l. c.followers.ensures i j } in
    let sunk : Fits cores J b.early old c.sink.new.row c.sink.result = c.sink.ensures J b.early known in
    let settles : Settles cores J b.early c.sink.new.row c.settled.new.row c.settled.result = c.settled.ensures J b.early known in
    let long : length c.settled.new.row ≡ 64 = omega arith in
    tightens_settled cores (omega arith) p.size p.start.now (rows_of p) old c.settled.new.row long
    b.early c.sink.new.row c.settled.result b.earliest (sunk.sunk c.if-sink.true) settles
