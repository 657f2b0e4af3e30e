use mathlib.Core.Path.{refl}
use native.Mathlib.Omega.{arith}
use Rattle.refusal.specs.Table.{refused}
use Rattle.book.specs.Told.{book_in}
use Rattle.report.specs.Line.{too_long_line}
use Rattle.report.proofs.Assembled.{lists_by, FileRead, no_nine, listed}
use Rattle.report.proofs.listing.Goals as goal

pub returns-then-file-gt24576 : goal.returns-then-file-gt24576
returns-then-file-gt24576 c = lists_by _ too_long_line _ _ _ (refused 9 0 (omega arith, refl, refl) refl) (omega (arith, c.well_formed)) c.too_long.ensures.puts

pub stop-requires : goal.stop-requires
stop-requires c =
    let read : FileRead c.args.file.now (book_in c.«open».new.times c.«open».new.before) 4096 c.read_file-ended.new.answers
    (book_in c.read_file-ended.new.times c.read_file-ended.new.before) c.read_file-ended.result.records c.read_file-ended.result.at c.read_file-ended.result.event =
    record { bytes = refl; empty = c.«open».ensures; fits = omega arith; tells = c.read_file-ended.ensures } in
    no_nine read

pub returns : goal.returns
returns c =
    let read : FileRead c.args.file.now (book_in c.«open».new.times c.«open».new.before) 4096 c.read_file-ended.new.answers
    (book_in c.read_file-ended.new.times c.read_file-ended.new.before) c.read_file-ended.result.records c.read_file-ended.result.at c.read_file-ended.result.event =
    record { bytes = refl; empty = c.«open».ensures; fits = omega arith; tells = c.read_file-ended.ensures } in
    listed read (omega (arith, c.well_formed)) refl c.refused.ensures c.stop.ensures c.book.ensures
