-- `Page::fill` meets its contract. The invariant: what the bytes passed stand for is put.
use lib.ListN.{take}
use Rattle.text.specs.Fill.{filled}
use Rattle.text.specs.Put.{Adds}
use Rattle.text.proofs.Page.fill.Given as goal

abbrev pub invariant-loop-byte : goal.invariant-loop-byte
invariant-loop-byte l = Adds (filled l.values (take l.byte-index l.pattern)) l.initial.self l.self
