-- `lines::slots` meets its contract. The invariant: the lines of the slots passed are put.
use Prim.Native.Nat.{◌+◌, ◌*◌}
use lib.ListN.{get_or}
use Rattle.std.specs.Iterator.Adapters.{enumerate_count}
use Rattle.text.specs.Text.{each}
use Rattle.text.specs.Put.{Adds}
use Rattle.report.specs.Line.{slot_line}
use Rattle.planner.proofs.Pairs.{AtPair}
use Rattle.report.proofs.lines.slots.Given as goal

abbrev pub invariant-loop-slot : goal.invariant-loop-slot
invariant-loop-slot l =
    AtPair l.fn.plan l.slot-iterator
    × Adds (each (enumerate_count l.slot-iterator) (λ slot. slot_line slot (get_or l.fn.plan (2 * slot) 0) (get_or l.fn.plan (2 * slot + 1) 0))) l.initial.page l.page
