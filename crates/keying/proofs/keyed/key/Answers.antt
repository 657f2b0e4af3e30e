use mathlib.Core.Path.{sym}
use native.Mathlib.Omega.{arith}
use Rattle.std.proofs.Common.{rules}
use Rattle.keying.proofs.Outcome.{walks_keep, keys_written}
use Rattle.keying.specs.contracts.keyed.fn.key.walk+2 as closure
use Rattle.keying.proofs.keyed.key.Goals as goal

pub returns : goal.returns
returns c =
    let w = c.walk-2.ensures in
    let same = walks_keep w (λ f. (closure.captures f).out.ghost_name) (λ f at r g x. search rules) in
    let keys = keys_written (λ f. (closure.captures f).out.now) (λ f at r g x. search rules) (omega arith) c.in_ok-walk.field-0 c.walk-2.result (rw c.in_ok-walk.was at c.walk.ensures.answer) w in
    record { answer = keys.answer; bytes = search (rules, keys.bytes, sym same) }
