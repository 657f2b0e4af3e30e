use Rattle.std.proofs.Common.{◌^◌, ◌<◌, ◌-◌, arith, rules}
use Rattle.sets.specs.Sets.{First, Rest}
use Rattle.sets.proofs.Bits.{first_is, rest_is, rest_less}
use Rattle.sets.proofs.JobsIterator.next.Goals as goal

pub returns-clause-steps : goal.returns-clause-steps
returns-clause-steps c =
    let set = c.args.self.now.0 in
    let fits : set < 2 ^ 64 = search rules in
    let first = first_is set fits in
    record {
      first = first;
      few = (first.met c.if-self-eq0.false).0;
      member = (first.met c.if-self-eq0.false).1;
      left = rest_is set (set - 1) fits (omega arith) (omega (arith, c.if-self-eq0.false)) _ first;
    }

pub returns-clause-goes : goal.returns-clause-goes
returns-clause-goes c =
    let set = c.args.self.now.0 in
    let fits : set < 2 ^ 64 = search rules in
    record {
      on = λ ends. (tt, tt, rest_less set _ _ c.if-self-eq0.false (first_is set fits) (rest_is set (set - 1) fits (omega arith) (omega (arith, c.if-self-eq0.false))));
      keeps = tt;
      rests = λ ends. tt;
    }
