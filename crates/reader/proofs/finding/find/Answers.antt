use Rattle.std.proofs.Common.{length, ap, arith}
use Rattle.cards.proofs.Finding.{find_tells}
use Rattle.reader.specs.declared.rest.Rest.{Rest}
use Rattle.reader.proofs.Within.{held_fits}
use Rattle.reader.proofs.finding.find.Goals as goal

pub head-head-requires : goal.head-head-requires
head-head-requires c =
    let gave = c.in-Some.ensures.steps.1 in
    omega (arith, held_fits c.loop-rest.rest-iterator gave.1, ap (λ (x : Rest). length x.bytes.now) gave.0)

pub returns-clause-tells : goal.returns-clause-tells
returns-clause-tells c = find_tells
