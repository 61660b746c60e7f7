use Rattle.std.proofs.Common.{arith, rules}
use Rattle.card_calls.proofs.Readers.{short_is, long_is}
use Rattle.card_calls.proofs.reading.is_wiped.Goals as goal

pub returns-in-Some : goal.returns-in-Some
returns-in-Some c = long_is c.args.scratch.now {a = c.all_are.result} {b = c.all_are-in-Some.result} (grind (arith)) (search rules) (search rules)

pub returns-in-None : goal.returns-in-None
returns-in-None c = short_is c.args.scratch.now (grind (arith))
