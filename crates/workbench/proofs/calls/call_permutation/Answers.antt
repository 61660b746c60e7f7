use Rattle.std.proofs.Common.{rules, string_bytes}
use Rattle.permutations.specs.Light.{light_192, light_256}
use Rattle.script.specs.Reasons.{Holds}
use Rattle.script.specs.Words.{left}
use Rattle.workbench.specs.States.{state_asked}
use Rattle.workbench.proofs.calls.call_permutation.Goals as goal

-- what the call ensures, of the permutation by its name: so written out, the search ends in time
pub returns-in-Light192 : goal.returns-in-Light192
returns-in-Light192 c =
    let on : Holds string_bytes c.call_on.result (state_asked c.in_ok-of.of light_192 c.args.call (left c.next_word.new.self)) = c.call_on.ensures in
    search rules

pub returns-in-Light256 : goal.returns-in-Light256
returns-in-Light256 c =
    let on : Holds string_bytes c.call_on-in-Light256.result (state_asked c.in_ok-of.of light_256 c.args.call (left c.next_word.new.self)) = c.call_on-in-Light256.ensures in
    search rules
