use Rattle.std.proofs.Common.{IfOk, string_bytes, rules}
use Rattle.std.specs.Option.{option_map}
use Rattle.card_calls.specs.Writings.{draft_in}
use Rattle.workbench.specs.Printed.{a_turn, MayTurn}
use Rattle.workbench.proofs.Turns.{alone}
use Rattle.workbench.proofs.session.Workbench.answer.Goals as goal

pub returns-clause-alone : goal.returns-clause-alone
returns-clause-alone c = λ none.
    let before = option_map draft_in c.args.self.now.draft in
    let after = option_map draft_in c.turn.new.self.draft in
    let turn : IfOk c.turn.result (λ t. MayTurn before c.args.line.now (a_turn (string_bytes t) after)) = search rules in
    alone c.turn.result before after c.args.line.now none turn
