use Rattle.std.proofs.Common.{is_ok}
use Rattle.card_calls.proofs.Writers.{added}
use Rattle.card_calls.proofs.writing.Draft.add.Goals as goal

pub returns : goal.returns
returns c = added c.args.self.now c.push.new.self c.args.step (is_ok c.push.result) c.push.ensures.items
