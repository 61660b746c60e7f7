use Rattle.std.proofs.Common.{rules}
use Rattle.card_calls.specs.Writings.{draft_in}
use Rattle.card_calls.proofs.writing.Draft.read.Goals as goal

pub returns : goal.returns
unfolding draft_in
returns c = search rules
