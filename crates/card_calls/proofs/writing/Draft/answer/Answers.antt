use Rattle.card_calls.proofs.Writers.{made_same, under_sealer}
use Rattle.card_calls.proofs.writing.Draft.answer.Goals as goal

pub returns-in-Spoc64 : goal.returns-in-Spoc64
returns-in-Spoc64 c = made_same c.answer_over.result c.answer_over.ensures (under_sealer c.args.self.now _ c.in-Spoc64.is)

pub returns-in-Spoc128 : goal.returns-in-Spoc128
returns-in-Spoc128 c = made_same c.answer_over-in-Spoc128.result c.answer_over-in-Spoc128.ensures (under_sealer c.args.self.now _ c.in-Spoc128.is)

pub returns-in-Bench : goal.returns-in-Bench
returns-in-Bench c = made_same c.answer_over-in-Bench.result c.answer_over-in-Bench.ensures (under_sealer c.args.self.now _ c.in-Bench.is)
