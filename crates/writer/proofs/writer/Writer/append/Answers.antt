use Rattle.cards.proofs.Claims.{runs_hold}
use Rattle.writer.proofs.writer.Writer.append.Goals as goal

pub returns-in_err-n-clause-law : goal.returns-in_err-n-clause-law
returns-in_err-n-clause-law g c = runs_hold g.C.Sealer.meaning g.met.C.Sealer.laws

pub returns-clause-law : goal.returns-clause-law
returns-clause-law g c = runs_hold g.C.Sealer.meaning g.met.C.Sealer.laws
