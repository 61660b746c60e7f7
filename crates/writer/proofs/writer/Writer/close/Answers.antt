use Rattle.cards.proofs.Claims.{runs_hold}
use Rattle.writer.proofs.writer.Writer.close.Goals as goal

pub returns-then-medium-length-clause-law : goal.returns-then-medium-length-clause-law
returns-then-medium-length-clause-law g c = runs_hold g.C.Sealer.meaning g.met.C.Sealer.laws

pub returns-clause-law : goal.returns-clause-law
returns-clause-law g c = runs_hold g.C.Sealer.meaning g.met.C.Sealer.laws
