use Rattle.permutations.specs.Whole.{undo_whole}
use Rattle.permutations.proofs.permutation.there_and_back.Goals as goal

pub returns-in_err-forward_by-clause-whole : goal.returns-in_err-forward_by-clause-whole
returns-in_err-forward_by-clause-whole g c = undo_whole g.P.Bijection.meaning g.P.Bijection.bijective

pub returns-clause-whole : goal.returns-clause-whole
returns-clause-whole g c = undo_whole g.P.Bijection.meaning g.P.Bijection.bijective
