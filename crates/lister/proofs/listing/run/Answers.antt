use Rattle.std.proofs.Common.{arith, le_refl}
use Rattle.streams.specs.Fronts.{Writes}
use Rattle.lister.proofs.Writing.{of_read, loses_read}
use Rattle.lister.proofs.listing.run.Goals as goal

pub returns-clause-written : goal.returns-clause-written
returns-clause-written g c =
    of_read _ _ 65553 _ (Writes c.list.result (g.W.Write.contents c.args.out.now) (g.W.Write.contents c.list.new.out)) (omega arith) c.in_ok-length.ensures.ok c.list.ensures

pub returns-clause-lost : goal.returns-clause-lost
returns-clause-lost g c = loses_read _ _ _ _ (le_refl 65553) c.in_ok-length.ensures.ok
