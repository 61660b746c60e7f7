use Rattle.std.proofs.Common.{length}
use Rattle.spoc.proofs.Compare.{Seen}
use Rattle.spoc.proofs.mode.Duplex.tag_agrees.Given as goal

abbrev pub invariant-loop-place : goal.invariant-loop-place
invariant-loop-place g l =
    (goal.iterator-loop-place g).can_next l.place-iterator
    × (goal.iterator-loop-place g).is_finite l.place-iterator
    × Seen l.difference g.S.SuiteModel.plan.masked_places l.self.state l.tag (length l.yielded)
