use Rattle.std.proofs.Common.{◌≡◌, length}
use Rattle.permutations.specs.Bytes.{xors}
use Rattle.spoc.proofs.Masks.{so_far}
use Rattle.spoc.proofs.mode.Duplex.mask_in.Given as goal

abbrev pub invariant-loop-place : goal.invariant-loop-place
invariant-loop-place g l =
    (goal.iterator-loop-place g).can_next l.place-iterator
    × (goal.iterator-loop-place g).is_finite l.place-iterator
    × (l.self.state ≡ xors l.initial.self.state (so_far g.S.Bijection.meaning g.S.SuiteModel.plan g.met.S.SuiteModel.sound l.bytes (length l.yielded)))
