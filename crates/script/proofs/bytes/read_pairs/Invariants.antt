use Rattle.std.proofs.Common.{◌≡◌, vec_items}
use Rattle.std.specs.Slice.Iter.{chunks_rest, chunks_size}
use Rattle.script.specs.Hex.{pairs}
use Rattle.script.proofs.Pairing.{after}
use Rattle.script.proofs.bytes.read_pairs.Given as goal

abbrev pub invariant-loop-pair : goal.invariant-loop-pair
invariant-loop-pair l =
    (goal.iterator-loop-pair).can_next l.pair-iterator × (goal.iterator-loop-pair).is_finite l.pair-iterator × (chunks_size l.pair-iterator ≡ 2)
    × (after (vec_items l.bytes) (pairs (chunks_rest l.pair-iterator)) ≡ pairs l.digits)
