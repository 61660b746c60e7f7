use Rattle.std.proofs.Common.{◌≡◌, length, drop}
use Rattle.permutations.specs.Bytes.{xors}
use Rattle.permutations.specs.Light.{light_192}
use Rattle.permutations.specs.Lights.{bijective_192}
use Rattle.spoc.specs.Spoc64.{spoc_64}
use Rattle.spoc.specs.Starts.{sound_64}
use Rattle.spoc.proofs.Masks.{so_far}
use Rattle.spoc.proofs.spoc64.mask_nonce.Given as goal

abbrev pub invariant-loop-place : goal.invariant-loop-place
invariant-loop-place l =
    goal.iterator-loop-place.can_next l.place-iterator
    × goal.iterator-loop-place.is_finite l.place-iterator
    × (l.state ≡ xors l.initial.state (so_far light_192 spoc_64 (sound_64 bijective_192) (drop 8 l.nonce) (length l.yielded)))
