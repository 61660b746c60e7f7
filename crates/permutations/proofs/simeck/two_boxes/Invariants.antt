use Rattle.std.proofs.Common.{◌≡◌, ◌*◌}
use Rattle.permutations.specs.Simeck.{box}
use Rattle.permutations.proofs.simeck.two_boxes.Given as goal

abbrev pub invariant-loop-k : goal.invariant-loop-k
invariant-loop-k g l = let m = 8 * g.W.Width.BYTES in (l.x ≡ box m l.rc0 l.k l.initial.x) × (l.y ≡ box m l.rc1 l.k l.initial.y)
