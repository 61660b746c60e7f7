use Rattle.std.proofs.Common.{◌*◌, refl}
use Rattle.permutations.specs.Simeck.{box}
use Rattle.permutations.specs.Boxes.{box_next}
use Rattle.permutations.proofs.simeck.two_boxes.Goals as goal

pub loop-k-init : goal.loop-k-init
unfolding box
loop-k-init g c = (refl, refl)

pub loop-k-preserved : goal.loop-k-preserved
loop-k-preserved g c =
    let m = 8 * g.W.Width.BYTES in
    let l = c.loop-k in (
      box_next m c.args.rc0 l.k c.args.a l.x _ l.invariant.0 c.round-x.ensures,
      box_next m c.args.rc1 l.k c.args.b l.y _ l.invariant.1 c.round-y.ensures,
    )
