use Rattle.std.proofs.Common.{arith}
use Rattle.spoc.specs.Rows.{xors_pick}
use Rattle.spoc.proofs.mode.Duplex.xor_places.Goals as goal

pub returns : goal.returns
returns g c = xors_pick c.loop-i.out c.args.block.now c.args.places.now c.args.self.now.state (omega arith) (omega (arith, c.requires.all)) (λ k h. c.loop-i.invariant k (omega arith))
