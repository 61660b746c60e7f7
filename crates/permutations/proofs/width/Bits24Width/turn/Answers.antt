use Rattle.std.proofs.Common.{arith}
use Rattle.permutations.proofs.Turning.{rotated_24}
use Rattle.permutations.proofs.width.Bits24Width.turn.Goals as goal

pub returns : goal.returns
returns c = rotated_24 c.args.by c.args.x c.rotate_left.result (omega arith) (omega arith) (omega arith) c.rotate_left.ensures
