use Rattle.std.proofs.Common.{◌∙◌, arith}
use Rattle.permutations.proofs.Turning.{rotated}
use Rattle.permutations.proofs.width.Bits32Width.turn.Goals as goal

pub returns : goal.returns
returns c = c.rotate_left.ensures ∙ rotated c.args.by c.args.x (omega arith) (omega arith)
