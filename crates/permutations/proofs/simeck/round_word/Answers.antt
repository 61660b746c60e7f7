use Rattle.std.proofs.Common.{arith}
use Rattle.permutations.proofs.Widths.{byte_fits}
use Rattle.permutations.proofs.simeck.round_word.Goals as goal

pub overflow_sub-result : goal.overflow_sub-result
overflow_sub-result g c = omega (arith, g.met.W.Width.ones, byte_fits g.W.Width.BYTES g.W.Width.some)
