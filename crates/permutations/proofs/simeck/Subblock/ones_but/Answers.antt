use Rattle.std.proofs.Common.{arith}
use Rattle.permutations.proofs.Widths.{byte_fits}
use Rattle.permutations.proofs.simeck.Subblock.ones_but.Goals as goal

pub overflow_sub-result : goal.overflow_sub-result
overflow_sub-result g c = omega (arith, g.met.W.Width.ones, byte_fits g.W.Width.BYTES g.W.Width.some)

pub invariant_of-result : goal.invariant_of-result
invariant_of-result g c =
    let big = byte_fits g.W.Width.BYTES g.W.Width.some in
    record { left = omega (arith, g.met.W.Width.ones); right = omega (arith, g.met.W.Width.ones) }
