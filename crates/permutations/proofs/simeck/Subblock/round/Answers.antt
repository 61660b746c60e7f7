use Rattle.std.proofs.Common.{◌*◌, arith}
use Rattle.permutations.specs.Boxes.{gamma_lt, round_fit}
use Rattle.permutations.specs.Simeck.{block}
use Rattle.permutations.proofs.simeck.Subblock.round.Goals as goal

pub invariant_of-result : goal.invariant_of-result
invariant_of-result g c =
    let m = 8 * g.W.Width.BYTES in
    let b = block c.self.inside.left c.self.inside.right in
    rw (c.turn.ensures, c.turn-2.ensures, c.round_word.ensures)
    (round_fit m _ b (gamma_lt m c.args.rc c.args.k (omega (arith, g.W.Width.some))) c.self.invariant)
