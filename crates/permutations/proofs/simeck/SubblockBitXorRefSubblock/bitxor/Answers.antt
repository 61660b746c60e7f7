use Rattle.permutations.specs.Walking.{xored_fit}
use Rattle.permutations.proofs.simeck.SubblockBitXorRefSubblock.bitxor.Goals as goal

pub invariant_of-result : goal.invariant_of-result
invariant_of-result g c = xored_fit _ _ _ c.self.invariant c.other.invariant
