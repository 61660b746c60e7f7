-- Both sLiSCP-light permutations: by each number of steps forward and back undo each other. Assumes nothing.
use Rattle.std.proofs.Common.{◌≡◌, length, refl, arith, rules}
use Rattle.std.specs.List.{AllByRecursion}
use Rattle.permutations.specs.declared.constants.TheConstants.{STEPS}
use Rattle.permutations.specs.Constants.{constants_192, constants_256}
use Rattle.permutations.specs.Light.{light_192, light_256}
use Rattle.permutations.specs.Permutation.{Bijective}
use Rattle.permutations.specs.Steps.{Small}
use Rattle.permutations.specs.Loading

pub small_192 : AllByRecursion Small constants_192
unfolding constants_192
small_192 = search rules

pub long_192 : length constants_192 ≡ STEPS
unfolding constants_192
long_192 = refl

pub small_256 : AllByRecursion Small constants_256
unfolding constants_256
small_256 = search rules

pub long_256 : length constants_256 ≡ STEPS
unfolding constants_256
long_256 = refl

pub bijective_192 : Bijective light_192
bijective_192 = Loading.bijective 3 6 constants_192 small_192 (omega arith) (omega arith)

pub bijective_256 : Bijective light_256
bijective_256 = Loading.bijective 4 8 constants_256 small_256 (omega arith) (omega arith)
