use Rattle.std.proofs.Common.{refl}
use Rattle.permutations.specs.Bytes.{load, store, loads, stores}
use Rattle.permutations.specs.Constants.{constants_192, constants_256}
use Rattle.permutations.specs.Light.{forward_by}
use Rattle.permutations.specs.Simeck.{turned, box}
use Rattle.permutations.specs.Steps.{steps}
use Rattle.permutations.proofs.known.first_steps.Goals as goal

-- by computation
pub returns : goal.returns
unfolding constants_192 constants_256 turned box load store loads stores steps forward_by
returns c = record { light192 = c.forward_by.ensures.state; light256 = c.forward_by-2.ensures.state; states = (refl, refl) }
