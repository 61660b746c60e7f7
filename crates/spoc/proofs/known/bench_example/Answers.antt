use Rattle.std.proofs.Common.{refl}
use Rattle.permutations.specs.Bench.{forward}
use Rattle.permutations.specs.Bytes.{xors}
use Rattle.spoc.proofs.known.bench_example.Goals as goal

-- by computation
pub returns : goal.returns
unfolding forward xors
returns c = record { ciphertext = c.seal.ensures.out; tag = c.seal.ensures.tag; examples = (refl, refl, refl, refl, refl, refl, refl, refl) }
