-- The known bytes, all together.
use Rattle.std.proofs.Common.{cond, [], is_ok, Ok, Err, refl, ap, arith, lit≤, le-leb}
use Rattle.permutations.specs.Bench.{forward}
use Rattle.permutations.specs.Bytes.{xors, load, store, loads, stores}
use Rattle.permutations.specs.Constants.{constants_192, constants_256}
use Rattle.permutations.specs.Light.{forward_by}
use Rattle.permutations.specs.Simeck.{turned, box}
use Rattle.permutations.specs.Steps.{steps as table_steps}
use Rattle.permutations.specs.Known.{KnownStates}
use Rattle.cards.specs.Faults.{fault}
use Rattle.cards.specs.Reader.{checked, walk}
use Rattle.spoc.specs.Known.{BenchExamples}
use Rattle.known.specs.Known.{KnownBytes, bench_cipher, bench_key, bare_card}
use Rattle.known.proofs.Bare.{bare_gives, start_is, one_byte}

-- by computation
steps : KnownStates
unfolding constants_192 constants_256 turned box load store loads stores table_steps forward_by
steps = (refl, refl)

sealings : BenchExamples
unfolding forward xors
sealings = (refl, refl, refl, refl, refl, refl, refl, refl)

pub known_bytes : KnownBytes
unfolding forward xors walk
known_bytes = record {
  first_steps = steps;
  sealings = sealings;
  written = bare_gives;
  reads = record {
    card = checked bench_cipher bench_key bare_card [];
    passes = λ n long. ap (λ t. cond t (Ok (checked bench_cipher bench_key bare_card [])) (Err (fault 4 1 0 0))) (le-leb 16 n long);
    counts = refl;
    gives = λ i buffer d below long. absurd (omega arith);
  };
  spoilt = λ n long. ap (λ t. cond t (Err (fault 6 1 0 22)) (Err (fault 4 1 0 0))) (le-leb 16 n long);
  starts = λ m long. ap is_ok (start_is m (omega arith));
  appends = one_byte 48 (lit≤ tt);
  refuses = one_byte 47 (lit≤ tt);
}
