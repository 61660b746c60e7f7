-- The ring suite. Assumes nothing.
use Rattle.std.specs.Prelude.{[], ◌∷◌, ◌++◌, drop}
use Rattle.permutations.specs.Bytes.{xors}
use Rattle.spoc.specs.Suite.{Plan}

-- the start is forward of the key xor the nonce, and then the nonce's last 7 bytes
abbrev pub ring_plan : Plan
ring_plan =
    record {
      version = 777;
      rate = 5;
      rate_places = 21 ∷ 13 ∷ 17 ∷ 11 ∷ 19 ∷ [];
      masked_places = 7 ∷ 1 ∷ 9 ∷ 3 ∷ 5 ∷ [];
      begin = λ f k n. f (xors k n ++ drop 9 n);
    }
