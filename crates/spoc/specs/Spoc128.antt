-- SpoC-128, over sLiSCP-light-[256]: subblocks S0 to S3 of 8 bytes. Assumes nothing.
use Rattle.std.specs.Prelude.{ℕ, List, [], ◌∷◌, ◌++◌, take, drop}
use Rattle.spoc.specs.Suite.{Plan}

-- N0, K0, N1, K1
unfoldable pub begin_128 : (List ℕ → List ℕ) → List ℕ → List ℕ → List ℕ
begin_128 f k n = take 8 n ++ (take 8 k ++ (drop 8 n ++ drop 8 k))

-- the rate is S0 and then S2; S1 and then S3 are masked
abbrev pub spoc_128 : Plan
spoc_128 =
    record {
      version = 2;
      rate = 16;
      rate_places = 0 ∷ 1 ∷ 2 ∷ 3 ∷ 4 ∷ 5 ∷ 6 ∷ 7 ∷ 16 ∷ 17 ∷ 18 ∷ 19 ∷ 20 ∷ 21 ∷ 22 ∷ 23 ∷ [];
      masked_places = 8 ∷ 9 ∷ 10 ∷ 11 ∷ 12 ∷ 13 ∷ 14 ∷ 15 ∷ 24 ∷ 25 ∷ 26 ∷ 27 ∷ 28 ∷ 29 ∷ 30 ∷ 31 ∷ [];
      begin = begin_128;
    }
