-- SpoC-64, over sLiSCP-light-[192]: subblocks S0 to S3 of 6 bytes. Assumes nothing.
use Rattle.std.specs.Prelude.{ℕ, List, [], ◌∷◌, ◌++◌, take, drop, replicate}
use Rattle.permutations.specs.Bytes.{xors}
use Rattle.spoc.specs.Feed.{put}
use Rattle.spoc.specs.Suite.{Plan}

-- S1[0–3], then S3[0–3]
abbrev pub masked_64 : List ℕ
masked_64 = 6 ∷ 7 ∷ 8 ∷ 9 ∷ 18 ∷ 19 ∷ 20 ∷ 21 ∷ []

-- S0 to S3, of K0, K1 and N0: N0[0–3] K0[6–7], K0[0–5], N0[4–7] K1[6–7], K1[0–5]
unfoldable pub loaded : List ℕ → List ℕ → List ℕ → List ℕ
loaded k0 k1 n0 = (take 4 n0 ++ drop 6 k0) ++ (take 6 k0 ++ ((drop 4 n0 ++ drop 6 k1) ++ take 6 k1))

-- forward follows, and N1 is xored into the masked places
unfoldable pub begin_64 : (List ℕ → List ℕ) → List ℕ → List ℕ → List ℕ
begin_64 f k n = xors (f (loaded (take 8 k) (drop 8 k) (take 8 n))) (put masked_64 (drop 8 n) (replicate 24 0))

-- the rate is S0[0–3] and then S2[0–3]
abbrev pub spoc_64 : Plan
spoc_64 =
    record {
      version = 1;
      rate = 8;
      rate_places = 0 ∷ 1 ∷ 2 ∷ 3 ∷ 12 ∷ 13 ∷ 14 ∷ 15 ∷ [];
      masked_places = masked_64;
      begin = begin_64;
    }
