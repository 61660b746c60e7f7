-- What a suite is: how SpoC stands on a permutation. Assumes nothing.
use Rattle.std.specs.Prelude.{◌≡◌, ℕ, ◌<◌, ◌≤◌, List, ◌++◌, length, slice_index}
use Rattle.permutations.specs.Permutation.{Bytes, Perm}

-- how SpoC stands on a permutation: begin makes a start of the permutation's forward, a key and a nonce
pub record Plan : Type 0 where
  pub version : ℕ
  pub rate : ℕ
  pub rate_places : List ℕ
  pub masked_places : List ℕ
  pub begin : (List ℕ → List ℕ) → List ℕ → List ℕ → List ℕ

-- the rate places and then the masked places
abbrev pub places : Plan → List ℕ
places q = q.rate_places ++ q.masked_places

-- the state that a key and a nonce start from
abbrev pub start : Perm → Plan → List ℕ → List ℕ → List ℕ
start p q k n = q.begin p.forward k n

-- the suite rule: a version of 16 bits and a rate of 1 to 16; as many rate places and as many masked places, all different and within the state;
-- a start as wide as the state, and under one nonce different starts for different keys
pub record Sound (p : Perm) (q : Plan) : Type 0 where
  pub version_small : q.version < 65536
  pub rate_low : 1 ≤ q.rate
  pub rate_high : q.rate ≤ 16
  pub rate_count : length q.rate_places ≡ q.rate
  pub masked_count : length q.masked_places ≡ q.rate
  pub inside : (i : ℕ) → i < length (places q) → slice_index (places q) i < p.size
  pub apart : (i j : ℕ) → i < length (places q) → j < length (places q) → slice_index (places q) i ≡ slice_index (places q) j → i ≡ j
  pub begin_bytes : (k n : List ℕ) → Bytes 16 k → Bytes 16 n → Bytes p.size (start p q k n)
  pub begin_apart : (k l n : List ℕ) → Bytes 16 k → Bytes 16 l → Bytes 16 n → start p q k n ≡ start p q l n → k ≡ l
