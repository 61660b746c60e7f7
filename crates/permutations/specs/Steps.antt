-- The steps of sLiSCP-light on words of m bits, with boxes of u rounds. Assumes nothing.
use Rattle.std.specs.Prelude.{ℕ, ◌+◌, ◌-◌, ◌^◌, ◌<◌, List, [], ◌∷◌, bit_xor}
use Rattle.permutations.specs.declared.constants.StepConstants.{StepConstants}
use Rattle.permutations.specs.Simeck.{SubblockWords, block, box, unbox, Fit}

-- the words of a state
pub record StateWords : Type 0 where
  pub s0 : SubblockWords
  pub s1 : SubblockWords
  pub s2 : SubblockWords
  pub s3 : SubblockWords

-- all words keep to m bits
pub record FitsIn (m : ℕ) (s : StateWords) : Type 0 where
  pub s0 : Fit m s.s0
  pub s1 : Fit m s.s1
  pub s2 : Fit m s.s2
  pub s3 : Fit m s.s3

-- a subblock of ones but for its last byte
abbrev pub ones_but : ℕ → ℕ → SubblockWords
ones_but m sc = block (2 ^ m - 1) (2 ^ m - 256 + sc)

abbrev pub xored : SubblockWords → SubblockWords → SubblockWords
xored a b = block (bit_xor a.left b.left) (bit_xor a.right b.right)

-- S0 to S3 become box(S1), S2 xor box(S3) xor c1, box(S3) and S0 xor box(S1) xor c0
abbrev pub step : ℕ → ℕ → StepConstants → StateWords → StateWords
step m u k s =
    let b1 : SubblockWords = box m k.rc0 u s.s1 in
    let b3 : SubblockWords = box m k.rc1 u s.s3 in
    record {
      s0 = b1;
      s1 = xored (xored s.s2 b3) (ones_but m k.sc1);
      s2 = b3;
      s3 = xored (xored s.s0 b1) (ones_but m k.sc0);
    }

abbrev pub unstep : ℕ → ℕ → StepConstants → StateWords → StateWords
unstep m u k s =
    record {
      s0 = xored (xored s.s3 s.s0) (ones_but m k.sc0);
      s1 = unbox m k.rc0 u s.s0;
      s2 = xored (xored s.s1 s.s2) (ones_but m k.sc1);
      s3 = unbox m k.rc1 u s.s2;
    }

-- the steps of a table, the first first
unfoldable pub steps : ℕ → ℕ → List StepConstants → StateWords → StateWords
steps m u [] s = s
steps m u (k ∷ ks) s = steps m u ks (step m u k s)

-- the steps of a table undone, the last first
unfoldable pub unsteps : ℕ → ℕ → List StepConstants → StateWords → StateWords
unsteps m u [] s = s
unsteps m u (k ∷ ks) s = unstep m u k (unsteps m u ks s)

-- step constants that are bytes
pub record Small (k : StepConstants) : Type 0 where
  pub sc0 : k.sc0 < 256
  pub sc1 : k.sc1 < 256
