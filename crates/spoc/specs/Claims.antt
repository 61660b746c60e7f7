-- What holds of the feeds and end states of every suite. Assumes nothing.
use Rattle.std.specs.Prelude.{◌≡◌, ℕ, ◌≢◌, List, ◌∷◌, ◌++◌}
use Rattle.permutations.specs.Permutation.{Bytes, Perm}
use Rattle.spoc.specs.Feed.{feed, end_state}
use Rattle.sealer.specs.Sealing.{Octets, Laws}
use Rattle.spoc.specs.Sealing.{spoc}
use Rattle.spoc.specs.Suite.{Plan, start}

-- two pairs of data and message with one feed are one pair
abbrev pub FeedsDistinct : Perm → Plan → Type 0
FeedsDistinct p q = (d m e n : List ℕ) → feed p q d m ≡ feed p q e n → (d ≡ e) × (m ≡ n)

-- two rows of equal length that differ in exactly one mask
pub record DifferInOne (xs ys : List (List ℕ)) : Type 0 where
  pub front : List (List ℕ)
  pub one : List ℕ
  pub other : List ℕ
  pub back : List (List ℕ)
  pub left : xs ≡ front ++ one ∷ back
  pub right : ys ≡ front ++ other ∷ back
  pub differ : one ≢ other

-- two feeds that differ in exactly one mask lead one start to different end states, whatever state of so many bytes it is
abbrev pub OneMaskTells : Perm → Plan → Type 0
OneMaskTells p q =
    (s d m e n : List ℕ) → Bytes p.size s → Octets d → Octets m → Octets e → Octets n
    → DifferInOne (feed p q d m) (feed p q e n) → end_state p q s d m ≢ end_state p q s e n

-- the start of a key and a nonce is such a state
abbrev pub StartsAreStates : Perm → Plan → Type 0
StartsAreStates p q = (k v : List ℕ) → Bytes 16 k → Bytes 16 v → Bytes p.size (start p q k v)

-- one feed under one nonce leads two different keys to different end states
abbrev pub KeyTells : Perm → Plan → Type 0
KeyTells p q =
    (k l v d m : List ℕ) → Bytes 16 k → Bytes 16 l → Bytes 16 v → Octets d → Octets m
    → k ≢ l → end_state p q (start p q k v) d m ≢ end_state p q (start p q l v) d m

-- all of it, with the laws of the cipher
pub record Claims (p : Perm) (q : Plan) : Type 0 where
  pub feeds_distinct : FeedsDistinct p q
  pub one_mask_tells : OneMaskTells p q
  pub starts_are_states : StartsAreStates p q
  pub key_tells : KeyTells p q
  pub laws : Laws (spoc p q)
