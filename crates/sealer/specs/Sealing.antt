-- A cipher as the layers above see it: lists of bytes in, lists of bytes out. Assumes nothing.
use Rattle.std.specs.Prelude.{◌≡◌, ℕ, ◌<◌, ◌≤◌, List, length, Some, Option}
use Rattle.std.specs.List.{AllByRecursion}
use Rattle.permutations.specs.Permutation.{Bytes}

-- bytes, however many
abbrev pub Octets : List ℕ → Type 0
Octets s = AllByRecursion (λ x. x < 256) s

-- what a cipher means to cards: the version in a header, how many bytes a tag has, and three functions.
-- Each takes key, nonce and data; then a message, or a ciphertext and a tag, whose message opens gives if the tag agrees
pub record Sealing : Type 0 where
  pub version : ℕ
  pub width : ℕ
  pub ciphertext : List ℕ → List ℕ → List ℕ → List ℕ → List ℕ
  pub tag : List ℕ → List ℕ → List ℕ → List ℕ → List ℕ
  pub opens : List ℕ → List ℕ → List ℕ → List ℕ → List ℕ → Option (List ℕ)

-- the sealer's rule: a version of 16 bits and a width of 1 to 16; a ciphertext as long as its message, and a tag as long as the width;
-- opens accepts a ciphertext and a tag exactly when some message seals to them, which is then the only one, and gives it;
-- of bytes all three functions make bytes
pub record Laws (S : Sealing) : Type 0 where
  pub version_small : S.version < 65536
  pub width_low : 1 ≤ S.width
  pub width_high : S.width ≤ 16
  pub ciphertext_length : (k n d m : List ℕ) → length (S.ciphertext k n d m) ≡ length m
  pub tag_length : (k n d m : List ℕ) → length (S.tag k n d m) ≡ S.width
  pub opens_sealed : (k n d m : List ℕ) → S.opens k n d (S.ciphertext k n d m) (S.tag k n d m) ≡ Some m
  pub only_sealed : (k n d c t m : List ℕ) → S.opens k n d c t ≡ Some m → (S.ciphertext k n d m ≡ c) × (S.tag k n d m ≡ t)
  pub ciphertext_octets : (k n d m : List ℕ) → Bytes 16 k → Bytes 16 n → Octets d → Octets m → Octets (S.ciphertext k n d m)
  pub opens_octets : (k n d c t m : List ℕ) → Bytes 16 k → Bytes 16 n → Octets d → Octets c → S.opens k n d c t ≡ Some m → Octets m
  pub tag_octets : (k n d m : List ℕ) → Bytes 16 k → Bytes 16 n → Octets d → Octets m → Octets (S.tag k n d m)
