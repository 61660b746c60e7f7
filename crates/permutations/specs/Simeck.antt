-- The Simeck box on two words of m bits, and its inverse. Assumes nothing.
use Rattle.std.specs.Prelude.{ℕ, zero, suc, ◌+◌, ◌-◌, ◌*◌, ◌/◌, ◌%◌, ◌^◌, ◌<◌, bit_and, bit_or, bit_xor}

-- the words of a subblock
pub record SubblockWords : Type 0 where
  pub left : ℕ
  pub right : ℕ

abbrev pub block : ℕ → ℕ → SubblockWords
block l r = record { left = l; right = r }

-- both words keep to m bits
pub record Fit (m : ℕ) (b : SubblockWords) : Type 0 where
  pub left : b.left < 2 ^ m
  pub right : b.right < 2 ^ m

-- a word of m bits, turned left by i places
unfoldable pub turned : ℕ → ℕ → ℕ → ℕ
turned m i x = bit_or (x * 2 ^ i % 2 ^ m) (x / 2 ^ (m - i))

-- x turned by 5 and x, xor x turned by 1
abbrev pub mixed : ℕ → ℕ → ℕ
mixed m x = bit_xor (bit_and (turned m 5 x) x) (turned m 1 x)

-- all ones but for the lowest bit, which is bit k of the round constant
abbrev pub gamma : ℕ → ℕ → ℕ → ℕ
gamma m rc k = 2 ^ m - 2 + rc / 2 ^ k % 2

-- one round: the new word goes left, and the old left word right
abbrev pub round : ℕ → ℕ → SubblockWords → SubblockWords
round m g b = block (bit_xor (bit_xor (mixed m b.left) b.right) g) b.left

abbrev pub unround : ℕ → ℕ → SubblockWords → SubblockWords
unround m g b = block b.right (bit_xor (bit_xor (mixed m b.right) b.left) g)

-- u rounds under the round constant rc
unfoldable pub box : ℕ → ℕ → ℕ → SubblockWords → SubblockWords
box m rc zero b = b
box m rc (suc k) b = round m (gamma m rc k) (box m rc k b)

-- u rounds undone, the last first
unfoldable pub unbox : ℕ → ℕ → ℕ → SubblockWords → SubblockWords
unbox m rc zero b = b
unbox m rc (suc k) b = unbox m rc k (unround m (gamma m rc k) b)
