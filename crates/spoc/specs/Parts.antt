-- Parts of lists of bytes. Assumes nothing.
use Rattle.std.specs.Prelude.{◌≡◌, ℕ, ◌+◌, ◌≤◌, List, ◌++◌, length, take, drop, refl}
use Rattle.std.proofs.Common.{sym, ap, ap₂, ◌∙◌, arith, length-append, length-take, length-drop, take_at, drop_at}
use Rattle.std.proofs.ByRecursion.{All-append, All-take, All-drop}
use Rattle.permutations.specs.Permutation.{Bytes}
use Rattle.permutations.specs.Words.{Byte}

-- equal lists in two parts of equal lengths
pub parts : (a b c d : List ℕ) → length a ≡ length c → a ++ b ≡ c ++ d → (a ≡ c) × (b ≡ d)
parts a b c d n e = (
  sym (take_at a b (length a) refl) ∙ ap (take (length a)) e ∙ take_at c d (length a) (sym n),
  sym (drop_at a b (length a) refl) ∙ ap (drop (length a)) e ∙ drop_at c d (length a) (sym n),
)

-- a list of bytes in two parts
pub bytes_append : (m n : ℕ) (a b : List ℕ) → Bytes m a → Bytes n b → Bytes (m + n) (a ++ b)
bytes_append m n a b h k = record { size = length-append a b ∙ ap₂ (λ x y. x + y) h.size k.size; small = All-append Byte a b h.small k.small }

-- a half of 8 bytes, cut
pub first_half : (k : List ℕ) → Bytes 16 k → Bytes 8 (take 8 k)
first_half k h = record { size = length-take 8 k ∙ omega (arith, h.size); small = All-take Byte 8 k h.small }

pub second_half : (k : List ℕ) → Bytes 16 k → Bytes 8 (drop 8 k)
second_half k h = record { size = length-drop 8 k ∙ omega (arith, h.size); small = All-drop Byte 8 k h.small }

pub cut_front : (n : ℕ) (s : List ℕ) → n ≤ 8 → Bytes 8 s → Bytes n (take n s)
cut_front n s l h = record { size = length-take n s ∙ omega (arith, h.size); small = All-take Byte n s h.small }

pub cut_back : (n m : ℕ) (s : List ℕ) → n + m ≡ 8 → Bytes 8 s → Bytes m (drop n s)
cut_back n m s l h = record { size = length-drop n s ∙ omega (arith, h.size); small = All-drop Byte n s h.small }
