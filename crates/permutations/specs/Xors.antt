-- What is xored in twice goes away. Assumes nothing.
use Rattle.std.specs.Prelude.{◌≡◌, ℕ, zero, suc, ◌<◌, ◌≤◌, min, List, [], ◌∷◌, ◌++◌, length, take, bit_xor, slice_index, refl}
use Rattle.std.proofs.Common.{sym, ap, ap₂, ◌∙◌, le_of_suc-le-suc, arith}
use Rattle.std.proofs.lemmas.Nat.{xor_lt, xor_comm}
use Rattle.std.specs.Int.Bits.{xor_assoc, xor_self, xor_zero_l, xor_zero_r}
use Rattle.std.specs.List.{AllByRecursion}
use Rattle.permutations.specs.Bytes.{xors}
use Rattle.permutations.specs.Words.{Byte}

pub xor_back : (a b : ℕ) → bit_xor a (bit_xor a b) ≡ b
xor_back a b = sym (xor_assoc a a b) ∙ ap (λ x. bit_xor x b) (xor_self a) ∙ xor_zero_l b

pub xor_off : (a g : ℕ) → bit_xor (bit_xor a g) g ≡ a
xor_off a g = xor_assoc a g g ∙ ap (bit_xor a) (xor_self g) ∙ xor_zero_r a

-- f ⊕ ((f ⊕ r) ⊕ g) ⊕ g = r
pub xor_round : (f r g : ℕ) → bit_xor (bit_xor f (bit_xor (bit_xor f r) g)) g ≡ r
xor_round f r g = ap (λ x. bit_xor x g) (sym (xor_assoc f (bit_xor f r) g) ∙ ap (λ x. bit_xor x g) (xor_back f r)) ∙ xor_off r g

-- ((x ⊕ y) ⊕ c) ⊕ y ⊕ c = x
pub xor_mix : (x y c : ℕ) → bit_xor (bit_xor (bit_xor (bit_xor x y) c) y) c ≡ x
xor_mix x y c =
    ap (λ z. bit_xor z c) (xor_assoc (bit_xor x y) c y ∙ ap (bit_xor (bit_xor x y)) (xor_comm c y) ∙ sym (xor_assoc (bit_xor x y) y c) ∙ ap (λ z. bit_xor z c) (xor_off x y))
    ∙ xor_off x c

-- ---- byte by byte

pub length_xors : (xs ys : List ℕ) → length (xors xs ys) ≡ min (length xs) (length ys)
unfolding xors
length_xors [] ys = omega arith
length_xors (x ∷ xs) [] = omega arith
length_xors (x ∷ xs) (y ∷ ys) = ap suc (length_xors xs ys) ∙ omega arith

pub xors_bytes : (xs ys : List ℕ) → AllByRecursion Byte xs → AllByRecursion Byte ys → AllByRecursion Byte (xors xs ys)
unfolding xors
xors_bytes [] ys h k = tt
xors_bytes (x ∷ xs) [] h k = tt
xors_bytes (x ∷ xs) (y ∷ ys) h k = (xor_lt 8 x y h.0 k.0, xors_bytes xs ys h.1 k.1)

pub xors_off : (xs ys : List ℕ) → length xs ≤ length ys → xors (xors xs ys) ys ≡ xs
unfolding xors
xors_off [] ys h = refl
xors_off (x ∷ xs) [] h = absurd (omega arith)
xors_off (x ∷ xs) (y ∷ ys) h = ap₂ (λ a b. a ∷ b) (xor_off x y) (xors_off xs ys (le_of_suc-le-suc h))

-- one byte more
pub xors_push : (xs ys : List ℕ) (i : ℕ) → i < length xs → i < length ys → xors (take (suc i) xs) (take (suc i) ys) ≡ xors (take i xs) (take i ys) ++ (bit_xor (slice_index xs i) (slice_index ys i) ∷ [])
unfolding xors
xors_push [] ys i h k = absurd (omega arith)
xors_push (x ∷ xs) [] i h k = absurd (omega arith)
xors_push (x ∷ xs) (y ∷ ys) zero h k = refl
xors_push (x ∷ xs) (y ∷ ys) (suc i) h k = ap (λ z. bit_xor x y ∷ z) (xors_push xs ys i (le_of_suc-le-suc h) (le_of_suc-le-suc k))
