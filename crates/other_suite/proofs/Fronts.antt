-- The front of a state with bytes xored in. Assumes nothing.
use Rattle.std.specs.Prelude.{◌≡◌, ℕ, zero, suc, ◌+◌, ◌<◌, List, [], ◌∷◌, ◌++◌, length, take, drop, bit_xor, slice_index_or, slice_set, refl}
use Rattle.std.proofs.Common.{sym, ap, ap₂, ◌∙◌, append-nil, add-one, le_of_suc-le-suc, arith, length-drop, take_at, drop_at}
use Rattle.std.proofs.lemmas.List.{take_all, drop_all}
use borrow.Rule.Slice.PartMut.{mid_of, put_mid}
use Rattle.permutations.specs.Bytes.{xors}

-- the first i bytes of s with those of b xored in, and the rest of s
abbrev front : List ℕ → List ℕ → ℕ → List ℕ
front s b i = xors (take i s) (take i b) ++ drop i s

front_suc : (s b : List ℕ) (i : ℕ) → i < length s → i < length b → slice_set (front s b i) i (bit_xor (slice_index_or (front s b i) i 0) (slice_index_or b i 0)) ≡ front s b (suc i)
unfolding xors
front_suc [] b i h k = absurd (omega arith)
front_suc (x ∷ s) [] i h k = absurd (omega arith)
front_suc (x ∷ s) (y ∷ b) zero h k = refl
front_suc (x ∷ s) (y ∷ b) (suc i) h k = ap (λ z. bit_xor x y ∷ z) (front_suc s b i (le_of_suc-le-suc h) (le_of_suc-le-suc k))

pub front_more : (s b t : List ℕ) (i : ℕ) → t ≡ front s b i → i < length s → i < length b → slice_set t i (bit_xor (slice_index_or t i 0) (slice_index_or b i 0)) ≡ front s b (i + 1)
front_more s b t i e h k = ap (λ z. slice_set z i (bit_xor (slice_index_or z i 0) (slice_index_or b i 0))) e ∙ front_suc s b i h k ∙ sym (ap (front s b) (add-one i))

-- k and the last 7 bytes of n as the code puts them together, with n xored in
pub front_loaded : (k n x y z : List ℕ) → length k ≡ 16 → length n ≡ 16 → length z ≡ 7 → x ≡ k → y ≡ mid_of 9 7 n
    → xors (take (length n) (put_mid 16 7 (x ++ z) y)) n ++ drop (length n) (put_mid 16 7 (x ++ z) y) ≡ xors k n ++ drop 9 n
front_loaded k n x y z lk ln lz p q =
    let lx : length x ≡ 16 = ap length p ∙ lk in
    let loaded : put_mid 16 7 (x ++ z) y ≡ x ++ y =
    ap₂ (λ a b. a ++ (y ++ b)) (take_at x z 16 lx) (ap (drop 7) (drop_at x z 16 lx) ∙ drop_all 7 z (omega (arith, lz))) ∙ ap (λ v. x ++ v) (append-nil y) in
    ap (λ s. xors (take (length n) s) n ++ drop (length n) s) loaded
    ∙ ap₂ (λ a b. xors a n ++ b) (take_at x y (length n) (lx ∙ sym ln) ∙ p) (drop_at x y (length n) (lx ∙ sym ln) ∙ q ∙ take_all 7 (drop 9 n) (omega (arith, length-drop 9 n, ln)))
