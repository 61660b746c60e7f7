-- A word turned by way of longer words. Assumes nothing.
use Rattle.std.proofs.Common.{◌≡◌, ℕ, ◌+◌, ◌-◌, ◌*◌, ◌/◌, ◌%◌, ◌^◌, ◌<◌, ◌≤◌, sym, ap, ◌∙◌, subst, ap₂, lt_of_lt_of_le, add-zero, mod-eq_of_lt, mul_assoc, mul_comm, add-mul, add_comm, arith, pow_pos, pow_mono, pow-add, shl_exact, shr-shr, shr_lt}
use native.Mathlib.Nat.{mul-mod_left, div-eq_of_lt, mul-add-div_right}
use lib.Arith.{digits_lt}
use lib.Bits.{bit_or, or_shr, or_shifted, or_zero_r}
use lib.Pow.{shl-shr, field, mod-pow-add, high, low}
use Rattle.permutations.specs.Simeck.{turned}

-- x of n + i bits, turned left by i: its low n bits above its high i bits
pub turned_is : (n i x : ℕ) → x < 2 ^ (n + i) → turned (n + i) i x ≡ (x * 2 ^ i + x / 2 ^ n) % 2 ^ (n + i)
unfolding turned
turned_is n i x h =
    let t : x / 2 ^ n < 2 ^ i = shr_lt i n (subst (λ z. x < 2 ^ z) (add_comm n i) h) in
    let left : x * 2 ^ i % 2 ^ (n + i) ≡ x % 2 ^ n * 2 ^ i =
    mod-pow-add (x * 2 ^ i) n i ∙ ap₂ (λ a b. a % 2 ^ n * 2 ^ i + b) (shl-shr x i) (mul-mod_left x (2 ^ i)) ∙ add-zero (x % 2 ^ n * 2 ^ i) in
    let right : (x * 2 ^ i + x / 2 ^ n) % 2 ^ (n + i) ≡ x % 2 ^ n * 2 ^ i + x / 2 ^ n =
    mod-pow-add (x * 2 ^ i + x / 2 ^ n) n i ∙ ap₂ (λ a b. a % 2 ^ n * 2 ^ i + b) (high x i t) (low x i t) in
    let n_is : n + i - i ≡ n = omega arith in
    ap₂ bit_or left (ap (λ z. x / 2 ^ z) n_is) ∙ or_shifted (x % 2 ^ n) i (x / 2 ^ n) t ∙ sym right

-- x of e + d bits, with its own first d bits after it
abbrev twice : ℕ → ℕ → ℕ → ℕ
twice e d x = bit_or (x * 2 ^ d % 2 ^ (e + d + d)) (x / 2 ^ e)

twice_is : (e d x : ℕ) → x < 2 ^ (e + d) → twice e d x ≡ x * 2 ^ d + x / 2 ^ e
twice_is e d x h =
    let t : x / 2 ^ e < 2 ^ d = shr_lt d e (subst (λ z. x < 2 ^ z) (add_comm e d) h) in
    ap (λ z. bit_or z (x / 2 ^ e)) (shl_exact (e + d) d (e + d + d) h (omega arith)) ∙ or_shifted x d (x / 2 ^ e) t

-- the longer word is turned as a whole, and its first e + d bits are the shorter one turned
pub window : (e i f d k m x : ℕ) → d ≡ i + f → k ≡ e + d + f → m ≡ e + f + i → x < 2 ^ (e + d) →
    bit_or (twice e d x * 2 ^ i % 2 ^ (e + d + d)) (twice e d x / 2 ^ k) / 2 ^ d ≡ turned m i x
window e i f d k m x d_is k_is m_is h =
    let s : ℕ = x / 2 ^ e in
    let t : s < 2 ^ d = shr_lt d e (subst (λ z. x < 2 ^ z) (add_comm e d) h) in
    let w : ℕ = x * 2 ^ d + s in
    let w_lt : w < 2 ^ (e + d + d) = subst (λ z. w < z) (sym (pow-add 2 (e + d) d)) (digits_lt h t) in
    let gone : w / 2 ^ k / 2 ^ d ≡ 0 = shr-shr w k d ∙ div-eq_of_lt (lt_of_lt_of_le w_lt (pow_mono {i = e + d + d} {j = k + d} (omega arith))) in
    let spread : w * 2 ^ i ≡ x * 2 ^ i * 2 ^ d + s * 2 ^ i =
    add-mul (x * 2 ^ d) s (2 ^ i) ∙ ap (λ z. z + s * 2 ^ i) (mul_assoc x (2 ^ d) (2 ^ i) ∙ ap (λ z. x * z) (mul_comm (2 ^ d) (2 ^ i)) ∙ sym (mul_assoc x (2 ^ i) (2 ^ d))) in
    let low_part : s * 2 ^ i / 2 ^ d ≡ x / 2 ^ (e + f) =
    ap (λ z. s * 2 ^ i / 2 ^ z) d_is ∙ sym (shr-shr (s * 2 ^ i) i f) ∙ ap (λ z. z / 2 ^ f) (shl-shr s i) ∙ shr-shr x e f in
    let kept : w * 2 ^ i / 2 ^ d ≡ x * 2 ^ i + x / 2 ^ (e + f) =
    ap (λ z. z / 2 ^ d) spread ∙ mul-add-div_right (pow_pos d) (x * 2 ^ i) (s * 2 ^ i) ∙ ap (λ z. x * 2 ^ i + z) low_part in
    let same : e + d ≡ e + f + i = omega arith in
    ap (λ z. bit_or (z * 2 ^ i % 2 ^ (e + d + d)) (z / 2 ^ k) / 2 ^ d) (twice_is e d x h)
    ∙ or_shr (w * 2 ^ i % 2 ^ (e + d + d)) (w / 2 ^ k) d
    ∙ ap (λ z. bit_or (w * 2 ^ i % 2 ^ (e + d + d) / 2 ^ d) z) gone
    ∙ or_zero_r (w * 2 ^ i % 2 ^ (e + d + d) / 2 ^ d)
    ∙ field (w * 2 ^ i) (e + d) d
    ∙ ap₂ (λ a b. a % 2 ^ b) kept same
    ∙ sym (turned_is (e + f) i x (subst (λ z. x < 2 ^ z) same h))
    ∙ ap (λ z. turned z i x) (sym m_is)

-- what rotate_left is said to give, at 1 to 31 places
pub rotated : (by x : ℕ) → 1 ≤ by → by < 32 → bit_or (x * 2 ^ (by % 32) % 2 ^ 32) (x / 2 ^ ((32 - by % 32) % 32)) ≡ turned 32 by x
unfolding turned
rotated by x some most =
    let a : by % 32 ≡ by = mod-eq_of_lt most in
    let b : (32 - by) % 32 ≡ 32 - by = mod-eq_of_lt (omega arith) in
    ap (λ z. bit_or (x * 2 ^ z % 2 ^ 32) (x / 2 ^ ((32 - z) % 32))) a ∙ ap (λ z. bit_or (x * 2 ^ by % 2 ^ 32) (x / 2 ^ z)) b

pub rotated_24 : (by x r : ℕ) → 1 ≤ by → by ≤ 8 → x < 2 ^ 24 →
    r ≡ bit_or (twice 16 8 x * 2 ^ (by % 32) % 2 ^ 32) (twice 16 8 x / 2 ^ ((32 - by % 32) % 32)) → r / 2 ^ 8 ≡ turned 24 by x
unfolding turned
rotated_24 by x r some most h e =
    ap (λ z. z / 2 ^ 8) (e ∙ rotated by (twice 16 8 x) some (omega arith))
    ∙ window 16 by (8 - by) 8 (32 - by) 24 x (omega arith) (omega arith) (omega arith) h
