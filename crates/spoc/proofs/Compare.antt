-- The differences of two rows of bytes, gathered by or, are 0 exactly when the rows are equal. Assumes nothing.
use Rattle.std.proofs.Common.{◌≡◌, ℕ, ◌+◌, ◌<◌, Bool, true, false, eqb, List, length, get_or, sym, ap, ◌∙◌, ap₂, ⊎_elim, arith, below_more}
use lib.Bits.{bit_or, bit_xor, or_add_and, and_le_l, and_le_r, xor_self}
use Rattle.std.specs.Str.{bytes_eq}
use Rattle.std.proofs.lemmas.Slice.Eq.{bytes_eq-Decides}
use Rattle.std.proofs.lemmas.Bool.{cases_Bool, eqb-true, eq-eqb}
use Rattle.permutations.specs.Xors.{xor_off}
use Rattle.spoc.specs.Feed.{pick}
use Rattle.spoc.specs.Rows.{pick_at, pick_is}

-- nothing is left of two numbers exactly when nothing is in either
or_none : (a b : ℕ) → bit_or a b ≡ 0 → (a ≡ 0) × (b ≡ 0)
or_none a b e = (omega (arith, or_add_and a b, and_le_r a b), omega (arith, or_add_and a b, and_le_l a b))

xor_none : (a b : ℕ) → bit_xor a b ≡ 0 → a ≡ b
xor_none a b e = sym (xor_off a b) ∙ ap (λ z. bit_xor z b) e

-- what is known of the first i bytes of the tag t: d is 0 exactly when they are those at the places ps of s
pub record Seen (d : ℕ) (ps s t : List ℕ) (i : ℕ) : Type 0 where
  pub equal : d ≡ 0 → (k : ℕ) → k < i → get_or t k 0 ≡ get_or s (get_or ps k 0) 0
  pub none : ((k : ℕ) → k < i → get_or t k 0 ≡ get_or s (get_or ps k 0) 0) → d ≡ 0

-- the place and the byte of index i, o and b, are next
pub seen_more : (d : ℕ) (ps s t : List ℕ) (i o b n : ℕ) → o ≡ get_or ps i 0 → b ≡ get_or t i 0 → n ≡ i + 1 → Seen d ps s t i → Seen (bit_or d (bit_xor (get_or s o 0) b)) ps s t n
seen_more d ps s t i o b n eo eb en so =
    let x = bit_xor (get_or s o 0) b in
    let same : get_or s (get_or ps i 0) 0 ≡ get_or s o 0 = ap (λ k. get_or s k 0) (sym eo) in
    record {
      equal = λ e k h.
          let both = or_none d x e in
          below_more (λ k. get_or t k 0 ≡ get_or s (get_or ps k 0) 0) i (so.equal both.0) (sym eb ∙ sym (xor_none _ _ both.1) ∙ sym same) k (omega arith);
      none = λ h.
          let front : d ≡ 0 = so.none (λ k l. h k (omega arith)) in
          let last : x ≡ 0 = ap (bit_xor (get_or s o 0)) (eb ∙ h i (omega arith) ∙ same) ∙ xor_self (get_or s o 0) in
          ap₂ bit_or front last;
    }

pub seen_all : (d : ℕ) (ps s t : List ℕ) (i : ℕ) → i ≡ length ps → length t ≡ length ps → Seen d ps s t i → eqb d 0 ≡ bytes_eq (pick ps s) t
seen_all d ps s t i ei et so =
    let decides = bytes_eq-Decides (pick ps s) t in
    ⊎_elim
    (λ e. e ∙ sym (decides.1 (sym (pick_is t ps s et (λ k h. so.equal (eqb-true d 0 e) k (omega arith))))))
    (λ e. e ∙ ⊎_elim
    (λ f. absurd (let z = eq-eqb d 0 (so.none (λ k h. sym (sym (pick_at ps s k (omega arith)) ∙ ap (λ l. get_or l k 0) (decides.0 f)))) in let b : ◌≡◌ {A = Bool} true false = sym z ∙ e in let n : ◌≡◌ {A = ℕ} 0 1 = cc in omega arith))
    sym
    (cases_Bool (bytes_eq (pick ps s) t)))
    (cases_Bool (eqb d 0))
