-- One computed test of a list of places, and what it says. Assumes nothing.
use Rattle.std.specs.Prelude.{◌≡◌, ℕ, zero, suc, ◌<◌, Bool, true, false, not, ◌&&◌, List, [], ◌∷◌, length, ◌==◌, ◌≢◌, nat_lt, slice_index, refl}
use Rattle.std.proofs.Common.{sym, ap, ◌∙◌, le_of_suc-le-suc, arith}
use Rattle.std.proofs.lemmas.Bool.{ltb-true, eq-eqb, and_parts}

-- x is none of the list
unfoldable pub fresh : ℕ → List ℕ → Bool
fresh x [] = true
fresh x (y ∷ ys) = not (x == y) && fresh x ys

-- all below b, and all different
unfoldable pub placed : ℕ → List ℕ → Bool
placed b [] = true
placed b (x ∷ xs) = nat_lt x b && (fresh x xs && placed b xs)

fresh_at : (x : ℕ) (ys : List ℕ) (i : ℕ) → fresh x ys ≡ true → i < length ys → x ≢ slice_index ys i
unfolding fresh
fresh_at x [] i t h e = omega arith
fresh_at x (y ∷ ys) zero t h e =
    let no_y : not (x == y) ≡ true = (and_parts (not (x == y)) (fresh x ys) t).0 in
    let bad : ◌≡◌ {A = Bool} false true = sym (ap not (eq-eqb x y e)) ∙ no_y in
    let z : ◌≡◌ {A = ℕ} 0 1 = cc in
    omega arith
fresh_at x (y ∷ ys) (suc i) t h e = fresh_at x ys i (and_parts (not (x == y)) (fresh x ys) t).1 (le_of_suc-le-suc h) e

module _ (b : ℕ) where
  first : (x : ℕ) (xs : List ℕ) → placed b (x ∷ xs) ≡ true → x < b
  unfolding placed
  first x xs t = ltb-true x b (and_parts (nat_lt x b) (fresh x xs && placed b xs) t).0

  second : (x : ℕ) (xs : List ℕ) → placed b (x ∷ xs) ≡ true → (fresh x xs ≡ true) × (placed b xs ≡ true)
  unfolding placed
  second x xs t = and_parts (fresh x xs) (placed b xs) (and_parts (nat_lt x b) (fresh x xs && placed b xs) t).1

  pub placed_inside : (xs : List ℕ) → placed b xs ≡ true → (i : ℕ) → i < length xs → slice_index xs i < b
  placed_inside [] t i h = absurd (omega arith)
  placed_inside (x ∷ xs) t zero h = first x xs t
  placed_inside (x ∷ xs) t (suc i) h = placed_inside xs (second x xs t).1 i (le_of_suc-le-suc h)

  pub placed_apart : (xs : List ℕ) → placed b xs ≡ true → (i j : ℕ) → i < length xs → j < length xs → slice_index xs i ≡ slice_index xs j → i ≡ j
  placed_apart [] t i j h k e = absurd (omega arith)
  placed_apart (x ∷ xs) t zero zero h k e = refl
  placed_apart (x ∷ xs) t zero (suc j) h k e = absurd (fresh_at x xs j (second x xs t).0 (le_of_suc-le-suc k) e)
  placed_apart (x ∷ xs) t (suc i) zero h k e = absurd (fresh_at x xs i (second x xs t).0 (le_of_suc-le-suc h) (sym e))
  placed_apart (x ∷ xs) t (suc i) (suc j) h k e = ap suc (placed_apart xs (second x xs t).1 i j (le_of_suc-le-suc h) (le_of_suc-le-suc k) e)
