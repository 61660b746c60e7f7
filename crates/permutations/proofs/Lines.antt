-- Texts of one length that are written one after the other, and sums of counts. Assumes nothing.
use Rattle.std.proofs.Common.{◌≡◌, ℕ, zero, suc, ◌+◌, ◌*◌, ◌≤◌, List, [], ◌++◌, length, take, drop, sym, refl, ap, ap₂, ◌∙◌, arith, add-one, add-zero, add_assoc, mul-suc, length-append, length-take, length-drop}
use borrow.Rule.Slice.PartMut.{put_mid}
use Rattle.std.proofs.lemmas.Slice.{take-put_mid}
use Rattle.permutations.specs.Page.{texts, sum_to}

pub texts_none : (f : ℕ → List ℕ) → [] ≡ texts f 0
unfolding texts
texts_none f = refl

texts_suc : (f : ℕ → List ℕ) (i : ℕ) → texts f (suc i) ≡ texts f i ++ f i
unfolding texts
texts_suc f i = refl

texts_next : (f : ℕ → List ℕ) (i : ℕ) → texts f (i + 1) ≡ texts f i ++ f i
texts_next f i = ap (texts f) (add-one i) ∙ texts_suc f i

pub sum_none : (f : ℕ → ℕ) → 0 ≡ sum_to f 0
unfolding sum_to
sum_none f = refl

sum_suc : (f : ℕ → ℕ) (i : ℕ) → sum_to f (suc i) ≡ sum_to f i + f i
unfolding sum_to
sum_suc f i = refl

pub sum_next : (f : ℕ → ℕ) (i : ℕ) → sum_to f (i + 1) ≡ sum_to f i + f i
sum_next f i = ap (sum_to f) (add-one i) ∙ sum_suc f i

-- the sum of n more
pub sum_more : (f : ℕ → ℕ) (a n : ℕ) → sum_to f (a + n) ≡ sum_to f a + sum_to (λ j. f (a + j)) n
sum_more f a zero = ap (sum_to f) (add-zero a) ∙ sym (add-zero (sum_to f a)) ∙ ap (λ z. sum_to f a + z) (sum_none (λ j. f (a + j)))
sum_more f a (suc n) =
    let g : ℕ → ℕ = λ j. f (a + j) in
    let e : a + suc n ≡ suc (a + n) = omega arith in
    ap (sum_to f) e ∙ sum_suc f (a + n) ∙ ap (λ z. z + f (a + n)) (sum_more f a n) ∙ add_assoc (sum_to f a) (sum_to g n) (g n) ∙ ap (λ z. sum_to f a + z) (sym (sum_suc g n))

-- one text more, of w bytes
pub text_more : (f : ℕ → List ℕ) (w i k : ℕ) (out ys : List ℕ) → length ys ≡ w → w * i + w ≤ length out
    → take (w * i) out ≡ texts f i → ys ≡ f i → take (w * (i + 1)) (put_mid (w * i) k out ys) ≡ texts f (i + 1)
text_more f w i k out ys long room front last =
    let e : w * (i + 1) ≡ w * i + w = ap (λ z. w * z) (add-one i) ∙ mul-suc w i in
    take-put_mid (w * i) k out ys (w * (i + 1)) (omega arith) (omega arith)
    ∙ ap₂ (λ a b. a ++ b) front last
    ∙ sym (texts_next f i)

-- a part that is written over leaves the length
pub put_mid_length : (a k : ℕ) (xs ys : List ℕ) → a + k ≤ length xs → length ys ≡ k → length (put_mid a k xs ys) ≡ length xs
put_mid_length a k xs ys inside long =
    length-append (take a xs) (ys ++ drop k (drop a xs)) ∙ omega (arith, inside, long, length-append ys (drop k (drop a xs)), length-take a xs, length-drop k (drop a xs), length-drop a xs)
