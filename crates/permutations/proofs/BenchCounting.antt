-- What bench's page counts by its one step, whatever the state. Assumes nothing.
use Rattle.std.proofs.Common.{◌≡◌, ℕ, zero, suc, ◌+◌, ◌-◌, ◌*◌, ◌/◌, ◌%◌, ◌^◌, ◌<◌, ◌≤◌, List, [], ◌∷◌, ◌++◌, length, take, drop, get_or, set, sym, refl, ap, ap₂, ◌∙◌, arith, inl, inr, le_of_suc-le-suc, length-take, length-drop}
use Rattle.std.specs.Prelude.{bit_xor, sum_by}
use Rattle.std.specs.Int.RustNames.{count_ones}
use Rattle.std.proofs.lemmas.List.Sums.{sum_by-cons}
use Rattle.std.specs.Int.Bits.{xor_assoc, xor_self}
use Rattle.std.proofs.lemmas.Bool.{cases_lt}
use Rattle.std.proofs.lemmas.List.{get_or-take, get_or-drop, take-set-le, drop-set-lt, drop-set-add, length-set}
use Rattle.std.proofs.lemmas.Nat.{xor_comm}
use Rattle.std.proofs.Math.Seq.{take-set-lt}
use Rattle.permutations.specs.Bench.{forward, bench}
use Rattle.permutations.specs.Bytes.{xors}
use Rattle.permutations.specs.Page.{count_for, sum_to, BenchPage}
use Rattle.permutations.specs.Permutation.{Bytes}
use Rattle.permutations.specs.Xors.{xor_back, length_xors}
use Rattle.permutations.proofs.Lines.{sum_next}

-- in how many bits two lists differ
abbrev differing : List ℕ → List ℕ → ℕ
differing a b = sum_by count_ones (xors a b)

differing_cons : (x y : ℕ) (a b : List ℕ) → differing (x ∷ a) (y ∷ b) ≡ count_ones (bit_xor x y) + differing a b
unfolding xors
differing_cons x y a b = sum_by-cons count_ones (bit_xor x y) (xors a b)

none_set : count_ones 0 ≡ 0
unfolding count_ones
none_set = refl

differing_same : (a : List ℕ) → differing a a ≡ 0
unfolding xors
differing_same [] = refl
differing_same (x ∷ a) = differing_cons x x a a ∙ ap₂ (λ u v. u + v) (ap count_ones (xor_self x) ∙ none_set) (differing_same a)

differing_append : (a b c d : List ℕ) → length a ≡ length c → differing (a ++ b) (c ++ d) ≡ differing a c + differing b d
unfolding xors
differing_append [] b [] d h = omega arith
differing_append [] b (y ∷ c) d h = absurd (omega (arith, h))
differing_append (x ∷ a) b [] d h = absurd (omega (arith, h))
differing_append (x ∷ a) b (y ∷ c) d h =
    let e : length a ≡ length c = omega (arith, h) in
    omega (arith, differing_cons x y (a ++ b) (c ++ d), differing_cons x y a c, differing_append a b c d e)

-- where one element is xored with m
differing_one : (a : List ℕ) (k m : ℕ) → k < length a → differing a (set a k (bit_xor (get_or a k 0) m)) ≡ count_ones m
differing_one [] k m h = absurd (omega arith)
differing_one (x ∷ a) zero m h = differing_cons x (bit_xor x m) a a ∙ omega (arith, ap count_ones (xor_back x m), differing_same a)
differing_one (x ∷ a) (suc k) m h =
    differing_cons x x a (set a k (bit_xor (get_or a k 0) m)) ∙ omega (arith, ap count_ones (xor_self x), none_set, differing_one a k m (le_of_suc-le-suc h))

xor_apart : (u a b : ℕ) → bit_xor (bit_xor u a) (bit_xor u b) ≡ bit_xor a b
xor_apart u a b = ap (λ z. bit_xor z (bit_xor u b)) (xor_comm u a) ∙ xor_assoc a u (bit_xor u b) ∙ ap (bit_xor a) (xor_back u b)

-- what both are xored with makes no difference
differing_under : (u a b : List ℕ) → length u ≡ length a → length a ≡ length b → differing (xors u a) (xors u b) ≡ differing a b
unfolding xors
differing_under [] [] [] h k = refl
differing_under [] [] (y ∷ b) h k = absurd (omega (arith, k))
differing_under [] (x ∷ a) b h k = absurd (omega (arith, h))
differing_under (z ∷ u) [] b h k = absurd (omega (arith, h))
differing_under (z ∷ u) (x ∷ a) [] h k = absurd (omega (arith, k))
differing_under (z ∷ u) (x ∷ a) (y ∷ b) h k =
    differing_cons (bit_xor z x) (bit_xor z y) (xors u a) (xors u b)
    ∙ ap₂ (λ p q. count_ones p + q) (xor_apart z x y) (differing_under u a b (omega (arith, h)) (omega (arith, k)))
    ∙ sym (differing_cons x y a b)

xors_comm : (a b : List ℕ) → xors a b ≡ xors b a
unfolding xors
xors_comm [] [] = refl
xors_comm [] (y ∷ b) = refl
xors_comm (x ∷ a) [] = refl
xors_comm (x ∷ a) (y ∷ b) = ap₂ (λ p q. p ∷ q) (xor_comm x y) (xors_comm a b)

-- ---- a flipped bit

one_bit : (j : ℕ) → j < 8 → count_ones (128 / 2 ^ j) ≡ 1
unfolding count_ones
one_bit zero h = refl
one_bit (suc zero) h = refl
one_bit (suc (suc zero)) h = refl
one_bit (suc (suc (suc zero))) h = refl
one_bit (suc (suc (suc (suc zero)))) h = refl
one_bit (suc (suc (suc (suc (suc zero))))) h = refl
one_bit (suc (suc (suc (suc (suc (suc zero)))))) h = refl
one_bit (suc (suc (suc (suc (suc (suc (suc zero))))))) h = refl
one_bit (suc (suc (suc (suc (suc (suc (suc (suc j)))))))) h = absurd (omega arith)

module _ (x : List ℕ) (b : Bytes 32 x) (i : ℕ) where
  abbrev place : ℕ
  place = i / 8

  abbrev bit : ℕ
  bit = 128 / 2 ^ (i % 8)

  abbrev byte : ℕ
  byte = bit_xor (get_or x place 0) bit

  abbrev other : List ℕ
  other = set x place byte

  one : count_ones bit ≡ 1
  one = one_bit (i % 8) (omega arith)

  -- a part that has the place
  taken : (n : ℕ) → place < n → n ≤ 32 → differing (take n x) (take n other) ≡ 1
  taken n h k =
      let inside : place < length (take n x) = omega (arith, length-take n x, b.size) in
      ap (differing (take n x)) (take-set-lt n x place byte h ∙ ap (λ z. set (take n x) place (bit_xor z bit)) (sym (get_or-take n x place 0 h)))
      ∙ differing_one (take n x) place bit inside
      ∙ one

  dropped : 24 ≤ place → place < 32 → differing (drop 24 x) (drop 24 other) ≡ 1
  dropped h k =
      let j : ℕ = place - 24 in
      let e : place ≡ 24 + j = omega arith in
      let inside : j < length (drop 24 x) = omega (arith, length-drop 24 x, b.size) in
      ap (λ z. differing (drop 24 x) (drop 24 (set x z byte))) e
      ∙ ap (differing (drop 24 x)) (drop-set-add 24 x j byte ∙ ap (λ z. set (drop 24 x) j (bit_xor z bit)) (ap (λ z. get_or x z 0) e ∙ sym (get_or-drop 24 x j 0)))
      ∙ differing_one (drop 24 x) j bit inside
      ∙ one

  -- the first quarter of the output, and the rest of it
  abbrev head : List ℕ → List ℕ
  head z = xors (drop 24 z) (take 8 z)

  long : length other ≡ 32
  long = length-set x place byte ∙ b.size

  head_length : (z : List ℕ) → length z ≡ 32 → length (head z) ≡ 8
  head_length z e = length_xors (drop 24 z) (take 8 z) ∙ omega (arith, length-drop 24 z, length-take 8 z, e)

  parts : count_for bench 1 x i ≡ differing (head x) (head other) + differing (take 24 x) (take 24 other)
  unfolding forward
  parts = differing_append (head x) (take 24 x) (head other) (take 24 other) (head_length x b.size ∙ sym (head_length other long))

  in_first : place < 8 → differing (head x) (head other) ≡ 1
  in_first h =
      ap (λ z. differing (head x) (xors z (take 8 other))) (drop-set-lt 24 x place byte (omega arith))
      ∙ differing_under (drop 24 x) (take 8 x) (take 8 other) (omega (arith, length-drop 24 x, length-take 8 x, b.size)) (omega (arith, length-take 8 x, length-take 8 other, b.size, long))
      ∙ taken 8 h (omega arith)

  in_middle : 8 ≤ place → place < 24 → differing (head x) (head other) ≡ 0
  in_middle h k =
      ap₂ (λ y z. differing (head x) (xors y z)) (drop-set-lt 24 x place byte k) (take-set-le 8 x place byte h)
      ∙ differing_same (head x)

  in_last : 24 ≤ place → place < 32 → differing (head x) (head other) ≡ 1
  in_last h k =
      ap (λ z. differing (head x) (xors (drop 24 other) z)) (take-set-le 8 x place byte (omega arith))
      ∙ ap₂ (λ y z. sum_by count_ones (xors y z)) (xors_comm (drop 24 x) (take 8 x)) (xors_comm (drop 24 other) (take 8 x))
      ∙ differing_under (take 8 x) (drop 24 x) (drop 24 other) (omega (arith, length-drop 24 x, length-take 8 x, b.size)) (omega (arith, length-drop 24 x, length-drop 24 other, b.size, long))
      ∙ dropped h k

  two : i < 64 → count_for bench 1 x i ≡ 2
  two h =
      let place_low : place < 8 = omega arith in
      parts ∙ ap₂ (λ m n. m + n) (in_first place_low) (taken 24 (omega arith) (omega arith))

  one_more : 64 ≤ i → i < 256 → count_for bench 1 x i ≡ 1
  one_more h k =
      let low : 8 ≤ place = omega arith in
      let high : place < 32 = omega arith in
      let middle : place < 24 → count_for bench 1 x i ≡ 1 = λ l. parts ∙ ap₂ (λ m n. m + n) (in_middle low l) (taken 24 l (omega arith)) in
      let last : 24 ≤ place → count_for bench 1 x i ≡ 1 =
      λ l. parts ∙ ap₂ (λ m n. m + n) (in_last l high) (ap (differing (take 24 x)) (take-set-le 24 x place byte l) ∙ differing_same (take 24 x)) in
      elim (cases_lt place 24) [ inl l ↦ middle l | inr l ↦ last l ]

-- ---- the sum

module _ (f : ℕ → ℕ) (twos : (i : ℕ) → i < 64 → f i ≡ 2) (ones : (i : ℕ) → 64 ≤ i → i < 256 → f i ≡ 1) where
  sum_low : (n : ℕ) → n ≤ 64 → sum_to f n ≡ 2 * n
  unfolding sum_to
  sum_low zero h = refl
  sum_low (suc n) h = omega (arith, sum_low n (omega arith), twos n (omega arith))

  sum_high : (n : ℕ) → n ≤ 192 → sum_to f (64 + n) ≡ 128 + n
  sum_high zero h = sum_low 64 (omega arith)
  sum_high (suc n) h =
      let e : 64 + suc n ≡ 64 + n + 1 = omega arith in
      ap (sum_to f) e ∙ sum_next f (64 + n) ∙ omega (arith, sum_high n (omega arith), ones (64 + n) (omega arith) (omega arith))

pub bench_page : BenchPage
bench_page x b =
    let twos : (i : ℕ) → i < 64 → count_for bench 1 x i ≡ 2 = λ i h. two x b i h in
    let ones : (i : ℕ) → 64 ≤ i → i < 256 → count_for bench 1 x i ≡ 1 = λ i h k. one_more x b i h k in
    record { first = twos; others = ones; total = sum_high (count_for bench 1 x) twos ones 192 (omega arith) }
