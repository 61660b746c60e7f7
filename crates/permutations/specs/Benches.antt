-- The bench permutation and its inverse undo each other. Assumes nothing.
use Rattle.std.specs.Prelude.{◌≡◌, ℕ, zero, suc, List, [], ◌++◌, length, take, drop, refl}
use Rattle.std.proofs.Common.{◌∙◌, append-nil, arith, take_at, drop_at, take-take}
use Rattle.std.proofs.Math.Path.{ap, ap₂}
use borrow.Rule.Slice.PartMut.{put_mid}
use Rattle.std.proofs.lemmas.List.{take_all, drop_all}
use Rattle.std.proofs.Math.ListN.{take-append-drop, length-append, length-take, length-drop}
use Rattle.std.proofs.Math.Seq.{take-append-le}
use Rattle.std.proofs.ByRecursion.{All-append, All-take, All-drop}
use Rattle.permutations.specs.Permutation.{Bytes, Bijective}
use Rattle.permutations.specs.Bench.{forward, backward, forward_by, backward_by, bench}
use Rattle.permutations.specs.Bytes.{xors}
use Rattle.permutations.specs.Words.{Byte}
use Rattle.permutations.specs.Xors.{length_xors, xors_bytes, xors_off}

module _ (s : List ℕ) (b : Bytes 32 s) where
  first : length (take 8 s) ≡ 8
  first = length-take 8 s ∙ omega (arith, b.size)

  mixed : length (xors (drop 24 s) (take 8 s)) ≡ 8
  mixed = length_xors (drop 24 s) (take 8 s) ∙ omega (arith, first, length-drop 24 s, b.size)

  mixed_back : length (xors (take 8 s) (take 8 (drop 8 s))) ≡ 8
  mixed_back = length_xors (take 8 s) (take 8 (drop 8 s)) ∙ omega (arith, first, length-take 8 (drop 8 s), length-drop 8 s, b.size)

  forward_bytes : Bytes 32 (forward s)
  unfolding forward
  forward_bytes = record {
    size = length-append (xors (drop 24 s) (take 8 s)) (take 24 s) ∙ omega (arith, mixed, length-take 24 s, b.size);
    small = All-append Byte (xors (drop 24 s) (take 8 s)) (take 24 s) (xors_bytes (drop 24 s) (take 8 s) (All-drop Byte 24 s b.small) (All-take Byte 8 s b.small)) (All-take Byte 24 s b.small);
  }

  backward_bytes : Bytes 32 (backward s)
  unfolding backward
  backward_bytes = record {
    size = length-append (drop 8 s) (xors (take 8 s) (take 8 (drop 8 s))) ∙ omega (arith, mixed_back, length-drop 8 s, b.size);
    small = All-append Byte (drop 8 s) (xors (take 8 s) (take 8 (drop 8 s))) (All-drop Byte 8 s b.small) (xors_bytes (take 8 s) (take 8 (drop 8 s)) (All-take Byte 8 s b.small) (All-take Byte 8 (drop 8 s) (All-drop Byte 8 s b.small)));
  }

  backward_forward : backward (forward s) ≡ s
  unfolding forward backward
  backward_forward =
      let x = xors (drop 24 s) (take 8 s) in
      ap₂ (λ (p q : List ℕ). q ++ xors p (take 8 q)) (take_at x (take 24 s) 8 mixed) (drop_at x (take 24 s) 8 mixed)
      ∙ ap (λ z. take 24 s ++ xors x z) (take-take 8 24 s (omega arith))
      ∙ ap (λ z. take 24 s ++ z) (xors_off (drop 24 s) (take 8 s) (omega (arith, first, length-drop 24 s, b.size)))
      ∙ take-append-drop 24 s

  forward_backward : forward (backward s) ≡ s
  unfolding forward backward
  forward_backward =
      let d = drop 8 s in
      let x = xors (take 8 s) (take 8 d) in
      let n : length d ≡ 24 = length-drop 8 s ∙ omega (arith, b.size) in
      let t8 : take 8 (d ++ x) ≡ take 8 d = take-append-le 8 d x (omega arith) in
      ap₂ (λ (p q : List ℕ). xors p (take 8 (d ++ x)) ++ q) (drop_at d x 24 n) (take_at d x 24 n)
      ∙ ap (λ z. xors x z ++ d) t8
      ∙ ap (λ z. z ++ d) (xors_off (take 8 s) (take 8 d) (omega (arith, first, length-take 8 d)))
      ∙ take-append-drop 8 s

by_back : (n : ℕ) (s : List ℕ) → Bytes 32 s → backward_by n (forward_by n s) ≡ s
by_back zero s b = refl
by_back (suc n) s b = backward_forward s b

by_forth : (n : ℕ) (s : List ℕ) → Bytes 32 s → forward_by n (backward_by n s) ≡ s
by_forth zero s b = refl
by_forth (suc n) s b = forward_backward s b

forward_by_bytes : (n : ℕ) (s : List ℕ) → Bytes 32 s → Bytes 32 (forward_by n s)
forward_by_bytes zero s b = b
forward_by_bytes (suc n) s b = forward_bytes s b

backward_by_bytes : (n : ℕ) (s : List ℕ) → Bytes 32 s → Bytes 32 (backward_by n s)
backward_by_bytes zero s b = b
backward_by_bytes (suc n) s b = backward_bytes s b

pub bijective : Bijective bench
bijective = record {
  most = omega arith;
  none = λ s b. refl;
  forward_by_bytes = λ n s h b. forward_by_bytes n s b;
  back_by_bytes = λ n s h b. backward_by_bytes n s b;
  undo = record { back_forward = λ n s h b. by_back n s b; forward_back = λ n s h b. by_forth n s b };
}

-- ---- as the code has it

pub forward_made : (s x y : List ℕ) → length s ≡ 32 → x ≡ xors (take 8 (drop 24 s)) (take 8 s) → y ≡ take 24 s → put_mid 8 24 (x ++ drop 8 s) y ≡ forward s
unfolding forward
forward_made s x y e p q =
    let d : take 8 (drop 24 s) ≡ drop 24 s = take_all 8 (drop 24 s) (omega (arith, length-drop 24 s)) in
    let x_is : x ≡ xors (drop 24 s) (take 8 s) = p ∙ ap (λ z. xors z (take 8 s)) d in
    let n : length x ≡ 8 = ap length x_is ∙ length_xors (drop 24 s) (take 8 s) ∙ omega (arith, length-take 8 s, length-drop 24 s) in
    let none : drop 24 (drop 8 (x ++ drop 8 s)) ≡ [] =
    ap (drop 24) (drop_at x (drop 8 s) 8 n) ∙ drop_all 24 (drop 8 s) (omega (arith, length-drop 8 s)) in
    ap (λ z. take 8 (x ++ drop 8 s) ++ (y ++ z)) none
    ∙ ap₂ (λ a b. a ++ (b ++ [])) (take_at x (drop 8 s) 8 n ∙ x_is) q
    ∙ ap (λ z. xors (drop 24 s) (take 8 s) ++ z) (append-nil (take 24 s))

pub backward_made : (s x y : List ℕ) → length s ≡ 32 → x ≡ xors (take 8 s) (take 8 (drop 8 s)) → y ≡ take 24 (drop 8 s) → y ++ drop 24 (put_mid 24 8 s x) ≡ backward s
unfolding backward
backward_made s x y e p q =
    let n : length (take 24 s) ≡ 24 = length-take 24 s ∙ omega arith in
    let none : drop 8 (drop 24 s) ≡ [] = drop_all 8 (drop 24 s) (omega (arith, length-drop 24 s)) in
    ap (λ z. y ++ z) (drop_at (take 24 s) (x ++ drop 8 (drop 24 s)) 24 n ∙ ap (λ z. x ++ z) none ∙ append-nil x)
    ∙ ap₂ (λ a b. a ++ b) (q ∙ take_all 24 (drop 8 s) (omega (arith, length-drop 8 s))) p
