-- By each number of steps the ring permutation and its inverse undo each other. Assumes nothing.
use Rattle.std.specs.Prelude.{◌≡◌, ℕ, zero, suc, ◌+◌, ◌≤◌, List, ◌++◌, length, take, drop, refl}
use Rattle.std.proofs.Common.{ap, ap₂, ◌∙◌, arith, length-append, length-take, length-drop, take_at, drop_at, take-append-drop}
use Rattle.std.proofs.ByRecursion.{All-append, All-take, All-drop}
use Rattle.permutations.specs.Bytes.{xors}
use Rattle.permutations.specs.Permutation.{Bytes, Bijective}
use Rattle.permutations.specs.Words.{Byte}
use Rattle.permutations.specs.Xors.{length_xors, xors_bytes, xors_off}
use Rattle.spoc.specs.Parts.{bytes_append}
use Rattle.other_suite.specs.Ring.{turned, mixed, forward_by, backward_by, ring}

-- ---- a turn

turned_bytes : (n : ℕ) (s : List ℕ) → n ≤ 23 → Bytes 23 s → Bytes 23 (turned n s)
unfolding turned
turned_bytes n s h b = record {
  size = length-append (drop n s) (take n s) ∙ omega (arith, length-drop n s, length-take n s, b.size);
  small = All-append Byte (drop n s) (take n s) (All-drop Byte n s b.small) (All-take Byte n s b.small);
}

-- two turns of 23 places in all are none
turned_back : (n m : ℕ) (s : List ℕ) → n + m ≡ 23 → Bytes 23 s → turned m (turned n s) ≡ s
unfolding turned
turned_back n m s h b =
    let l : length (drop n s) ≡ m = length-drop n s ∙ omega (arith, h, b.size) in
    ap₂ (λ x y. x ++ y) (drop_at (drop n s) (take n s) m l) (take_at (drop n s) (take n s) m l) ∙ take-append-drop n s

-- ---- mixing

module _ (s : List ℕ) (b : Bytes 23 s) where
  front : Bytes 11 (take 11 s)
  front = record { size = length-take 11 s ∙ omega (arith, b.size); small = All-take Byte 11 s b.small }

  rest : Bytes 12 (drop 11 s)
  rest = record { size = length-drop 11 s ∙ omega (arith, b.size); small = All-drop Byte 11 s b.small }

  -- what is xored into the front
  abbrev part : List ℕ
  part = take 11 (drop 11 s)

  part_length : length part ≡ 11
  part_length = length-take 11 (drop 11 s) ∙ omega (arith, rest.size)

  sum_length : length (xors (take 11 s) part) ≡ 11
  sum_length = length_xors (take 11 s) part ∙ omega (arith, front.size, part_length)

  mixed_bytes : Bytes 23 (mixed s)
  unfolding mixed
  mixed_bytes =
      bytes_append 11 12 (xors (take 11 s) part) (drop 11 s) (record { size = sum_length; small = xors_bytes (take 11 s) part front.small (All-take Byte 11 (drop 11 s) rest.small) }) rest

  mixed_twice : mixed (mixed s) ≡ s
  unfolding mixed
  mixed_twice =
      let x = xors (take 11 s) part in
      ap₂ (λ (p q : List ℕ). xors p (take 11 q) ++ q) (take_at x (drop 11 s) 11 sum_length) (drop_at x (drop 11 s) 11 sum_length)
      ∙ ap (λ z. z ++ drop 11 s) (xors_off (take 11 s) part (omega (arith, front.size, part_length)))
      ∙ take-append-drop 11 s

-- ---- by each number of steps; the numbers of both turns are read off the definitions

forward_by_bytes : (n : ℕ) (s : List ℕ) → Bytes 23 s → Bytes 23 (forward_by n s)
forward_by_bytes zero s b = b
forward_by_bytes (suc zero) s b = turned_bytes _ s (omega arith) b
forward_by_bytes (suc (suc _)) s b = mixed_bytes _ (turned_bytes _ s (omega arith) b)

backward_by_bytes : (n : ℕ) (s : List ℕ) → Bytes 23 s → Bytes 23 (backward_by n s)
backward_by_bytes zero s b = b
backward_by_bytes (suc zero) s b = turned_bytes _ s (omega arith) b
backward_by_bytes (suc (suc _)) s b = turned_bytes _ _ (omega arith) (mixed_bytes s b)

back_forward : (n : ℕ) (s : List ℕ) → Bytes 23 s → backward_by n (forward_by n s) ≡ s
back_forward zero s b = refl
back_forward (suc zero) s b = turned_back _ _ s refl b
back_forward (suc (suc _)) s b = ap (turned _) (mixed_twice _ (turned_bytes _ s (omega arith) b)) ∙ turned_back _ _ s refl b

forward_back : (n : ℕ) (s : List ℕ) → Bytes 23 s → forward_by n (backward_by n s) ≡ s
forward_back zero s b = refl
forward_back (suc zero) s b = turned_back _ _ s refl b
forward_back (suc (suc _)) s b = ap mixed (turned_back _ _ _ refl (mixed_bytes s b)) ∙ mixed_twice s b

pub bijective : Bijective ring
bijective = record {
  most = omega arith;
  none = λ s b. refl;
  forward_by_bytes = λ n s h b. forward_by_bytes n s b;
  back_by_bytes = λ n s h b. backward_by_bytes n s b;
  undo = record { back_forward = λ n s h b. back_forward n s b; forward_back = λ n s h b. forward_back n s b };
}
