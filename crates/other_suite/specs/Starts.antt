-- The ring suite keeps the suite rule. Assumes nothing.
use Rattle.std.specs.Prelude.{◌≡◌, ℕ, List, ◌++◌, drop, refl}
use Rattle.std.proofs.Common.{sym, ap, ◌∙◌, arith, length-drop}
use Rattle.std.proofs.ByRecursion.{All-drop}
use Rattle.std.proofs.lemmas.List.{append_cancel_right}
use Rattle.permutations.specs.Bytes.{xors}
use Rattle.permutations.specs.Permutation.{Bytes, Bijective}
use Rattle.permutations.specs.Whole.{forward_bytes}
use Rattle.permutations.specs.Words.{Byte}
use Rattle.permutations.specs.Xors.{xors_off}
use Rattle.spoc.specs.Ends.{xored, forward_same}
use Rattle.spoc.specs.Parts.{bytes_append}
use Rattle.spoc.specs.Places.{fresh, placed, placed_inside, placed_apart}
use Rattle.spoc.specs.Suite.{Sound, places}
use Rattle.other_suite.specs.Plan.{ring_plan}
use Rattle.other_suite.specs.Ring.{ring}

-- what forward is given at the start
abbrev loaded : List ℕ → List ℕ → List ℕ
loaded k n = xors k n ++ drop 9 n

loaded_bytes : (k n : List ℕ) → Bytes 16 k → Bytes 16 n → Bytes 23 (loaded k n)
loaded_bytes k n bk bn =
    bytes_append 16 7 (xors k n) (drop 9 n) (xored 16 k n bk bn) (record { size = length-drop 9 n ∙ omega (arith, bn.size); small = All-drop Byte 9 n bn.small })

pub ring_sound : Bijective ring → Sound ring ring_plan
unfolding fresh placed
ring_sound bij = record {
  version_small = omega arith;
  rate_low = omega arith;
  rate_high = omega arith;
  rate_count = refl;
  masked_count = refl;
  inside = placed_inside 23 (places ring_plan) refl;
  apart = placed_apart 23 (places ring_plan) refl;
  begin_bytes = λ k n bk bn. forward_bytes ring bij (loaded k n) (loaded_bytes k n bk bn);
  begin_apart = λ k l n bk bl bn e.
      let same : loaded k n ≡ loaded l n = forward_same ring bij (loaded k n) (loaded l n) (loaded_bytes k n bk bn) (loaded_bytes l n bl bn) e in
      let keyed = append_cancel_right (xors k n) (xors l n) (drop 9 n) same in
      sym (xors_off k n (omega (arith, bk.size, bn.size))) ∙ ap (λ z. xors z n) keyed ∙ xors_off l n (omega (arith, bl.size, bn.size));
}
