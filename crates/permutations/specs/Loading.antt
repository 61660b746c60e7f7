-- The permutation on bytes and its inverse undo each other, for every width of a word in bytes. Assumes nothing.
use Rattle.std.specs.Prelude.{◌≡◌, ℕ, zero, suc, ◌*◌, ◌^◌, ◌<◌, ◌≤◌, List, length, take, slice_index, refl}
use Rattle.std.proofs.Math.Path.{sym, ap}
use Rattle.std.proofs.Common.{subst, ◌∙◌, pow-suc, mul-suc, arith, pow-add}
use Rattle.std.specs.List.{AllByRecursion}
use Rattle.std.proofs.ByRecursion.{All-get_or, All-take}
use Rattle.permutations.specs.declared.constants.StepConstants.{StepConstants}
use Rattle.permutations.specs.Permutation.{Bytes, Bijective}
use Rattle.permutations.specs.Bytes.{loads, stores}
use Rattle.permutations.specs.Steps.{StateWords, Small, steps, unsteps, FitsIn}
use Rattle.permutations.specs.Light.{words, of_words, load_state, forward_by, backward_by, light}
use Rattle.permutations.specs.Words.{loads_stores, stores_loads, loads_lt, length_loads, length_stores, stores_bytes}
use Rattle.permutations.specs.Walking.{steps_fit, unsteps_fit, unsteps_steps, steps_unsteps}

pub pow_bytes : (w : ℕ) → 256 ^ w ≡ 2 ^ (8 * w)
pow_bytes zero = refl
pow_bytes (suc w) = pow-suc 256 w ∙ ap (λ z. z * 256) (pow_bytes w) ∙ sym (pow-add 2 (8 * w) 8) ∙ ap (λ z. 2 ^ z) (omega (arith, mul-suc 8 w))

module _ (w : ℕ) where
  words_lt : (s : StateWords) → FitsIn (8 * w) s → AllByRecursion (λ x. x < 256 ^ w) (words s)
  words_lt s h =
      subst (λ (z : ℕ). AllByRecursion (λ x. x < z) (words s)) (sym (pow_bytes w))
      (h.s0.left, (h.s0.right, (h.s1.left, (h.s1.right, (h.s2.left, (h.s2.right, (h.s3.left, (h.s3.right, tt))))))))

  pub word_lt : (s : List ℕ) → Bytes (w * 8) s → (i : ℕ) → i < 8 → slice_index (loads w 8 s) i < 2 ^ (8 * w)
  word_lt s b i h =
      let all : AllByRecursion (λ x. x < 2 ^ (8 * w)) (loads w 8 s) = subst (λ (z : ℕ). AllByRecursion (λ x. x < z) (loads w 8 s)) (pow_bytes w) (loads_lt w 8 s b.size b.small) in
      let n : length (loads w 8 s) ≡ 8 = length_loads w 8 s in
      All-get_or (λ x. x < 2 ^ (8 * w)) (loads w 8 s) i 0 (omega arith) all

  pub of_words_fit : (s : List ℕ) → Bytes (w * 8) s → FitsIn (8 * w) (of_words (loads w 8 s))
  of_words_fit s b =
      let at : (i : ℕ) → i < 8 → slice_index (loads w 8 s) i < 2 ^ (8 * w) = word_lt s b in
      record {
        s0 = record { left = at 0 (omega arith); right = at 1 (omega arith) };
        s1 = record { left = at 2 (omega arith); right = at 3 (omega arith) };
        s2 = record { left = at 4 (omega arith); right = at 5 (omega arith) };
        s3 = record { left = at 6 (omega arith); right = at 7 (omega arith) };
      }

  -- a state that fits is loaded as it was stored
  reload : (s : StateWords) → FitsIn (8 * w) s → of_words (loads w 8 (stores w (words s))) ≡ s
  reload s h = ap of_words (loads_stores w (words s) (words_lt s h))

  restore : (s : List ℕ) → Bytes (w * 8) s → stores w (words (of_words (loads w 8 s))) ≡ s
  unfolding loads
  restore s b = stores_loads w 8 s b.size b.small

  stored : (s : StateWords) → Bytes (w * 8) (stores w (words s))
  stored s = record { size = length_stores w (words s); small = stores_bytes w (words s) }

  -- by n steps of a table, which are all steps of its first n rows
  module _ (u : ℕ) (ks : List StepConstants) (small : AllByRecursion Small ks) (some : 1 ≤ w) (most : w ≤ 8) (n : ℕ) where
    abbrev rows : List StepConstants
    rows = take n ks

    rows_small : AllByRecursion Small rows
    rows_small = All-take Small n ks small

    backward_forward : (s : List ℕ) → Bytes (w * 8) s → backward_by w u ks n (forward_by w u ks n s) ≡ s
    unfolding forward_by backward_by
    backward_forward s b =
        let x : StateWords = of_words (loads w 8 s) in
        let fit : FitsIn (8 * w) (steps (8 * w) u rows x) = steps_fit (8 * w) (omega arith) u rows x rows_small (of_words_fit s b) in
        ap (λ y. stores w (words (unsteps (8 * w) u rows y))) (reload (steps (8 * w) u rows x) fit)
        ∙ ap (λ y. stores w (words y)) (unsteps_steps (8 * w) u rows x)
        ∙ restore s b

    forward_backward : (s : List ℕ) → Bytes (w * 8) s → forward_by w u ks n (backward_by w u ks n s) ≡ s
    unfolding forward_by backward_by
    forward_backward s b =
        let x : StateWords = of_words (loads w 8 s) in
        let fit : FitsIn (8 * w) (unsteps (8 * w) u rows x) = unsteps_fit (8 * w) (omega arith) u rows x rows_small (of_words_fit s b) in
        ap (λ y. stores w (words (steps (8 * w) u rows y))) (reload (unsteps (8 * w) u rows x) fit)
        ∙ ap (λ y. stores w (words y)) (steps_unsteps (8 * w) u rows x)
        ∙ restore s b

  pub bijective : (u : ℕ) (ks : List StepConstants) → AllByRecursion Small ks → 1 ≤ w → w ≤ 8 → Bijective (light w u ks)
  unfolding forward_by backward_by steps
  bijective u ks small some most = record {
    most = omega arith;
    none = restore;
    forward_by_bytes = λ n s h b. stored (steps (8 * w) u (take n ks) (load_state w s));
    back_by_bytes = λ n s h b. stored (unsteps (8 * w) u (take n ks) (load_state w s));
    undo = record {
      back_forward = λ n s h b. backward_forward u ks small some most n s b;
      forward_back = λ n s h b. forward_backward u ks small some most n s b;
    };
  }
