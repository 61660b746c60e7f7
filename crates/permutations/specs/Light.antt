-- sLiSCP-light on bytes: words of w bytes, boxes of u rounds, a table of constants. Assumes nothing.
use Rattle.std.specs.Prelude.{ℕ, ◌*◌, List, [], ◌∷◌, take, slice_index}
use Rattle.permutations.specs.declared.constants.StepConstants.{StepConstants}
use Rattle.permutations.specs.Bytes.{loads, stores}
use Rattle.permutations.specs.Constants.{constants_192, constants_256}
use Rattle.permutations.specs.Permutation.{Perm, perm_of}
use Rattle.permutations.specs.Simeck.{block}
use Rattle.permutations.specs.Steps.{StateWords, steps, unsteps}

-- the eight words of a state, in order
abbrev pub words : StateWords → List ℕ
words s = s.s0.left ∷ s.s0.right ∷ s.s1.left ∷ s.s1.right ∷ s.s2.left ∷ s.s2.right ∷ s.s3.left ∷ s.s3.right ∷ []

abbrev pub of_words : List ℕ → StateWords
of_words x =
    record {
      s0 = block (slice_index x 0) (slice_index x 1);
      s1 = block (slice_index x 2) (slice_index x 3);
      s2 = block (slice_index x 4) (slice_index x 5);
      s3 = block (slice_index x 6) (slice_index x 7);
    }

abbrev pub load_state : ℕ → List ℕ → StateWords
load_state w s = of_words (loads w 8 s)

abbrev pub store_state : ℕ → StateWords → List ℕ
store_state w s = stores w (words s)

-- the steps of a table's first s rows, and these undone
unfoldable pub forward_by : ℕ → ℕ → List StepConstants → ℕ → List ℕ → List ℕ
forward_by w u ks s x = store_state w (steps (8 * w) u (take s ks) (load_state w x))

unfoldable pub backward_by : ℕ → ℕ → List StepConstants → ℕ → List ℕ → List ℕ
backward_by w u ks s x = store_state w (unsteps (8 * w) u (take s ks) (load_state w x))

-- 18 steps, under the rows of a table
abbrev pub light : ℕ → ℕ → List StepConstants → Perm
light w u ks = perm_of (w * 8) 18 (forward_by w u ks) (backward_by w u ks)

-- sLiSCP-light-[192]: words of 24 bits, boxes of 6 rounds
abbrev pub light_192 : Perm
light_192 = light 3 6 constants_192

-- sLiSCP-light-[256]: words of 32 bits, boxes of 8 rounds
abbrev pub light_256 : Perm
light_256 = light 4 8 constants_256
