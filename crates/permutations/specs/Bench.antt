-- The bench permutation, on 32 bytes in quarters Q0 to Q3 of 8. Assumes nothing.
use Rattle.std.specs.Prelude.{ℕ, zero, suc, List, ◌++◌, take, drop}
use Rattle.permutations.specs.Bytes.{xors}
use Rattle.permutations.specs.Permutation.{Perm, perm_of}

-- (Q3 xor Q0, Q0, Q1, Q2)
unfoldable pub forward : List ℕ → List ℕ
forward s = xors (drop 24 s) (take 8 s) ++ take 24 s

-- (Q1, Q2, Q3, Q0 xor Q1)
unfoldable pub backward : List ℕ → List ℕ
backward s = drop 8 s ++ xors (take 8 s) (take 8 (drop 8 s))

-- by no steps, and by its one
abbrev pub forward_by : ℕ → List ℕ → List ℕ
forward_by zero s = s
forward_by (suc _) s = forward s

abbrev pub backward_by : ℕ → List ℕ → List ℕ
backward_by zero s = s
backward_by (suc _) s = backward s

abbrev pub bench : Perm
bench = perm_of 32 1 forward_by backward_by
