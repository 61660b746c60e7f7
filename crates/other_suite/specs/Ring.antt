-- The ring permutation, on 23 bytes. Assumes nothing.
use Rattle.std.specs.Prelude.{ℕ, zero, suc, List, ◌++◌, take, drop}
use Rattle.permutations.specs.Bytes.{xors}
use Rattle.permutations.specs.Permutation.{Perm, perm_of}

-- turned left by n places
unfoldable pub turned : ℕ → List ℕ → List ℕ
turned n s = drop n s ++ take n s

-- each of the first 11 bytes xored with the byte 11 places on
unfoldable pub mixed : List ℕ → List ℕ
mixed s = xors (take 11 s) (take 11 (drop 11 s)) ++ drop 11 s

-- step 0 turns left by 12 places, which is right by 11, and step 1 mixes
abbrev pub forward_by : ℕ → List ℕ → List ℕ
forward_by zero s = s
forward_by (suc zero) s = turned 12 s
forward_by (suc (suc _)) s = mixed (turned 12 s)

-- mixing undoes itself, and then comes the turn left by 11 places
abbrev pub backward_by : ℕ → List ℕ → List ℕ
backward_by zero s = s
backward_by (suc zero) s = turned 11 s
backward_by (suc (suc _)) s = turned 11 (mixed s)

-- the ring permutation: 23 bytes, two steps
abbrev pub ring : Perm
ring = perm_of 23 2 forward_by backward_by
