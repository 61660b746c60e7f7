-- Worked examples of the bench suite. Assumes nothing.
use Rattle.std.specs.Prelude.{◌≡◌, ℕ, List, [], ◌∷◌, ◌++◌, replicate}
use Rattle.permutations.specs.Bench.{bench}
use Rattle.spoc.specs.Bench.{bench_plan}
use Rattle.spoc.specs.Feed.{tag, ciphertext}

-- eight times one byte
abbrev pub eight : ℕ → List ℕ
eight n = replicate 8 n

-- the key is eight 01 and eight 02, the nonce eight 04 and eight 08
abbrev example_tag : List ℕ → List ℕ → List ℕ
example_tag d m = tag bench bench_plan (eight 0x01 ++ eight 0x02) (eight 0x04 ++ eight 0x08) d m

-- the ciphertext under the same
abbrev example_text : List ℕ → List ℕ → List ℕ
example_text d m = ciphertext bench bench_plan (eight 0x01 ++ eight 0x02) (eight 0x04 ++ eight 0x08) d m

-- nothing sealed; eight 10 as data; one 10 as message; eight 10 and eight 20; eight 10 as message
abbrev pub BenchExamples : Type 0
BenchExamples =
    (example_tag [] [] ≡ eight 0x09)
    × (example_tag (eight 0x10) [] ≡ eight 0x1d)
    × (example_text [] (0x10 ∷ []) ≡ 0x12 ∷ [])
    × (example_tag [] (0x10 ∷ []) ≡ 0x1d ∷ 0x8d ∷ replicate 6 0x0d)
    × (example_text (eight 0x10) (eight 0x20) ≡ eight 0x21)
    × (example_tag (eight 0x10) (eight 0x20) ≡ 0x1f ∷ replicate 7 0x3f)
    × (example_text [] (eight 0x10) ≡ eight 0x12)
    × (example_tag [] (eight 0x10) ≡ eight 0x1d)
