-- The diffusion page: how many output bits change with each input bit. Assumes nothing.
use Rattle.std.specs.Prelude.{◌≡◌, ℕ, zero, suc, ◌+◌, ◌-◌, ◌*◌, ◌/◌, ◌%◌, ◌^◌, ◌<◌, ◌≤◌, List, [], ◌∷◌, ◌++◌, length, drop, replicate, Ok, Err, Result, bit_xor, count_ones, codes, decimal, is_ok, nat_le, slice_index, slice_set, sum_by, if◌then◌else◌}
use Rattle.permutations.specs.Bench.{bench}
use Rattle.permutations.specs.Bytes.{xors}
use Rattle.permutations.specs.Permutation.{Bytes, Perm}
use Rattle.permutations.specs.declared.fault.PageFault.{PageFault}
use Rattle.permutations.specs.declared.fault.PageFault.TheVariants.{TooManySteps, BufferShort}

-- a state with bit i flipped; bit 0 is the highest bit of the first byte
abbrev pub with_bit_flipped : ℕ → List ℕ → List ℕ
with_bit_flipped i x = slice_set x (i / 8) (bit_xor (slice_index x (i / 8)) (128 / 2 ^ (i % 8)))

-- the count for input bit i: the ones in the xor of both outputs, after s steps
abbrev pub count_for : Perm → ℕ → List ℕ → ℕ → ℕ
count_for p s x i = sum_by count_ones (xors (p.forward_by s x) (p.forward_by s (with_bit_flipped i x)))

-- a number, right-aligned in n columns
abbrev pub field_of : ℕ → ℕ → List ℕ
field_of n k = replicate (n - length (decimal k)) 32 ++ decimal k

-- the texts f 0 to f (n - 1), one after the other
unfoldable pub texts : (ℕ → List ℕ) → ℕ → List ℕ
texts f zero = []
texts f (suc n) = texts f n ++ f n

-- the sum of f 0 to f (n - 1)
unfoldable pub sum_to : (ℕ → ℕ) → ℕ → ℕ
sum_to f zero = 0
sum_to f (suc n) = sum_to f n + f n

-- line k: eight counts, from that of bit 8 k on
abbrev pub line_of : (ℕ → ℕ) → ℕ → List ℕ
line_of count k = texts (λ j. field_of 4 (count (8 * k + j))) 8 ++ (10 ∷ [])

-- the last line: sum, and the total in the 29 columns after it
abbrev pub sum_line : ℕ → List ℕ
sum_line total = codes "sum" ++ (field_of 29 total ++ (10 ∷ []))

-- a line for each of b bytes, and the last line
abbrev pub lines_of : (ℕ → ℕ) → ℕ → List ℕ
lines_of count b = texts (line_of count) b ++ sum_line (sum_to count (8 * b))

-- the page of a state after s steps
abbrev pub page_of : Perm → ℕ → List ℕ → List ℕ
page_of p s x = lines_of (count_for p s x) p.size

-- its length: each line has 33 bytes
abbrev pub page_bytes : Perm → ℕ
page_bytes p = 33 * (p.size + 1)

-- is s at most the full number, and is the buffer, of n bytes, long enough for the page?
abbrev pub page_answer : Perm → ℕ → ℕ → Result ℕ PageFault
page_answer p s n =
    if nat_le s p.full then (if nat_le (page_bytes p) n then Ok (page_bytes p) else Err BufferShort)
    else Err TooManySteps

-- the buffer: after a no as it was; else it begins with the page, and stays beyond it
abbrev pub page_buffer : Perm → ℕ → List ℕ → List ℕ → List ℕ
page_buffer p s x buffer =
    if is_ok (page_answer p s (length buffer)) then page_of p s x ++ drop (page_bytes p) buffer
    else buffer

-- bench by one step counts 2 for each of the first 64 bits, 1 for each other, and 320 in all, whatever the state
pub record BenchCounts (x : List ℕ) : Type 0 where
  pub first : (i : ℕ) → i < 64 → count_for bench 1 x i ≡ 2
  pub others : (i : ℕ) → 64 ≤ i → i < 256 → count_for bench 1 x i ≡ 1
  pub total : sum_to (count_for bench 1 x) 256 ≡ 320

abbrev pub BenchPage : Type 0
BenchPage = (x : List ℕ) → Bytes 32 x → BenchCounts x
