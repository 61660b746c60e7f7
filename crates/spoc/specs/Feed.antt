-- The feed of a data and a message, the end state, the tag, the ciphertext and what opens it. Assumes nothing.
use Rattle.std.specs.Prelude.{ℕ, zero, suc, ◌+◌, cond, List, [], ◌∷◌, ◌++◌, map, length, take, drop, replicate, Some, None, Option, bit_xor, nat_lt, slice_index, slice_set}
use Rattle.std.specs.List.{flat_map}
use Rattle.std.specs.Str.{bytes_eq}
use Rattle.permutations.specs.Bytes.{xors}
use Rattle.permutations.specs.Permutation.{Perm}
use Rattle.spoc.specs.Suite.{Plan, start}

-- s cut into blocks of r, of which only the last may be short; n bounds how many
abbrev pub cut : ℕ → ℕ → List ℕ → List (List ℕ)
cut r zero s = []
cut r (suc n) [] = []
cut r (suc n) (x ∷ s) = take r (x ∷ s) ∷ cut r n (drop r (x ∷ s))

-- the blocks of s
abbrev pub blocks : ℕ → List ℕ → List (List ℕ)
blocks r s = cut r (length s) s

-- a block of r bytes; a shorter one is followed by 0x80 and zeros
abbrev pub padded : ℕ → List ℕ → List ℕ
padded r x = take r (x ++ 0x80 ∷ replicate r 0)

-- the control byte of a block: c if it is full, 0x10 more if it is short
abbrev pub control : ℕ → ℕ → List ℕ → ℕ
control r c x = cond (nat_lt (length x) r) (c + 0x10) c

-- the values vs at the places ps of s
abbrev pub put : List ℕ → List ℕ → List ℕ → List ℕ
put [] vs s = s
put (p ∷ ps) [] s = s
put (p ∷ ps) (v ∷ vs) s = put ps vs (slice_set s p v)

-- what stands at the places ps of s
abbrev pub pick : List ℕ → List ℕ → List ℕ
pick ps s = map (λ p. slice_index s p) ps

-- the place of the control byte: the first rate place
abbrev pub control_place : Plan → ℕ
control_place q = slice_index q.rate_places 0

-- a mask of zeros, as wide as the state
abbrev pub zero_mask : Perm → List ℕ
zero_mask p = replicate p.size 0

-- the mask with the block x at the masked places and the control byte c
abbrev pub mask_with : Perm → Plan → ℕ → List ℕ → List ℕ
mask_with p q c x = slice_set (put q.masked_places (padded q.rate x) (zero_mask p)) (control_place q) c

-- the mask of a block whose control byte is c if it is full
abbrev pub mask : Perm → Plan → ℕ → List ℕ → List ℕ
mask p q c x = mask_with p q (control q.rate c x) x

-- the masks of the blocks of s
abbrev pub masks : Perm → Plan → ℕ → List ℕ → List (List ℕ)
masks p q c s = map (mask p q c) (blocks q.rate s)

-- 0x80 xored into the control place
abbrev pub flagged : Plan → List ℕ → List ℕ
flagged q m = slice_set m (control_place q) (bit_xor (slice_index m (control_place q)) 0x80)

-- the last mask of a row flagged
abbrev pub ended : Plan → List (List ℕ) → List (List ℕ)
ended q [] = []
ended q (m ∷ []) = flagged q m ∷ []
ended q (m ∷ n ∷ ms) = m ∷ ended q (n ∷ ms)

-- a zero mask, then the masks of the data blocks (0x20, short 0x30) and of the message blocks (0x40, short 0x50)
abbrev pub feed : Perm → Plan → List ℕ → List ℕ → List (List ℕ)
feed p q d m = ended q (zero_mask p ∷ masks p q 0x20 d ++ masks p q 0x40 m)

-- each mask is xored in, and forward follows
abbrev pub run : Perm → List ℕ → List (List ℕ) → List ℕ
run p s [] = s
run p s (m ∷ ms) = run p (p.forward (xors s m)) ms

-- where a feed leads the state s
abbrev pub end_state : Perm → Plan → List ℕ → List ℕ → List ℕ → List ℕ
end_state p q s d m = run p s (feed p q d m)

-- the masked places of the end state
abbrev pub tag : Perm → Plan → List ℕ → List ℕ → List ℕ → List ℕ → List ℕ
tag p q k n d m = pick q.masked_places (end_state p q (start p q k n) d m)

-- each block xored with the rate places just before its mask goes in
abbrev pub ciphers : Perm → Plan → List ℕ → List (List ℕ) → List (List ℕ) → List ℕ
ciphers p q s [] ms = []
ciphers p q s (x ∷ xs) [] = []
ciphers p q s (x ∷ xs) (m ∷ ms) = xors x (pick q.rate_places s) ++ ciphers p q (p.forward (xors s m)) xs ms

-- how many masks go in before the first message block
abbrev pub before : Plan → List ℕ → ℕ
before q d = suc (length (blocks q.rate d))

-- the message's blocks, each xored as its mask's turn comes
abbrev pub ciphertext : Perm → Plan → List ℕ → List ℕ → List ℕ → List ℕ → List ℕ
ciphertext p q k n d m =
    let ms = feed p q d m in
    ciphers p q (run p (start p q k n) (take (before q d) ms)) (blocks q.rate m) (drop (before q d) ms)

-- the message blocks of ciphertext blocks: each xored with the rate places just before its mask goes in, and the mask has the message
abbrev pub plains : Perm → Plan → List ℕ → List (List ℕ) → List (List ℕ)
plains p q s [] = []
plains p q s (y ∷ ys) = xors y (pick q.rate_places s) ∷ plains p q (p.forward (xors s (mask p q 0x40 (xors y (pick q.rate_places s))))) ys

-- the message of a ciphertext
abbrev pub plaintext : Perm → Plan → List ℕ → List ℕ → List ℕ → List ℕ → List ℕ
plaintext p q k n d c = flat_map (λ x. x) (plains p q (run p (start p q k n) (zero_mask p ∷ masks p q 0x20 d)) (blocks q.rate c))

-- the message, if its tag is t
abbrev pub opens : Perm → Plan → List ℕ → List ℕ → List ℕ → List ℕ → List ℕ → Option (List ℕ)
opens p q k n d c t =
    let m = plaintext p q k n d c in
    cond (bytes_eq (tag p q k n d m) t) (Some m) None
