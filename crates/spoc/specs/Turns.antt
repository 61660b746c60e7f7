-- The feed mask by mask, as code that sees one block at a time makes it. Assumes nothing.
use Rattle.std.specs.Prelude.{ℕ, Bool, true, false, cond, ◌&&◌, List, map, length, ◌==◌, bit_xor}
use Rattle.std.specs.List.{flat_map}
use Rattle.permutations.specs.Bytes.{xors}
use Rattle.permutations.specs.Permutation.{Perm}
use Rattle.spoc.specs.declared.mode.Way.{Way}
use Rattle.spoc.specs.declared.mode.Way.TheVariants.{Seal, Open}
use Rattle.spoc.specs.Feed.{blocks, control, zero_mask, mask, masks, flagged, ended, run, ciphers, plains}
use Rattle.spoc.specs.Suite.{Plan}

-- the last mask of a row flagged if e says so
abbrev pub ended_if : Bool → Plan → List (List ℕ) → List (List ℕ)
ended_if true q ms = ended q ms
ended_if false q ms = ms

-- the control byte of a block, with 0x80 xored in if it is the last of the feed
abbrev pub control_byte : ℕ → ℕ → List ℕ → Bool → ℕ
control_byte r c x last = cond last (bit_xor (control r c x) 0x80) (control r c x)

-- the zero mask, flagged if it is the only one
abbrev pub first_mask : Perm → Plan → Bool → List ℕ
first_mask p q true = flagged q (zero_mask p)
first_mask p q false = zero_mask p

-- the message's masks, from the ciphertext and the state before them
abbrev pub opened_masks : Perm → Plan → List ℕ → List ℕ → List (List ℕ)
opened_masks p q s c = ended q (map (mask p q 0x40) (plains p q s (blocks q.rate c)))

-- the state after the zero mask and the data, where m is the message or its ciphertext
abbrev pub at_message : Perm → Plan → List ℕ → List ℕ → List ℕ → List ℕ
at_message p q s d m = run p (p.forward (xors s (first_mask p q (length d == 0 && length m == 0)))) (ended_if (length m == 0) q (masks p q 0x20 d))

-- the message's block, where x goes in and y comes out
abbrev pub plain_of : Way → List ℕ → List ℕ → List ℕ
plain_of Seal x y = x
plain_of Open x y = y

-- the message's masks, from what goes in and the state before them
abbrev pub masks_of : Way → Perm → Plan → List ℕ → List ℕ → List (List ℕ)
masks_of Seal p q s x = ended q (masks p q 0x40 x)
masks_of Open p q s x = opened_masks p q s x

-- what comes out
abbrev pub output_of : Way → Perm → Plan → List ℕ → List ℕ → List ℕ
output_of Seal p q s x = ciphers p q s (blocks q.rate x) (ended q (masks p q 0x40 x))
output_of Open p q s x = flat_map (λ x. x) (plains p q s (blocks q.rate x))
