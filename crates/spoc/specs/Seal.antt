-- What seal, open and test answer under SpoC over a suite, and what they leave in their buffers. Assumes nothing.
use Rattle.std.specs.Prelude.{List, ℕ}
use Rattle.permutations.specs.Permutation.{Perm}
use Rattle.sealer.specs.Seal as sealer
use Rattle.spoc.specs.Sealing.{spoc}
use Rattle.spoc.specs.Suite.{Plan}

-- seal, of key, nonce, data, message, output and the tag's buffer
abbrev pub sealed : Perm → Plan → List ℕ → List ℕ → List ℕ → List ℕ → List ℕ → List ℕ → sealer.Sealed
sealed p q = sealer.sealed (spoc p q)

-- open, of key, nonce, data, ciphertext, output and tag
abbrev pub opened : Perm → Plan → List ℕ → List ℕ → List ℕ → List ℕ → List ℕ → List ℕ → sealer.Opened
opened p q = sealer.opened (spoc p q)

-- test, of key, nonce, data, ciphertext, scratch and tag
abbrev pub tested : Perm → Plan → List ℕ → List ℕ → List ℕ → List ℕ → List ℕ → List ℕ → sealer.Opened
tested p q = sealer.tested (spoc p q)

-- seal and then open of what it left, of key, nonce, data, message, the ciphertext's buffer, open's output and the tag's buffer
abbrev pub sealed_then_opened : Perm → Plan → List ℕ → List ℕ → List ℕ → List ℕ → List ℕ → List ℕ → List ℕ → sealer.Opened
sealed_then_opened p q = sealer.sealed_then_opened (spoc p q)
