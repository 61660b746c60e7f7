-- SpoC over a suite, as the layers above see it. Assumes nothing.
use Rattle.permutations.specs.Permutation.{Perm}
use Rattle.sealer.specs.Sealing.{Sealing}
use Rattle.spoc.specs.Feed.{ciphertext, tag, opens}
use Rattle.spoc.specs.Suite.{Plan}

abbrev pub spoc : Perm → Plan → Sealing
spoc p q = record { version = q.version; width = q.rate; ciphertext = ciphertext p q; tag = tag p q; opens = opens p q }
