-- What the cipher's open says to the card layer.
use Rattle.std.proofs.Common.{◌≡◌, ℕ, List, length, Some, sym, ap, ◌∙◌}
use Rattle.sealer.specs.Sealing.{Sealing, Laws}

-- the message is as long as the ciphertext
module _ (S : Sealing) (L : Laws S) (k n d c t : List ℕ) where
  pub opened_length : (m : List ℕ) → S.opens k n d c t ≡ Some m → length m ≡ length c
  opened_length m e = sym (L.ciphertext_length k n d m) ∙ ap length (L.only_sealed k n d c t m e).0
