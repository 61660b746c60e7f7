-- The scratch that check leaves.
use Rattle.std.proofs.Common.{◌≡◌, ℕ, ◌≤◌, List, ◌++◌, length, drop, replicate, refl, ap, ◌∙◌, arith}
use Rattle.std.proofs.lemmas.Bool.Decides.{nat_tests}
use Rattle.cards.specs.Reader.{scratch_after, wiped}

wiped_is : (s : List ℕ) → replicate 16 0 ++ drop 16 s ≡ wiped s
unfolding wiped
wiped_is s = refl

pub wiped_over : (key s z : List ℕ) → length key ≡ 16 → 16 ≤ length s → z ≡ replicate 16 0 → z ++ drop 16 s ≡ scratch_after key s
wiped_over key s z hk hs zeros = ap (λ (l : List ℕ). l ++ drop 16 s) zeros ∙ wiped_is s ∙ grind (arith, nat_tests)
