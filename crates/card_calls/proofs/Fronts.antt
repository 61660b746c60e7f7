-- The front of a slice. Assumes nothing.
use Rattle.std.proofs.Common.{◌≡◌, ℕ, min, List, length, take, sym, ap, ◌∙◌, inl, inr, arith}
use Rattle.std.proofs.lemmas.Bool.{cases_lt}
use Rattle.std.proofs.lemmas.List.{take_all}

-- the front of a buffer, of at most all its bytes
pub take_min : {X : Type 0} (n k : ℕ) (s : List X) → k ≡ min n (length s) → take k s ≡ take n s
take_min n k s e =
    elim (cases_lt n (length s)) [
      | inl l ↦ let is : k ≡ n = omega arith in ap (λ i. take i s) is
      | inr g ↦ take_all k s (omega arith) ∙ sym (take_all n s g)
    ]
