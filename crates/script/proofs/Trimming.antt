-- A line that ends in a carriage return, and one that does not. Assumes nothing.
use Rattle.std.proofs.Common.{◌≡◌, ℕ, ◌+◌, ◌-◌, true, false, length, take, drop, eqb, List, [], ◌∷◌, ◌++◌, Some, None, Option, MatchOption, unwrap_or, Bor, sym, refl, ap, ◌∙◌}
use Rattle.std.proofs.lemmas.Bool.{ne_eqb, cond-false}
use Rattle.std.proofs.lemmas.Bool.Decides.{Decides-eqb}
use Rattle.std.proofs.lemmas.Slice.Eq.{strip_suffix_is}
use Rattle.std.specs.Str.{bytes_eq}
use Rattle.script.specs.Lines.{trimmed}

trimmed_return : (line : List ℕ) → trimmed (line ++ 13 ∷ []) ≡ line
trimmed_return [] = refl
trimmed_return (b ∷ []) = refl
trimmed_return (b ∷ c ∷ bs) = ap (λ (l : List ℕ). b ∷ l) (trimmed_return (c ∷ bs))

trimmed_same : (line : List ℕ) → ((front : List ℕ) → line ≡ front ++ 13 ∷ [] → ⊥) → trimmed line ≡ line
trimmed_same [] other = refl
trimmed_same (b ∷ []) other = cond-false (eqb b 13) [] (b ∷ []) (ne_eqb b 13 (λ e. other [] (ap (λ (x : ℕ). x ∷ []) e)))
trimmed_same (b ∷ c ∷ bs) other =
    ap (λ (l : List ℕ). b ∷ l) (trimmed_same (c ∷ bs) (λ front e. other (b ∷ front) (ap (λ (l : List ℕ). b ∷ l) e)))

-- what is left where a carriage return was taken off the end, and the line where there is none
pub trimmed_rest : (line : Bor (List ℕ)) (rest : Option (Bor (List ℕ)))
    → MatchOption rest (bytes_eq (drop (length line.now - 1) line.now) (13 ∷ []) ≡ false) (λ x. (bytes_eq (drop (length line.now - 1) line.now) (13 ∷ []) ≡ true) × (x.now ≡ take (length line.now - 1) line.now) × (length x.now + 1 ≡ length line.now))
    → (unwrap_or rest line).now ≡ trimmed line.now
trimmed_rest line None m = sym (trimmed_same line.now (strip_suffix_is Decides-eqb line.now (13 ∷ []) None m))
trimmed_rest line (Some x) m = sym (ap trimmed (strip_suffix_is Decides-eqb line.now (13 ∷ []) (Some x) m) ∙ trimmed_return x.now)
