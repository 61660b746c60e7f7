-- What calls of write_str leave in a text of a fixed size.
use Rattle.std.proofs.Common.{◌≡◌, ℕ, List, [], ◌∷◌, ◌++◌, Some, None, IfSome, Option, sym, ap, ◌∙◌, subst, append-nil, append_assoc}
use Rattle.std.specs.List.{FoldsTo, concat}
use Rattle.std.specs.Fmt.{WritesInCalls, WritesText}
use Rattle.std.specs.Fmt.InlineText.{IsIntact, AppendsIfIntact, inline_text}
use Rattle.std.specs.declared.fmt.InlineText.{InlineText}

module _ {n : ℕ} where
  after_calls : (s : InlineText n) (parts : List (List ℕ)) (t : InlineText n) → FoldsTo AppendsIfIntact s parts t → AppendsIfIntact s (concat parts) t
  after_calls s [] t e = λ intact. (subst IsIntact e intact, sym (ap inline_text e) ∙ sym (append-nil (inline_text s)))
  after_calls s (x ∷ xs) t h = λ intact.
      let one = h.1 intact in
      let rest = after_calls h.0 xs t h.2 one.0 in
      (rest.0, rest.1 ∙ ap (λ (l : List ℕ). l ++ concat xs) one.1 ∙ append_assoc (inline_text s) x (concat xs))

  after_writes : (s : InlineText n) (bs : List ℕ) (t : InlineText n) → IsIntact s → WritesInCalls AppendsIfIntact s bs t → inline_text t ≡ inline_text s ++ bs
  after_writes s bs t intact w = (after_calls s w.parts t w.calls intact).1 ∙ ap (λ (l : List ℕ). inline_text s ++ l) w.whole

  -- what holds of a text that was written to an empty one holds of what was to be written
  pub of_written : (o : Option (List ℕ)) (s t : InlineText n) (P : List ℕ → Type 0) → IsIntact s → inline_text s ≡ [] → WritesText AppendsIfIntact s o t → P (inline_text t) → IfSome o P
  of_written None s t P intact empty w p = tt
  of_written (Some bs) s t P intact empty w p = subst P (after_writes s bs t intact w ∙ ap (λ (l : List ℕ). l ++ bs) empty) p
