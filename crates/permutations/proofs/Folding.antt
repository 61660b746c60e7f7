-- The steps of a table as the code runs them. Assumes nothing.
use Rattle.std.proofs.Common.{◌≡◌, ℕ, List, [], ◌∷◌, fold, reverse, refl, sym, ap, ◌∙◌}
use Rattle.std.proofs.lemmas.List.Sums.{fold-append}
use Rattle.std.proofs.lemmas.List.{reverse-append}
use Rattle.permutations.specs.declared.constants.StepConstants.{StepConstants}
use Rattle.permutations.specs.Steps.{StateWords, step, unstep, steps, unsteps}

pub steps_fold : (m u : ℕ) (ks : List StepConstants) (s : StateWords) → steps m u ks s ≡ fold (λ x k. step m u k x) s ks
unfolding steps
steps_fold m u [] s = refl
steps_fold m u (k ∷ ks) s = steps_fold m u ks (step m u k s)

pub unsteps_fold : (m u : ℕ) (ks : List StepConstants) (s : StateWords) → unsteps m u ks s ≡ fold (λ x k. unstep m u k x) s (reverse ks)
unfolding unsteps
unsteps_fold m u [] s = refl
unsteps_fold m u (k ∷ ks) s =
    let f : StateWords → StepConstants → StateWords = λ x j. unstep m u j x in
    ap (unstep m u k) (unsteps_fold m u ks s) ∙ sym (ap (fold f s) (reverse-append (k ∷ []) ks) ∙ fold-append f s (reverse ks) (k ∷ []))
