-- The words of a line, by the place of its first space.
use Rattle.std.proofs.Common.{◌≡◌, ℕ, ◌+◌, ◌-◌, ◌≤◌, ◌<◌, Bool, List, [], ◌∷◌, length, take, drop, nat_eq, Some, None, Err, sym, refl, ap, ◌∙◌, arith}
use Rattle.std.proofs.lemmas.Bool.Decides.{nat_tests}
use Rattle.std.proofs.lemmas.List.{take_rest}
use Rattle.std.proofs.lemmas.List.Quantifiers.{position-Some}
use Rattle.std.proofs.lemmas.List.Splits.{slice_split_first, slice_split_none, length-slice_split}
use Rattle.std.proofs.lemmas.List.Sums.{position_or_len_is, fails_before_first}
use Rattle.std.specs.Borrow.{Bor}
use Rattle.std.specs.List.{position, position_or_len}
use Rattle.script.specs.declared.unread.Unread.TheVariants.{TooManyWords}
use Rattle.script.specs.Words.{words, left, ending}
use Rattle.script.specs.declared.words.Words.{Words}

abbrev space : ℕ → Bool
space b = nat_eq b 32

pub split_there : (line : List ℕ) (i : ℕ) → position space line ≡ Some i → words line ≡ take i line ∷ words (take (length line - (i + 1)) (drop (i + 1) line))
split_there line i at =
    let there = position-Some space line i 0 at in
    let is : position_or_len space line ≡ i = position_or_len_is space line i 0 (omega (arith, there.0)) there.2 (λ h. there.1) in
    slice_split_first space line 0 (omega (arith, is, there.0))
    ∙ ap (λ (n : ℕ). take n line ∷ words (drop (n + 1) line)) is
    ∙ ap (λ (l : List ℕ). take i line ∷ words l) (sym (take_rest line (i + 1)))

pub split_nowhere : (line : List ℕ) → position space line ≡ None → words line ≡ line ∷ []
split_nowhere line nowhere =
    let past : length line ≤ position_or_len space line = grind (arith, nat_tests) in
    slice_split_none space line (λ k d h. fails_before_first space line k d (omega arith))

some_left : (ws : List (List ℕ)) → 0 < length ws → ending ws ≡ Err TooManyWords
some_left [] some = absurd (omega arith)
some_left (w ∷ ws) some = refl

-- there is always a word left
pub not_ending : (w : Words) (r : Bor (List ℕ)) → w.rest ≡ Some r → ending (left w) ≡ Err TooManyWords
not_ending w r e = rw e (some_left (words r.now) (omega (arith, length-slice_split space r.now)))
