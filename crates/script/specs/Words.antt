-- The words of a line, split at each space. Assumes nothing.
use Rattle.std.specs.Prelude.{◌≡◌, ℕ, List, [], ◌∷◌, Some, None, Ok, Err, Option, Result, MatchResult, ◌==◌}
use Rattle.std.specs.Borrow.{Bor}
use Rattle.std.specs.List.{slice_split}
use Rattle.std.specs.Option.{option_map}
use Rattle.script.specs.declared.unread.Unread.{Unread}
use Rattle.script.specs.declared.unread.Unread.TheVariants.{TooFewWords, TooManyWords, EmptyWord}
use Rattle.script.specs.declared.words.Words.{Words}

-- a line split at each space: one word more than there are spaces
abbrev pub words : List ℕ → List (List ℕ)
words = slice_split (λ b. b == 32)

-- the words of what is left of a line, if anything is
abbrev pub words_in : Option (List ℕ) → List (List ℕ)
words_in None = []
words_in (Some line) = words line

-- the words that are not read yet
abbrev pub left : Words → List (List ℕ)
left w = words_in (option_map (λ r. r.now) w.rest)

-- the next of the words that are left
abbrev pub next_word : List (List ℕ) → Result (List ℕ) Unread
next_word [] = Err TooFewWords
next_word ([] ∷ ws) = Err EmptyWord
next_word ((b ∷ w) ∷ ws) = Ok (b ∷ w)

-- the words that are left after it
abbrev pub next_left : List (List ℕ) → List (List ℕ)
next_left [] = []
next_left (w ∷ ws) = ws

-- reading goes on with what was read, and ends at the first reason against it
abbrev pub with_read : {A B : Type 0} → Result A Unread → (A → Result B Unread) → Result B Unread
with_read (Ok x) f = f x
with_read (Err e) f = Err e

-- the next word, with the words after it
abbrev pub with_word : {B : Type 0} → List (List ℕ) → (List ℕ → List (List ℕ) → Result B Unread) → Result B Unread
with_word ws f = with_read (next_word ws) (λ w. f w (next_left ws))

-- the same, with what the word says
abbrev pub with_next : {A B : Type 0} → (List ℕ → Result A Unread) → List (List ℕ) → (A → List (List ℕ) → Result B Unread) → Result B Unread
with_next read ws f = with_word ws (λ w rest. with_read (read w) (λ x. f x rest))

-- no word may be left at the end
abbrev pub ending : List (List ℕ) → Result (Unit {0}) Unread
ending [] = Ok tt
ending (w ∷ ws) = Err TooManyWords

-- a borrowed word, or the reason why there is none
abbrev pub Gives : Result (Bor (List ℕ)) Unread → Result (List ℕ) Unread → Type 0
Gives r a = MatchResult r (λ w. a ≡ Ok w.now) (λ e. a ≡ Err e)
