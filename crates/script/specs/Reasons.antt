-- The reasons for an unread line, as they are printed. Assumes nothing.
use Rattle.std.specs.Prelude.{◌≡◌, ℕ, ◌⊎◌, List, ◌++◌, Ok, Err, codes, decimal, Result, MatchResult}
use Rattle.script.specs.Names.{name_text}
use Rattle.script.specs.declared.unread.Unread.{Unread}
use Rattle.script.specs.declared.unread.Unread.TheVariants.{UnknownCall, UnknownPermutation, UnknownVersion, TooFewWords, TooManyWords, EmptyWord, OddDigits, WrongDigit, NotANumber, NumberTooLarge, CellTooLarge, EditionTooLarge, NotOneByte, StateLength, NoCard, CardOpen, Memory}

-- a short phrase for each reason
abbrev pub reason : Unread → List ℕ
reason UnknownCall = codes "unknown call"
reason UnknownPermutation = codes "unknown permutation"
reason UnknownVersion = codes "unknown version"
reason TooFewWords = codes "too few words"
reason TooManyWords = codes "too many words"
reason EmptyWord = codes "words are separated by one space"
reason OddDigits = codes "odd number of digits"
reason WrongDigit = codes "not a hexadecimal digit"
reason NotANumber = codes "not a decimal number"
reason NumberTooLarge = codes "a number of more than 64 bits"
reason CellTooLarge = codes "a number of more than 32 bits"
reason EditionTooLarge = codes "a number of more than 16 bits"
reason NotOneByte = codes "not one byte"
reason (StateLength name expected found) =
    codes "a state of " ++ (name_text name ++ (codes " has " ++ (decimal expected ++ (codes " bytes, not " ++ decimal found))))
reason NoCard = codes "no card is being written"
reason CardOpen = codes "a card is being written"
reason Memory = codes "out of memory"

-- what was read, as view sees it in memory; the reason may also be want of memory
abbrev pub Holds : {V A : Type 0} → (V → A) → Result V Unread → Result A Unread → Type 0
Holds view r a = MatchResult r (λ v. a ≡ Ok (view v)) (λ e. (a ≡ Err e) ⊎ (e ≡ Memory))
