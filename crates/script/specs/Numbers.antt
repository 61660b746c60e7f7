-- Decimal numbers of at most 64 bits. Assumes nothing.
use Rattle.std.specs.Prelude.{ℕ, ◌+◌, ◌-◌, ◌*◌, ◌^◌, cond, List, [], ◌∷◌, fold, Ok, Err, Result, nat_lt}
use Rattle.std.specs.Str.{all_ascii_digits}
use Rattle.script.specs.declared.unread.Unread.{Unread}
use Rattle.script.specs.declared.unread.Unread.TheVariants.{EmptyWord, NotANumber, NumberTooLarge, CellTooLarge, EditionTooLarge}

-- the value of digits that follow those of n, the highest first
abbrev pub value_after : ℕ → List ℕ → ℕ
value_after = fold (λ n b. n * 10 + (b - 48))

-- the number that a word of one digit or more writes, where it is below a limit; e is the reason where it is not
abbrev pub number_below : ℕ → Unread → List ℕ → Result ℕ Unread
number_below limit e [] = Err EmptyWord
number_below limit e (b ∷ bs) =
    cond (all_ascii_digits (b ∷ bs)) (cond (nat_lt (value_after 0 (b ∷ bs)) limit) (Ok (value_after 0 (b ∷ bs))) (Err e)) (Err NotANumber)

-- a number of 64 bits
abbrev pub number_of : List ℕ → Result ℕ Unread
number_of = number_below (2 ^ 64) NumberTooLarge

-- a cell of 32 bits
abbrev pub cell_of : List ℕ → Result ℕ Unread
cell_of = number_below (2 ^ 32) CellTooLarge

-- an edition of 16 bits
abbrev pub edition_of : List ℕ → Result ℕ Unread
edition_of = number_below (2 ^ 16) EditionTooLarge
