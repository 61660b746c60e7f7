-- What a script prints: what its lines print, one after the other. Assumes nothing.
use Rattle.std.specs.Prelude.{◌≡◌, ℕ, cond, List, [], ◌∷◌, ◌++◌, Option, ◌==◌}
use Rattle.card_calls.specs.Writings.{Draft}
use Rattle.workbench.specs.Printed.{Turn, MayTurn}

-- a byte onto the first line
abbrev pub onto_first : ℕ → List (List ℕ) → List (List ℕ)
onto_first b [] = (b ∷ []) ∷ []
onto_first b (line ∷ lines) = (b ∷ line) ∷ lines

-- the lines of a script, without their line feeds: after the last line feed there is one more line if there are bytes
abbrev pub lines_of : List ℕ → List (List ℕ)
lines_of [] = []
lines_of (b ∷ bs) = cond (b == 10) ([] ∷ lines_of bs) (onto_first b (lines_of bs))

-- what lines may print, where this card is being written before them: each what it may, with the card that the line before it left
abbrev pub MayPrintAll : Option Draft → List (List ℕ) → List ℕ → Type 0
MayPrintAll o [] text = text ≡ []
MayPrintAll o (line ∷ lines) text = (t : Turn) × (rest : List ℕ) × MayTurn o line t × MayPrintAll t.card lines rest × (text ≡ t.text ++ rest)
