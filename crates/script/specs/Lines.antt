-- What a line is before its words are read. Assumes nothing.
use Rattle.std.specs.Prelude.{ℕ, Bool, true, cond, List, [], ◌∷◌, ◌==◌}

-- a line without one carriage return at its end
abbrev pub trimmed : List ℕ → List ℕ
trimmed [] = []
trimmed (b ∷ []) = cond (b == 13) [] (b ∷ [])
trimmed (b ∷ c ∷ bs) = b ∷ trimmed (c ∷ bs)

-- an empty line, or one that begins with #, prints nothing
abbrev pub silent : List ℕ → Bool
silent [] = true
silent (b ∷ bs) = b == 35
