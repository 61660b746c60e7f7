-- What a reader has lost and a writer holds after calls that may fail, where their bytes are known. Assumes nothing.
use Rattle.std.specs.Prelude.{◌≡◌, ℕ, ◌≤◌, List, take, drop, Some, IfSome, Ok, Err, Option, Result}
use Rattle.std.specs.Io.KnownBytes.{Appends}

-- bs are the first k of the known bytes, or all where there are fewer, and these are gone
abbrev pub ReadsFront : ℕ → Option (List ℕ) → Option (List ℕ) → List ℕ → Type 0
ReadsFront k old new bs = IfSome old (λ xs. (bs ≡ take k xs) × (new ≡ Some (drop k xs)))

-- known bytes lose a front of at most k bytes
abbrev pub LosesFront : ℕ → Option (List ℕ) → Option (List ℕ) → Type 0
LosesFront k old new = IfSome old (λ xs. (n : ℕ) × (n ≤ k) × (new ≡ Some (drop n xs)))

-- known bytes grow by a front of the text
abbrev pub AppendsFront : Option (List ℕ) → Option (List ℕ) → List ℕ → Type 0
AppendsFront old new text = (n : ℕ) × Appends old new (take n text)

-- the text was written, or, where that failed, a front of it
abbrev pub Writes : {E : Type 0} → Result (Unit {0}) E → Option (List ℕ) → Option (List ℕ) → List ℕ → Type 0
Writes (Ok _) old new text = Appends old new text
Writes (Err _) old new text = AppendsFront old new text
