-- Whole runs of the plain writer.
use Rattle.std.specs.Prelude.{ℕ, List, [], ◌∷◌, Some, None, Ok, Err, Option, Result, ◌≢◌}
use Rattle.sealer.specs.Sealing.{Sealing}
use Rattle.cards.specs.Faults.{Fault}
use Rattle.cards.specs.Format.{Sheet}
use Rattle.cards.specs.Plain.{Plain, next_nonce, append_answer, appended, close_answer, closed_medium, left_by}

-- a call, its medium left out
pub data Call : Type 0 where
  append : Sheet → Call
  close : Call

-- what a run of calls comes to: the answers, the nonces that were sealed under, the medium, the length of the card if it was closed, and the plain writer that is left if it was not
pub record Run : Type 0 where
  pub answers : List (Result ℕ Fault)
  pub nonces : List (List ℕ)
  pub medium : List ℕ
  pub closed : Option ℕ
  pub left : Option Plain

-- an answer, and a nonce if it accepts, before the rest of a run
abbrev pub answered : Result ℕ Fault → List ℕ → Run → Run
answered a n x = record { answers = a ∷ x.answers; nonces = left_by a (n ∷ x.nonces) x.nonces; medium = x.medium; closed = x.closed; left = x.left }

abbrev pub ended : Plain → Run
ended w = record { answers = []; nonces = []; medium = w.medium; closed = None; left = Some w }

-- an accepted close comes last
abbrev pub closing : Sealing → Plain → Result ℕ Fault → Run → Run
closing S w (Ok n) rest = record { answers = Ok n ∷ []; nonces = next_nonce w ∷ []; medium = closed_medium S w; closed = Some n; left = None }
closing S w (Err f) rest = answered (Err f) (next_nonce w) rest

abbrev pub run : Sealing → Plain → List Call → Run
run S w [] = ended w
run S w (append s ∷ cs) = answered (append_answer S w s) (next_nonce w) (run S (left_by (append_answer S w s) (appended S w s) w) cs)
run S w (close ∷ cs) = closing S w (close_answer S w) (run S w cs)

-- the sheets whose append was accepted, in order
abbrev pub accepted : List Call → List (Result ℕ Fault) → List Sheet
accepted [] as' = []
accepted (c ∷ cs) [] = []
accepted (append s ∷ cs) (a ∷ as') = left_by a (s ∷ accepted cs as') (accepted cs as')
accepted (close ∷ cs) (a ∷ as') = accepted cs as'

-- no two of a list are equal
abbrev pub Apart : {X : Type 0} → X → List X → Type 0
Apart x [] = Unit {0}
Apart x (y ∷ ys) = (x ≢ y) × Apart x ys

abbrev pub Distinct : {X : Type 0} → List X → Type 0
Distinct [] = Unit {0}
Distinct (x ∷ xs) = Apart x xs × Distinct xs
