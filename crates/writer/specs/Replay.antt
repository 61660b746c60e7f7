-- A run of calls of the program, as the plain writer sees it. Assumes nothing.
use Rattle.std.specs.Prelude.{◌≡◌, ℕ, List, map, take, drop, Some, None, Option, Result}
use Rattle.cards.specs.Faults.{Fault, told}
use Rattle.cards.specs.Format.{a_sheet}
use Rattle.cards.specs.Plain.{Plain}
use Rattle.cards.specs.Runs.{Run}
use Rattle.cards.specs.Runs as plain
use Rattle.cards.specs.declared.CardFault.{CardFault}
use Rattle.writer.specs.Stands.{Stands}
use Rattle.writer.specs.declared.runs.Call.{Call}
use Rattle.writer.specs.declared.runs.Call.TheVariants.{Append, Close}
use Rattle.writer.specs.declared.writer.Writer.{Writer}

-- a call without its medium
abbrev pub plain_call : Call → plain.Call
plain_call (Append c e b) = plain.append (a_sheet c e b.now)
plain_call Close = plain.close

-- what a replay of n calls leaves: their answers in the first n slots, the others as they were, and the run's medium
pub record Ran (n : ℕ) (before after : List (Result ℕ CardFault)) (medium : List ℕ) (x : Run) : Type 0 where
  pub answers : map told (take n after) ≡ x.answers
  pub others : drop n after ≡ drop n before
  pub medium_is : medium ≡ x.medium

-- the writer that is given back, where the plain one is left: it stands for it
abbrev pub GivenBack : {C : Type 0} → Option (Writer C) → List ℕ → Option Plain → Type 0
GivenBack (Some x) m (Some w) = Stands x m w
GivenBack (Some x) m None = ⊥
GivenBack None m (Some w) = ⊥
GivenBack None m None = Unit {0}

-- the first n calls, without their media, and what their slots say
abbrev pub made_calls : ℕ → List Call → List plain.Call
made_calls n calls = map plain_call (take n calls)

abbrev pub made_answers : ℕ → List (Result ℕ CardFault) → List (Result ℕ Fault)
made_answers n answers = map told (take n answers)
