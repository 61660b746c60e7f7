-- A writer of the program, with a medium, stands for a plain writer. Assumes nothing.
use Rattle.std.specs.Prelude.{◌≡◌, ℕ, List, Ok, Err, Result}
use Rattle.cards.specs.Faults.{Fault, of_card}
use Rattle.cards.specs.Plain.{Plain, count}
use Rattle.cards.specs.declared.CardFault.{CardFault}
use Rattle.writer.specs.declared.writer.Writer.{Writer}
use Rattle.writer.specs.declared.writer.Unclosed.{Unclosed}

pub record Stands {C : Type 0} (x : Writer C) (m : List ℕ) (w : Plain) : Type 0 where
  pub key : x.key ≡ w.key
  pub header : x.header ≡ w.header
  pub medium : m ≡ w.medium
  pub counts : x.count ≡ count w
  pub place : x.place ≡ w.place

-- the answer of start: a writer that stands for the plain one, or the plain one's fault
abbrev pub Starts : {C : Type 0} → Result (Writer C) CardFault → List ℕ → Result Plain Fault → Type 0
Starts (Ok x) m (Ok w) = Stands x m w
Starts (Ok x) m (Err f) = ⊥
Starts (Err e) m (Ok w) = ⊥
Starts (Err e) m (Err f) = of_card e ≡ f

-- what close answers
abbrev pub closing : {C : Type 0} → Result ℕ (Unclosed C) → Result ℕ Fault
closing (Ok n) = Ok n
closing (Err u) = Err (of_card u.fault)

-- a refused close gives the writer back
abbrev pub Back : {C : Type 0} → Result ℕ (Unclosed C) → Writer C → Type 0
Back (Ok n) x = Unit {0}
Back (Err u) x = u.writer ≡ x
