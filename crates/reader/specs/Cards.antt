-- A card of the program, as the definitions see it. Assumes nothing.
use Rattle.std.specs.Prelude.{Ok, Err, Result}
use Rattle.cards.specs.Faults.{Fault}
use Rattle.cards.specs.Reader.{Card}
use Rattle.reader.specs.declared.card.Card as code

-- what a card holds
abbrev pub shown : code.Card → Card
shown c = record { bytes = c.bytes.now; key = c.key; version = c.version; width = c.width; count = c.count }

-- an answer of check with the card left out
abbrev pub passes : Result Card Fault → Result (Unit {0}) Fault
passes (Ok c) = Ok tt
passes (Err f) = Err f
