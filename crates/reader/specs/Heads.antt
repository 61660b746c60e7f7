-- What the head of a record says, as the program answers it. Assumes nothing.
use Rattle.std.specs.Prelude.{◌≡◌, ℕ, List, length, Ok, Err, Result}
use Rattle.cards.specs.Faults.{Fault}
use Rattle.cards.specs.Format.{Sheet}
use Rattle.cards.specs.Reader.{Heading, cell_of, edition_of, length_of}
use Rattle.reader.specs.declared.rest.SheetHead.{SheetHead}

-- a head of these fields
abbrev pub a_head : ℕ → ℕ → ℕ → SheetHead
a_head c e l = record { cell = c; edition = e; «length» = l }

-- the fields of the record at the front of the rest of a card
abbrev pub fields : List ℕ → SheetHead
fields rest = a_head (cell_of rest) (edition_of rest) (length_of rest)

-- what sheet answers, as the program has it
abbrev pub headed : Result Heading Fault → Result SheetHead Fault
headed (Ok h) = Ok (a_head h.cell h.edition h.size)
headed (Err f) = Err f

-- an opened sheet with the length of its body in place of the body
abbrev pub titled : Result Sheet Fault → Result SheetHead Fault
titled (Ok s) = Ok (a_head s.cell s.edition (length s.body))
titled (Err f) = Err f

-- the tag was not what the answer refuses
abbrev pub NoMismatch : {X : Type 0} → Result X Fault → Type 0
NoMismatch (Ok x) = Unit {0}
NoMismatch (Err f) = f.number ≡ 6 → ⊥
