-- The questions on a sheet, which writer, reader and claims share. Assumes nothing.
use Rattle.std.specs.Prelude.{◌≡◌, ℕ, suc, ◌+◌, if◌then◌else◌, List, [], ◌∷◌, length, Ok, Err, Result, nat_le, nat_lt}
use Rattle.cards.specs.Faults.{Fault, fault, record_number}
use Rattle.cards.specs.Format.{Sheet}
use Rattle.cards.specs.declared.fault.RecordNo.{RecordNo}
use Rattle.cards.specs.declared.fault.RecordNo.TheVariants.{BodyLong, SheetsFull, MediumShort, Cut, Kind, End}

-- the most sheets of a card, and the most bytes of a body
abbrev pub most_sheets : ℕ
most_sheets = 512

abbrev pub most_body : ℕ
most_body = 4096

-- the questions on a sheet with n before it and a body of b bytes, in their order
abbrev pub sheet_questions : ℕ → ℕ → Result (Unit {0}) RecordNo
sheet_questions n b = if nat_lt n most_sheets then (if nat_le b most_body then Ok tt else Err BodyLong) else Err SheetsFull

-- a no ends a call with a fault; else the call goes on
abbrev pub goes_on : {X : Type 0} → Result (Unit {0}) RecordNo → (RecordNo → Fault) → Result X Fault → Result X Fault
goes_on (Ok _) f x = x
goes_on (Err refusal) f x = Err (f refusal)

-- where in a record the field begins that a no is about
abbrev pub field_place : RecordNo → ℕ
field_place BodyLong = 7
field_place SheetsFull = 0
field_place MediumShort = 0
field_place Cut = 0
field_place Kind = 0
field_place End = 1

-- a no about record n, which begins at place p: told at the record, and at the field
abbrev pub at_record : ℕ → ℕ → RecordNo → Fault
at_record n p refusal = fault (record_number refusal) 2 n p

abbrev pub at_field : ℕ → ℕ → RecordNo → Fault
at_field n p refusal = fault (record_number refusal) 2 n (p + field_place refusal)

-- sheets of which each passes the questions, the first of them being sheet n
abbrev pub PassQuestions : ℕ → List Sheet → Type 0
PassQuestions n [] = Unit {0}
PassQuestions n (s ∷ xs) = (sheet_questions n (length s.body) ≡ Ok tt) × PassQuestions (suc n) xs
