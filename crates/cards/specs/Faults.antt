-- What a fault says: its number, its layer, the record and the place. Assumes nothing.
use Rattle.std.specs.Prelude.{ℕ, List, ◌++◌, Ok, Err, codes, decimal, Result}
use Rattle.sealer.specs.Fault.{fault_number, fault_layer}
use Rattle.sealer.specs.declared.SealFault.{SealFault}
use Rattle.cards.specs.declared.fault.At.{At}
use Rattle.cards.specs.declared.fault.RecordNo.{RecordNo}
use Rattle.cards.specs.declared.fault.RecordNo.TheVariants as r
use Rattle.cards.specs.declared.fault.RecordFault.{RecordFault}
use Rattle.cards.specs.declared.fault.RecordFault.TheVariants as rf
use Rattle.cards.specs.declared.fault.CardNo.{CardNo}
use Rattle.cards.specs.declared.fault.CardNo.TheVariants as c
use Rattle.cards.specs.declared.fault.CardFault.{CardFault}
use Rattle.cards.specs.declared.fault.CardFault.TheVariants as cf

pub record Fault : Type 0 where
  pub number : ℕ
  pub layer : ℕ
  pub record_no : ℕ
  pub place : ℕ

abbrev pub fault : ℕ → ℕ → ℕ → ℕ → Fault
fault n y i p = record { number = n; layer = y; record_no = i; place = p }

-- the number of the question that got a no, in a record and in a card
abbrev pub record_number : RecordNo → ℕ
record_number r.BodyLong = 7
record_number r.SheetsFull = 8
record_number r.MediumShort = 9
record_number r.Cut = 10
record_number r.Kind = 13
record_number r.End = 14

abbrev pub card_number : CardNo → ℕ
card_number c.MediumShort = 9
card_number c.Cut = 10
card_number c.Mark = 11
card_number c.Version = 12
card_number c.Left = 15
card_number c.Number = 16

-- a fault, at a record and a place
abbrev pub at : {E : Type 0} → E → ℕ → ℕ → At E
at f i p = record { fault = f; «record» = i; place = p }

-- what each layer's fault says; each holds the one below whole
abbrev pub of_sealed : At SealFault → Fault
of_sealed f = fault (fault_number f.fault) (fault_layer f.fault) f.«record» f.place

abbrev pub of_record : RecordFault → Fault
of_record (rf.Seal f) = of_sealed f
of_record (rf.Own f) = fault (record_number f.fault) 2 f.«record» f.place

abbrev pub of_card : CardFault → Fault
of_card (cf.Record f) = of_record f
of_card (cf.Own f) = fault (card_number f.fault) 3 f.«record» f.place

-- what an answer says, of each layer
abbrev pub told : {X : Type 0} → Result X CardFault → Result X Fault
told (Ok x) = Ok x
told (Err f) = Err (of_card f)

abbrev pub recorded : {X : Type 0} → Result X RecordFault → Result X Fault
recorded (Ok x) = Ok x
recorded (Err f) = Err (of_record f)

abbrev pub passed : {X : Type 0} → Result X (At SealFault) → Result X Fault
passed (Ok x) = Ok x
passed (Err f) = Err (of_sealed f)

-- the first no ends a call
abbrev pub and_then : {X Y E : Type 0} → Result X E → (X → Result Y E) → Result Y E
and_then (Ok x) f = f x
and_then (Err e) f = Err e

-- how a fault is printed
abbrev pub refused_text : Fault → List ℕ
refused_text f =
    codes "refused " ++ (decimal f.number ++ (codes " layer " ++ (decimal f.layer ++ (codes " record " ++ (decimal f.record_no ++ (codes " place " ++ decimal f.place))))))
