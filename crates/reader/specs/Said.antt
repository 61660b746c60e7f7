-- What the program's answers say. Assumes nothing.
use Rattle.std.specs.Prelude.{ℕ, ◌+◌, cond, ◌&&◌, List, [], ◌++◌, length, drop, Ok, Err, Option, Result, ◌==◌, nat_le, nat_lt}
use Rattle.sealer.specs.Sealing.{Sealing}
use Rattle.cards.specs.Faults.{Fault, fault, and_then, of_record}
use Rattle.cards.specs.Questions.{sheet_questions, goes_on, at_field}
use Rattle.cards.specs.Reader.{Record, sheet, last, parse, opened, head_of, cell_of, edition_of, length_of, unseal, body_or_zeros}
use Rattle.cards.specs.declared.RecordFault.{RecordFault}
use Rattle.cards.specs.declared.RecordNo.TheVariants as no
use Rattle.cards.specs.declared.Kind.{Kind}
use Rattle.cards.specs.declared.Kind.TheVariants.{Sheet, End}
use Rattle.reader.specs.declared.rest.Record as code
use Rattle.reader.specs.declared.rest.Record.TheVariants as part

-- a record of the program, as the reader's
abbrev pub of_part : code.Record → Record
of_part (part.Sheet c e b t) = sheet c e b.now t.now
of_part (part.End t) = last t.now

-- what of a record is sealed: its body, which an end has not, and its tag
abbrev pub sealed_body : Record → List ℕ
sealed_body (sheet c e b t) = b
sealed_body (last t) = []

abbrev pub sealed_tag : Record → List ℕ
sealed_tag (sheet c e b t) = t
sealed_tag (last t) = t

-- what an answer of the record layer says
abbrev pub said : Result code.Record RecordFault → Result Record Fault
said (Ok x) = Ok (of_part x)
said (Err f) = Err (of_record f)

-- the questions on the head of record n at place p, of each kind
abbrev pub asked : Kind → ℕ → ℕ → List ℕ → Result (Unit {0}) Fault
asked Sheet n p rest = goes_on (sheet_questions n (length_of rest)) (at_field n p) (Ok tt)
asked End n p rest = cond (cell_of rest == n && (edition_of rest == 0 && length_of rest == 0)) (Ok tt) (Err (at_field n p no.End))

-- the answer to opening record n, of a body of b bytes, into a buffer of o bytes: is it long enough? does the tag agree?
abbrev pub open_answer : Option (List ℕ) → ℕ → ℕ → ℕ → ℕ → Result (Unit {0}) Fault
open_answer m b o n place = cond (nat_le b o) (unseal m (λ _. tt) (fault 6 1 n place)) (Err (fault 4 1 n place))

-- what the buffer then holds
abbrev pub open_output : Option (List ℕ) → ℕ → List ℕ → List ℕ
open_output m b o = cond (nat_le b (length o)) (body_or_zeros m b ++ drop b o) o

-- the record at the front, its tag tried
abbrev pub tried : Sealing → List ℕ → List ℕ → ℕ → ℕ → List ℕ → Result Record Fault
tried S key h n p rest = and_then (parse S.width n p rest) (λ x. and_then (opened S key h n p (head_of rest) x) (λ _. Ok x))
