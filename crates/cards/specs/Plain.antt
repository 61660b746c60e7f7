-- The plain writer: what it keeps, how it answers each call, and what a call leaves.
use Rattle.std.specs.Prelude.{ℕ, ◌+◌, cond, List, [], ◌∷◌, ◌++◌, length, take, drop, Ok, Err, Result, ◌==◌, nat_le}
use Rattle.sealer.specs.Sealing.{Sealing}
use Rattle.cards.specs.Faults.{Fault, fault}
use Rattle.cards.specs.Format.{Sheet, header, nonce, sheet_record, end_record}
use Rattle.cards.specs.Questions.{sheet_questions, goes_on, at_record}

pub record Plain : Type 0 where
  pub key : List ℕ
  pub header : List ℕ
  pub medium : List ℕ
  pub sheets : List Sheet
  pub place : ℕ

-- what an answer leaves: the first where it accepts, the second where it refuses
abbrev pub left_by : {T E X : Type 0} → Result T E → X → X → X
left_by (Ok x) new old = new
left_by (Err f) new old = old

-- xs written over m from place p on
abbrev pub overwrite : ℕ → List ℕ → List ℕ → List ℕ
overwrite p xs m = take p m ++ (xs ++ drop (p + length xs) m)

-- how many sheets are kept, which is the number of the next record
abbrev pub count : Plain → ℕ
count w = length w.sheets

-- the nonce under which the next record is sealed
abbrev pub next_nonce : Plain → List ℕ
next_nonce w = nonce w.header (count w)

-- after an accepted start
abbrev pub started : Sealing → List ℕ → ℕ → List ℕ → Plain
started S k number m =
    let h = header S.version number in
    record { key = k; header = h; medium = h ++ drop 13 m; sheets = []; place = 13 }

abbrev pub start : Sealing → List ℕ → ℕ → List ℕ → Result Plain Fault
start S k number m =
    cond (length k == 16)
    (cond (nat_le (13 + 9 + S.width) (length m))
    (Ok (started S k number m))
    (Err (fault 9 3 0 0)))
    (Err (fault 1 1 0 0))

-- the medium that start leaves
abbrev pub start_medium : Sealing → List ℕ → ℕ → List ℕ → List ℕ
start_medium S k number m = left_by (start S k number m) (started S k number m).medium m

-- append's questions, of n sheets, a place, a body's length and a medium's length
abbrev pub append_questions : ℕ → ℕ → ℕ → ℕ → ℕ → Result ℕ Fault
append_questions r n p b m =
    goes_on (sheet_questions n b) (at_record n p)
    (cond (nat_le (p + (9 + b + r) + (9 + r)) m)
    (Ok n)
    (Err (fault 9 2 n p)))

abbrev pub append_answer : Sealing → Plain → Sheet → Result ℕ Fault
append_answer S w s = append_questions S.width (count w) w.place (length s.body) (length w.medium)

-- after an accepted append
abbrev pub appended : Sealing → Plain → Sheet → Plain
appended S w s = record {
  key = w.key;
  header = w.header;
  medium = overwrite w.place (sheet_record S w.key w.header (count w) s) w.medium;
  sheets = w.sheets ++ s ∷ [];
  place = w.place + (9 + length s.body + S.width);
}

-- the plain writer after an append, accepted or refused
abbrev pub after_append : Sealing → Plain → Sheet → Plain
after_append S w s = left_by (append_answer S w s) (appended S w s) w

abbrev pub close_questions : ℕ → ℕ → ℕ → ℕ → Result ℕ Fault
close_questions r n p m = cond (nat_le (p + (9 + r)) m) (Ok (p + (9 + r))) (Err (fault 9 3 n p))

abbrev pub close_answer : Sealing → Plain → Result ℕ Fault
close_answer S w = close_questions S.width (count w) w.place (length w.medium)

-- the medium after an accepted close
abbrev pub closed_medium : Sealing → Plain → List ℕ
closed_medium S w = overwrite w.place (end_record S w.key w.header (count w)) w.medium

-- the medium after a close, accepted or refused
abbrev pub after_close : Sealing → Plain → List ℕ
after_close S w = left_by (close_answer S w) (closed_medium S w) w.medium
