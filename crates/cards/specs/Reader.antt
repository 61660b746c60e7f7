-- The reader: what check, count, sheet and find answer.
use Rattle.std.specs.Prelude.{◌≡◌, ℕ, if◌then◌else◌, zero, suc, ◌+◌, ◌*◌, ◌<◌, ◌≤◌, cond, ◌&&◌, List, [], ◌∷◌, ◌++◌, length, take, drop, replicate, Some, None, Ok, Err, Option, Result, ◌==◌, ◌≢◌, nat_le, nat_lt, slice_index}
use Rattle.std.specs.List.{between}
use Rattle.std.specs.Str.{bytes_eq}
use Rattle.sealer.specs.Seal.{scratch_bytes}
use Rattle.sealer.specs.Sealing.{Sealing}
use Rattle.cards.specs.Faults.{Fault, fault, and_then}
use Rattle.cards.specs.Format.{mark, nonce, Sheet, a_sheet}
use Rattle.cards.specs.Questions.{sheet_questions, goes_on, at_field}
use Rattle.cards.specs.declared.fault.RecordNo.TheVariants.{End}

-- the fields of the record at the front of the rest of a card
abbrev pub kind_of : List ℕ → ℕ
kind_of rest = slice_index rest 0

abbrev pub cell_of : List ℕ → ℕ
cell_of rest = slice_index rest 1 * 16777216 + slice_index rest 2 * 65536 + slice_index rest 3 * 256 + slice_index rest 4

abbrev pub edition_of : List ℕ → ℕ
edition_of rest = slice_index rest 5 * 256 + slice_index rest 6

abbrev pub length_of : List ℕ → ℕ
length_of rest = slice_index rest 7 * 256 + slice_index rest 8

-- its parts
abbrev pub head_of : List ℕ → List ℕ
head_of rest = take 9 rest

abbrev pub body_of : List ℕ → List ℕ
body_of rest = between 9 (9 + length_of rest) rest

abbrev pub tag_of : ℕ → List ℕ → List ℕ
tag_of r rest = between (9 + length_of rest) (9 + length_of rest + r) rest

-- a record whose questions are passed, but for its tag: cell, edition, body and tag of a sheet; the tag of the end record
pub data Record : Type 0 where
  sheet : ℕ → ℕ → List ℕ → List ℕ → Record
  last : List ℕ → Record

-- are body and tag there?
abbrev pub parse_parts : ℕ → ℕ → ℕ → List ℕ → Record → Result Record Fault
parse_parts r n p rest x = cond (nat_le (9 + length_of rest + r) (length rest)) (Ok x) (Err (fault 10 2 n (p + 9)))

abbrev pub parse_sheet : ℕ → ℕ → ℕ → List ℕ → Result Record Fault
parse_sheet r n p rest =
    goes_on (sheet_questions n (length_of rest)) (at_field n p)
    (parse_parts r n p rest (sheet (cell_of rest) (edition_of rest) (body_of rest) (tag_of r rest)))

abbrev pub parse_end : ℕ → ℕ → ℕ → List ℕ → Result Record Fault
parse_end r n p rest =
    cond (cell_of rest == n && (edition_of rest == 0 && length_of rest == 0))
    (parse_parts r n p rest (last (tag_of r rest)))
    (Err (at_field n p End))

-- record n, which begins at place p, under a tag of r bytes
abbrev pub parse : ℕ → ℕ → ℕ → List ℕ → Result Record Fault
parse r n p rest =
    cond (nat_lt (length rest) 9) (Err (fault 10 2 n p))
    (cond (kind_of rest == 1) (parse_sheet r n p rest)
    (cond (kind_of rest == 2) (parse_end r n p rest)
    (Err (fault 13 2 n p))))

-- does the tag agree?
abbrev pub unseal : {X : Type 0} → Option (List ℕ) → (List ℕ → X) → Fault → Result X Fault
unseal (Some m) f x = Ok (f m)
unseal None f x = Err x

-- record n opened: a sheet, or none for the end record
abbrev pub opened : Sealing → List ℕ → List ℕ → ℕ → ℕ → List ℕ → Record → Result (Option Sheet) Fault
opened S key h n p hd (sheet c e b t) = unseal (S.opens key (nonce h n) (h ++ hd) b t) (λ m. Some (a_sheet c e m)) (fault 6 1 n (p + 9 + length b))
opened S key h n p hd (last t) = unseal (S.opens key (nonce h n) (h ++ hd) [] t) (λ m. None) (fault 6 1 n (p + 9))

abbrev pub read_record : Sealing → List ℕ → List ℕ → ℕ → ℕ → List ℕ → Result (Option Sheet) Fault
read_record S key h n p rest = and_then (parse S.width n p rest) (opened S key h n p (head_of rest))

-- what comes after record n: after a sheet `next` goes on, so many bytes further; after the end record no byte may be left
abbrev pub follow : ℕ → ℕ → ℕ → List ℕ → (ℕ → Result (List Sheet) Fault) → Option Sheet → Result (List Sheet) Fault
follow r n p rest next (Some s) = and_then (next (9 + length_of rest + r)) (λ xs. Ok (s ∷ xs))
follow r n p rest next None = cond (length rest == 9 + r) (Ok []) (Err (fault 15 3 n (p + (9 + r))))

-- record by record: `left` more sheets may come, n is the number of the record at the front and p its place. Where none may come, parse has refused a sheet.
unfoldable pub walk : Sealing → List ℕ → List ℕ → ℕ → ℕ → ℕ → List ℕ → Result (List Sheet) Fault
walk S key h zero n p rest = and_then (read_record S key h n p rest) (follow S.width n p rest (λ _. Err (fault 8 2 n p)))
walk S key h (suc left) n p rest =
    and_then (read_record S key h n p rest) (follow S.width n p rest (λ k. walk S key h left (suc n) (p + k) (drop k rest)))

-- how many sheets the walk gives, after n before it
abbrev pub how_many : ℕ → Result (List Sheet) Fault → Result ℕ Fault
how_many n o = and_then o (λ xs. Ok (n + length xs))

abbrev pub version_of : List ℕ → ℕ
version_of bs = slice_index bs 3 * 256 + slice_index bs 4

-- check's questions on the card's bytes
abbrev pub check_bytes : Sealing → List ℕ → List ℕ → Result (List Sheet) Fault
check_bytes S key bs =
    cond (nat_le 13 (length bs))
    (cond (bytes_eq (take 3 bs) mark)
    (cond (version_of bs == S.version)
    (walk S key (take 13 bs) 512 0 13 (drop 13 bs))
    (Err (fault 12 3 0 3)))
    (Err (fault 11 3 0 0)))
    (Err (fault 10 3 0 0))

-- a card that check filled
pub record Card : Type 0 where
  pub bytes : List ℕ
  pub key : List ℕ
  pub version : ℕ
  pub width : ℕ
  pub count : ℕ

abbrev pub checked : Sealing → List ℕ → List ℕ → List Sheet → Card
checked S k bs xs = record { bytes = bs; key = k; version = S.version; width = S.width; count = length xs }

-- all questions of check, with a scratch of so many bytes
abbrev pub check : Sealing → List ℕ → ℕ → List ℕ → Result Card Fault
check S key scratch bs =
    cond (length key == 16)
    (cond (nat_le scratch_bytes scratch)
    (and_then (check_bytes S key bs) (λ xs. Ok (checked S key bs xs)))
    (Err (fault 4 1 0 0)))
    (Err (fault 1 1 0 0))

-- the empty card
abbrev pub empty : Card
empty = record { bytes = []; key = replicate 16 0; version = 0; width = 0; count = 0 }

-- the card that check leaves
abbrev pub filled : Result Card Fault → Card
filled (Ok c) = c
filled (Err f) = empty

-- the scratch with the bytes that check asks for zero
unfoldable pub wiped : List ℕ → List ℕ
wiped s = replicate scratch_bytes 0 ++ drop scratch_bytes s

-- the scratch that check leaves: it is touched only past questions 1 and 4
abbrev pub scratch_after : List ℕ → List ℕ → List ℕ
scratch_after key s = cond (length key == 16) (cond (nat_le scratch_bytes (length s)) (wiped s) s) s

-- where record i begins
abbrev pub place_of : ℕ → List ℕ → ℕ → ℕ
place_of r bs zero = 13
place_of r bs (suc i) = let p = place_of r bs i in p + (9 + length_of (drop p bs) + r)

-- record i, where the rest of the card begins with it at place p, into a buffer of so many bytes
abbrev pub sheet_at : Sealing → List ℕ → List ℕ → ℕ → ℕ → List ℕ → ℕ → Result Sheet Fault
sheet_at S key h i p rest buffer =
    cond (nat_le (length_of rest) buffer)
    (unseal (S.opens key (nonce h i) (h ++ head_of rest) (body_of rest) (tag_of S.width rest)) (λ m. a_sheet (cell_of rest) (edition_of rest) m) (fault 6 1 i (p + 9)))
    (Err (fault 4 1 i (p + 9)))

-- a body, or n zeros
abbrev pub body_or_zeros : Option (List ℕ) → ℕ → List ℕ
body_or_zeros (Some m) n = m
body_or_zeros None n = replicate n 0

-- sheet i opened, where the buffer has so many bytes: the sheet, or the first no
abbrev pub sheet_opened : Sealing → Card → ℕ → ℕ → Result Sheet Fault
sheet_opened S c i buffer =
    let p = place_of c.width c.bytes i in
    cond (c.version == S.version && c.width == S.width)
    (cond (nat_lt i c.count)
    (sheet_at S c.key (take 13 c.bytes) i p (drop p c.bytes) buffer)
    (Err (fault 16 3 i 0)))
    (Err (fault 12 3 i 0))

-- what sheet answers of a sheet: its cell, its edition, and how many bytes its body has
pub record Heading : Type 0 where
  pub cell : ℕ
  pub edition : ℕ
  pub size : ℕ

abbrev pub heading : Sheet → Heading
heading s = record { cell = s.cell; edition = s.edition; size = length s.body }

-- what sheet answers, and what the buffer then holds
pub record Drawn : Type 0 where
  pub answer : Result Heading Fault
  pub buffer : List ℕ

-- an opened sheet goes to the front of the buffer; where the tag disagrees zeros go there, as many as the body has bytes, which are n; after any other no the buffer stays
abbrev pub drawn : Result Sheet Fault → ℕ → List ℕ → Drawn
drawn (Ok s) n b = record { answer = Ok (heading s); buffer = s.body ++ drop (length s.body) b }
drawn (Err f) n b = record { answer = Err f; buffer = if f.number == 6 then replicate n 0 ++ drop n b else b }

-- how many bytes the body of sheet i has
abbrev pub size_of : Card → ℕ → ℕ
size_of c i = length_of (drop (place_of c.width c.bytes i) c.bytes)

-- sheet i of a card, drawn into a buffer
abbrev pub sheet_drawn : Sealing → Card → ℕ → List ℕ → Drawn
sheet_drawn S c i b = drawn (sheet_opened S c i (length b)) (size_of c i) b

-- cell and edition of sheet i
abbrev pub cell_at : Card → ℕ → ℕ
cell_at c i = cell_of (drop (place_of c.width c.bytes i) c.bytes)

abbrev pub edition_at : Card → ℕ → ℕ
edition_at c i = edition_of (drop (place_of c.width c.bytes i) c.bytes)

-- of the first n, sheet i has the cell and the highest edition, and is the first among equals
pub record Latest (n : ℕ) (cells editions : ℕ → ℕ) (cell i : ℕ) : Type 0 where
  pub within : i < n
  pub same : cells i ≡ cell
  pub highest : (k : ℕ) → k < n → cells k ≡ cell → editions k ≤ editions i
  pub first : (k : ℕ) → k < i → cells k ≡ cell → editions k < editions i

-- the answer of find among the first n
abbrev pub Found : ℕ → (ℕ → ℕ) → (ℕ → ℕ) → ℕ → Option ℕ → Type 0
Found n cells editions cell (Some i) = Latest n cells editions cell i
Found n cells editions cell None = (k : ℕ) → k < n → cells k ≢ cell

-- the answer of find on a card
abbrev pub Finds : Card → ℕ → Option ℕ → Type 0
Finds c cell o = Found c.count (cell_at c) (edition_at c) cell o
