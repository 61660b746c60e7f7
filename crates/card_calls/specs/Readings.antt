-- What the calls of the reader read and print. Assumes nothing.
use Rattle.std.specs.Prelude.{◌≡◌, ℕ, zero, suc, Bool, cond, ◌&&◌, List, [], ◌∷◌, ◌++◌, length, take, drop, replicate, Some, None, Ok, Err, vec_items, codes, decimal, Option, Result, ◌==◌, nat_le, nat_lt}
use Rattle.std.specs.List.{list_all}
use Rattle.sealer.specs.Seal.{scratch_bytes}
use Rattle.sealer.specs.Sealing.{Sealing}
use Rattle.cards.specs.Faults.{Fault, and_then, refused_text, told}
use Rattle.cards.specs.Reader.{Card, check, scratch_after, sheet_drawn, cell_at, edition_at, Finds}
use Rattle.reader.specs.Heads.{headed}
use Rattle.reader.specs.declared.SheetHead.{SheetHead}
use Rattle.script.specs.Hex.{bytes_of, hex_text}
use Rattle.script.specs.Numbers.{number_of, cell_of}
use Rattle.script.specs.Words.{with_read, with_next, ending}
use Rattle.script.specs.declared.ReaderCall.{ReaderCall}
use Rattle.script.specs.declared.ReaderCall.TheVariants as c
use Rattle.script.specs.declared.Unread.{Unread}
use Rattle.card_calls.specs.Versions.{sealer_named}
use Rattle.sealers.specs.Names.{cipher_of}
use Rattle.card_calls.specs.declared.reading.CheckRun.{CheckRun}
use Rattle.card_calls.specs.declared.reading.SheetRun.{SheetRun}

-- a buffer of n bytes before a call
abbrev pub fresh : ℕ → List ℕ
fresh n = replicate n 0xA5

-- a refusal, as a line
abbrev pub refused_line : Fault → List ℕ
refused_line f = refused_text f ++ (10 ∷ [])

-- whether all bytes are v
abbrev pub all_are : ℕ → List ℕ → Bool
all_are v = list_all (λ b. b == v)

-- whether the bytes that test and check ask for are zero, and the rest as a buffer is before a call
unfoldable pub is_wiped : List ℕ → Bool
is_wiped s = nat_le scratch_bytes (length s) && (all_are 0 (take scratch_bytes s) && all_are 0xA5 (drop scratch_bytes s))

-- what is said of a scratch after test or check
abbrev pub scratch_word : List ℕ → List ℕ
scratch_word s = cond (is_wiped s) (codes "zero") (cond (all_are 0xA5 s) (codes "kept") (codes "other"))

-- check's answer, with the number of sheets in place of the card, and its scratch
pub record Checked : Type 0 where
  pub answer : Result ℕ Fault
  pub scratch : List ℕ

-- the same in memory
abbrev pub check_in : CheckRun → Checked
check_in x = record { answer = told x.answer; scratch = vec_items x.scratch }

-- how many sheets a card has, or why it is refused
abbrev pub counted : Result Card Fault → Result ℕ Fault
counted o = and_then o (λ c. Ok c.count)

-- check with a scratch of this length
abbrev pub check_with : Sealing → List ℕ → List ℕ → ℕ → Checked
check_with S key bs room = record { answer = counted (check S key (length (fresh room)) bs); scratch = scratch_after key (fresh room) }

-- checked COUNT, or the refusal
abbrev pub count_line : Result ℕ Fault → List ℕ
count_line (Ok n) = codes "checked " ++ (decimal n ++ (10 ∷ []))
count_line (Err f) = refused_line f

-- the same, and what is said of the scratch
unfoldable pub check_text : Checked → List ℕ
check_text x = count_line x.answer ++ (codes "scratch " ++ (scratch_word x.scratch ++ (10 ∷ [])))

-- what is printed of a check with a scratch of this length
unfoldable pub check_said : Sealing → List ℕ → List ℕ → ℕ → List ℕ
check_said S key bs room = check_text (check_with S key bs room)

-- sheet's answer, or check's where that refuses, and the buffer
pub record Shown : Type 0 where
  pub number : ℕ
  pub answer : Result SheetHead Fault
  pub buffer : List ℕ

-- the same in memory
abbrev pub sheet_in : SheetRun → Shown
sheet_in x = record { number = x.number; answer = told x.answer; buffer = vec_items x.buffer }

-- a card that check refuses is not read
abbrev pub read_answer : Sealing → Result Card Fault → ℕ → List ℕ → Result SheetHead Fault
read_answer S (Ok c) i b = headed (sheet_drawn S c i b).answer
read_answer S (Err f) i b = Err f

-- its buffer after that: a card that check refuses leaves it as it was
abbrev pub read_buffer : Sealing → Result Card Fault → ℕ → List ℕ → List ℕ
read_buffer S (Ok c) i b = (sheet_drawn S c i b).buffer
read_buffer S (Err f) i b = b

-- sheet i with a buffer of this length
abbrev pub sheet_with : Sealing → List ℕ → ℕ → ℕ → List ℕ → Shown
sheet_with S key i room bs = record { number = i; answer = read_answer S (check S key scratch_bytes bs) i (fresh room); buffer = read_buffer S (check S key scratch_bytes bs) i (fresh room) }

-- sheet I cell C edition E length L body BYTES: the body is at the front of the buffer
abbrev pub head_line : ℕ → List ℕ → SheetHead → List ℕ
head_line i buffer h =
    codes "sheet " ++ (decimal i ++ (codes " cell " ++ (decimal h.cell ++ (codes " edition " ++ (decimal h.edition ++ (codes " length " ++ (decimal h.«length» ++ (codes " body " ++ (hex_text (take h.«length» buffer) ++ (10 ∷ []))))))))))

-- the same, or the refusal
abbrev pub sheet_line : ℕ → List ℕ → Result SheetHead Fault → List ℕ
sheet_line i buffer (Ok h) = head_line i buffer h
sheet_line i buffer (Err f) = refused_line f

-- the same, and the buffer whole
unfoldable pub sheet_text : Shown → List ℕ
sheet_text x = sheet_line x.number x.buffer x.answer ++ (codes "buffer " ++ (hex_text x.buffer ++ (10 ∷ [])))

-- what is printed of sheet i with a buffer of this length
unfoldable pub sheet_said : Sealing → List ℕ → ℕ → ℕ → List ℕ → List ℕ
sheet_said S key i room bs = sheet_text (sheet_with S key i room bs)

-- the better of the sheet found so far and sheet i
abbrev pub better : Card → ℕ → Option ℕ → ℕ → Option ℕ
better c cell None i = cond (cell_at c i == cell) (Some i) None
better c cell (Some k) i = cond (cell_at c i == cell && nat_lt (edition_at c k) (edition_at c i)) (Some i) (Some k)

-- what find answers of the first n sheets
abbrev pub found_in : Card → ℕ → ℕ → Option ℕ
found_in c cell zero = None
found_in c cell (suc n) = better c cell (found_in c cell n) n

-- over all sheets find's contract allows found_in, and no other answer
abbrev pub FoundAlone : Type 0
FoundAlone = (c : Card) (cell : ℕ) → Finds c cell (found_in c cell c.count) × ((o : Option ℕ) → Finds c cell o → o ≡ found_in c cell c.count)

-- find's answer, or check's where that refuses
unfoldable pub find_with : Sealing → List ℕ → ℕ → List ℕ → Result (Option ℕ) Fault
find_with S key cell bs = and_then (check S key scratch_bytes bs) (λ c. Ok (found_in c cell c.count))

-- found I, none, or the refusal
unfoldable pub find_text : Result (Option ℕ) Fault → List ℕ
find_text (Ok (Some i)) = codes "found " ++ (decimal i ++ (10 ∷ []))
find_text (Ok None) = codes "none" ++ (10 ∷ [])
find_text (Err f) = refused_line f

-- what is printed of a cell that is looked for
unfoldable pub find_said : Sealing → List ℕ → ℕ → List ℕ → List ℕ
find_said S key cell bs = find_text (find_with S key cell bs)

-- each call of the reader over a cipher, from the words after the version
abbrev pub reader_over : Sealing → ReaderCall → List (List ℕ) → Result (List ℕ) Unread
reader_over S c.Check ws =
    with_next bytes_of ws (λ key ws.
    with_next bytes_of ws (λ bs ws.
    with_next number_of ws (λ room ws.
    with_read (ending ws) (λ _. Ok (check_said S key bs room)))))
reader_over S c.Sheet ws =
    with_next bytes_of ws (λ key ws.
    with_next number_of ws (λ i ws.
    with_next number_of ws (λ room ws.
    with_next bytes_of ws (λ bs ws.
    with_read (ending ws) (λ _. Ok (sheet_said S key i room bs))))))
reader_over S c.Find ws =
    with_next bytes_of ws (λ key ws.
    with_next cell_of ws (λ cell ws.
    with_next bytes_of ws (λ bs ws.
    with_read (ending ws) (λ _. Ok (find_said S key cell bs)))))

-- a call of the reader reads a version first
abbrev pub reader_asked : ReaderCall → List (List ℕ) → Result (List ℕ) Unread
reader_asked call ws = with_next sealer_named ws (λ s ws. reader_over (cipher_of s) call ws)
