-- The bytes of a card.
use Rattle.std.specs.Prelude.{ℕ, suc, ◌+◌, ◌/◌, ◌%◌, List, [], ◌∷◌, ◌++◌, length, drop}
use Rattle.sealer.specs.Sealing.{Sealing}

-- numbers of 2, 4 and 8 bytes, the highest byte first
abbrev pub be2 : ℕ → List ℕ
be2 n = n / 256 % 256 ∷ n % 256 ∷ []

abbrev pub be4 : ℕ → List ℕ
be4 n = n / 16777216 % 256 ∷ n / 65536 % 256 ∷ n / 256 % 256 ∷ n % 256 ∷ []

abbrev pub be8 : ℕ → List ℕ
be8 n = n / 72057594037927936 % 256 ∷ n / 281474976710656 % 256 ∷ n / 1099511627776 % 256 ∷ n / 4294967296 % 256 ∷ be4 n

-- "SEA"
abbrev pub mark : List ℕ
mark = 0x53 ∷ 0x45 ∷ 0x41 ∷ []

-- the header of a card: mark, version and card number
abbrev pub header : ℕ → ℕ → List ℕ
header version number = mark ++ (be2 version ++ be8 number)

-- the head of a record: kind (1 sheet, 2 end), cell, edition and the length of the body
abbrev pub head : ℕ → ℕ → ℕ → ℕ → List ℕ
head kind cell edition len = kind ∷ (be4 cell ++ (be2 edition ++ be2 len))

-- the nonce of record n: the card number, which is the header's last eight bytes, and n
abbrev pub nonce : List ℕ → ℕ → List ℕ
nonce h n = drop 5 h ++ be8 n

-- record n under a header: its head, and its body sealed under that nonce, with header and head as data
abbrev pub sealed : Sealing → List ℕ → List ℕ → ℕ → List ℕ → List ℕ → List ℕ
sealed S key h n hd body = hd ++ (S.ciphertext key (nonce h n) (h ++ hd) body ++ S.tag key (nonce h n) (h ++ hd) body)

pub record Sheet : Type 0 where
  pub cell : ℕ
  pub edition : ℕ
  pub body : List ℕ

abbrev pub a_sheet : ℕ → ℕ → List ℕ → Sheet
a_sheet c e b = record { cell = c; edition = e; body = b }

abbrev pub sheet_record : Sealing → List ℕ → List ℕ → ℕ → Sheet → List ℕ
sheet_record S key h n s = sealed S key h n (head 1 s.cell s.edition (length s.body)) s.body

-- after n sheets
abbrev pub end_record : Sealing → List ℕ → List ℕ → ℕ → List ℕ
end_record S key h n = sealed S key h n (head 2 n 0 0) []

-- the records of sheets, the first of them being record n
abbrev pub records : Sealing → List ℕ → List ℕ → ℕ → List Sheet → List ℕ
records S key h n [] = []
records S key h n (s ∷ xs) = sheet_record S key h n s ++ records S key h (suc n) xs

-- a whole card: a header, the sheets' records and an end record
abbrev pub card : Sealing → List ℕ → ℕ → List Sheet → List ℕ
card S key number xs =
    let h = header S.version number in
    h ++ (records S key h 0 xs ++ end_record S key h (length xs))

-- how many bytes a record has under tags of w bytes, of a body of b bytes
abbrev pub record_bytes : ℕ → ℕ → ℕ
record_bytes w b = 9 + b + w

-- how many bytes the records of sheets have
abbrev pub records_bytes : ℕ → List Sheet → ℕ
records_bytes w [] = 0
records_bytes w (s ∷ xs) = record_bytes w (length s.body) + records_bytes w xs

-- how many bytes a card of these sheets has
abbrev pub card_bytes : ℕ → List Sheet → ℕ
card_bytes w xs = 13 + (records_bytes w xs + record_bytes w 0)
