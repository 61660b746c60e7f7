-- Bytes as hexadecimal pairs: read in either case, written in capitals. Assumes nothing.
use Rattle.std.specs.Prelude.{◌≡◌, ℕ, ◌+◌, ◌-◌, ◌*◌, ◌/◌, ◌%◌, ◌<◌, cond, List, [], ◌∷◌, Ok, Err, Result, nat_lt}
use Rattle.std.specs.Int.{is_in_range}
use Rattle.std.specs.List.{AllByRecursion, flat_map}
use Rattle.std.specs.Str.{bytes_eq}
use Rattle.script.specs.declared.unread.Unread.{Unread}
use Rattle.script.specs.declared.unread.Unread.TheVariants.{EmptyWord, OddDigits, WrongDigit, NotOneByte}

-- the value of a digit: 0 to 9, A to F, a to f
abbrev pub hex_digit : ℕ → Result ℕ Unread
hex_digit b =
    cond (is_in_range 48 57 b) (Ok (b - 48)) (cond (is_in_range 65 70 b) (Ok (b - 55)) (cond (is_in_range 97 102 b) (Ok (b - 87)) (Err WrongDigit)))

-- the byte of two digits, the high one first
abbrev pub byte_of : Result ℕ Unread → Result ℕ Unread → Result ℕ Unread
byte_of (Err e) low = Err e
byte_of (Ok x) (Err e) = Err e
byte_of (Ok x) (Ok y) = Ok (x * 16 + y)

-- a byte before the bytes that follow
abbrev pub before : Result ℕ Unread → Result (List ℕ) Unread → Result (List ℕ) Unread
before (Err e) rest = Err e
before (Ok b) (Err e) = Err e
before (Ok b) (Ok bytes) = Ok (b ∷ bytes)

-- the bytes of pairs of digits
abbrev pub pairs : List ℕ → Result (List ℕ) Unread
pairs [] = Ok []
pairs (a ∷ []) = Err OddDigits
pairs (a ∷ b ∷ rest) = before (byte_of (hex_digit a) (hex_digit b)) (pairs rest)

-- the bytes of a word; - stands for none
abbrev pub bytes_of : List ℕ → Result (List ℕ) Unread
bytes_of [] = Err EmptyWord
bytes_of (a ∷ rest) = cond (bytes_eq (a ∷ rest) (45 ∷ [])) (Ok []) (pairs (a ∷ rest))

-- the byte, where one alone was read
abbrev pub byte_alone : Result (List ℕ) Unread → Result ℕ Unread
byte_alone (Err e) = Err e
byte_alone (Ok []) = Err NotOneByte
byte_alone (Ok (b ∷ [])) = Ok b
byte_alone (Ok (b ∷ c ∷ bs)) = Err NotOneByte

-- a digit below 16, in capitals
abbrev pub upper : ℕ → ℕ
upper d = cond (nat_lt d 10) (48 + d) (55 + d)

-- two digits for each byte
abbrev pub hex_pairs : List ℕ → List ℕ
hex_pairs = flat_map (λ b. upper (b / 16) ∷ upper (b % 16) ∷ [])

-- bytes as they are printed
abbrev pub hex_text : List ℕ → List ℕ
hex_text [] = 45 ∷ []
hex_text (b ∷ bs) = hex_pairs (b ∷ bs)

-- bytes that are printed read back
abbrev pub ReadsBack : Type 0
ReadsBack = (bs : List ℕ) → AllByRecursion (λ b. b < 256) bs → bytes_of (hex_text bs) ≡ Ok bs
