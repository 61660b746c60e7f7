-- What the listing program prints of its input, which is 16 key bytes and then a card. Assumes nothing.
use Rattle.std.specs.Prelude.{◌≡◌, ℕ, suc, ◌+◌, ◌*◌, ◌<◌, cond, List, [], ◌∷◌, ◌++◌, length, take, drop, Ok, Err, codes, decimal, Option, Result, nat_le, slice_index, slice_index_or}
use Rattle.std.specs.Str.{bytes_eq}
use Rattle.sealers.specs.Names.{sealer_of}
use Rattle.sealer.specs.Sealing.{Sealing}
use Rattle.sealers.specs.Names.{cipher_of}
use Rattle.sealers.specs.declared.NoSuchVersion.{NoSuchVersion}
use Rattle.sealers.specs.declared.SealerName.{SealerName}
use Rattle.cards.specs.Faults.{Fault, fault, and_then, of_card, refused_text}
use Rattle.cards.specs.Format.{Sheet, mark}
use Rattle.cards.specs.Reader.{Card, check_bytes, heading, sheet_drawn, version_of}
use Rattle.lister.specs.declared.listing.Header.{Header}
use Rattle.lister.specs.declared.listing.Unlisted.{Unlisted}
use Rattle.lister.specs.declared.listing.Unlisted.TheVariants.{Refused, Unwritten}
use Rattle.std.specs.Io.KnownBytes.{Appends}
use Rattle.streams.specs.Fronts.{AppendsFront}

-- card C version V sheets N
abbrev pub card_line : ℕ → ℕ → ℕ → List ℕ
card_line number version sheets = codes "card " ++ (decimal number ++ (codes " version " ++ (decimal version ++ (codes " sheets " ++ (decimal sheets ++ (10 ∷ []))))))

-- sheet I cell C edition E length L
abbrev pub sheet_line : ℕ → ℕ → ℕ → ℕ → List ℕ
sheet_line i cell edition size = codes "sheet " ++ (decimal i ++ (codes " cell " ++ (decimal cell ++ (codes " edition " ++ (decimal edition ++ (codes " length " ++ (decimal size ++ (10 ∷ []))))))))

-- the lines of sheets, the first of them being sheet i
unfoldable pub sheet_lines : ℕ → List Sheet → List ℕ
sheet_lines i [] = []
sheet_lines i (s ∷ xs) = sheet_line i s.cell s.edition (length s.body) ++ sheet_lines (suc i) xs

-- the card number in a header
abbrev pub number_of : List ℕ → ℕ
number_of bs =
    slice_index bs 5 * 72057594037927936 + slice_index bs 6 * 281474976710656 + slice_index bs 7 * 1099511627776 + slice_index bs 8 * 4294967296
    + slice_index bs 9 * 16777216 + slice_index bs 10 * 65536 + slice_index bs 11 * 256 + slice_index bs 12

-- a card under a cipher: check's questions, and what is printed once all are passed
unfoldable pub listed : Sealing → List ℕ → ℕ → List ℕ → Result (List ℕ) Fault
listed S key number bs = and_then (check_bytes S key bs) (λ xs. Ok (card_line number S.version (length xs) ++ sheet_lines 0 xs))

-- version and card number of a card, where header and mark are there
abbrev pub header_asked : List ℕ → Result Header Fault
header_asked bs =
    cond (nat_le 13 (length bs))
    (cond (bytes_eq (take 3 bs) mark)
    (Ok (record { version = version_of bs; number = number_of bs }))
    (Err (fault 11 3 0 0)))
    (Err (fault 10 3 0 0))

-- a card under the sealer of a version, if there is one
abbrev pub under : Result SealerName NoSuchVersion → List ℕ → ℕ → List ℕ → Result (List ℕ) Fault
under (Ok s) = listed (cipher_of s)
under (Err e) = λ key number bs. Err (fault 12 3 0 3)

-- the version picks the sealer
abbrev pub by_version : List ℕ → List ℕ → Header → Result (List ℕ) Fault
by_version key bs h = under (sealer_of h.version) key h.number bs

-- the card alone
abbrev pub card_listed : List ℕ → List ℕ → Result (List ℕ) Fault
card_listed key bs = and_then (header_asked bs) (by_version key bs)

-- the whole input
abbrev pub input_listed : List ℕ → Result (List ℕ) Fault
input_listed all =
    cond (nat_le 16 (length all))
    (cond (nat_le (length all) 65552)
    (card_listed (take 16 all) (drop 16 all))
    (Err (fault 3 1 0 0)))
    (Err (fault 1 1 0 0))

-- the text, or only the fault, on a line of its own
abbrev pub text_of : Result (List ℕ) Fault → List ℕ
text_of (Ok text) = text
text_of (Err f) = refused_text f ++ (10 ∷ [])

-- what is printed
abbrev pub listing_text : List ℕ → List ℕ
listing_text all = text_of (input_listed all)

-- what a call answers and has written, against a text or a fault: where writing fails, a front of the text; where there is a fault, nothing
abbrev pub Prints : Result (Unit {0}) Unlisted → Option (List ℕ) → Option (List ℕ) → Result (List ℕ) Fault → Type 0
Prints (Ok _) old new a = (text : List ℕ) × (a ≡ Ok text) × Appends old new text
Prints (Err (Unwritten e)) old new a = (text : List ℕ) × (a ≡ Ok text) × AppendsFront old new text
Prints (Err (Refused f)) old new a = (a ≡ Err (of_card f)) × (new ≡ old)

-- a card whose sheets are these
pub record Holds (S : Sealing) (c : Card) (xs : List Sheet) : Type 0 where
  pub counts : c.count ≡ length xs
  pub gives : (i : ℕ) (buffer : List ℕ) (d : Sheet) → i < length xs → length buffer ≡ 4096 → (sheet_drawn S c i buffer).answer ≡ Ok (heading (slice_index_or xs i d))
