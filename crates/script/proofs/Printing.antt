-- Bytes that are written digit by digit.
use Rattle.std.proofs.Common.{◌≡◌, ℕ, ◌+◌, ◌-◌, ◌^◌, ◌/◌, ◌%◌, ◌<◌, true, false, List, [], ◌∷◌, ◌++◌, length, get_or, take, sym, ap, ◌∙◌}
use Rattle.std.proofs.lemmas.Fmt.{hex_byte}
use Rattle.std.proofs.lemmas.List.{take_more, flat_map_more}
use Rattle.std.proofs.Output.{has_written_of_eq, has_written_append}
use Rattle.std.specs.Fmt.{padded_integral, format_spec, digits, HasWritten}
use Rattle.std.specs.declared.fmt.Formatter.{Formatter}
use Rattle.script.specs.Hex.{upper, hex_pairs}

abbrev pair : ℕ → List ℕ
pair b = upper (b / 16) ∷ upper (b % 16) ∷ []

pairs_more : (xs : List ℕ) (i : ℕ) → i < length xs → get_or xs i 0 < 256 → hex_pairs (take i xs) ++ padded_integral (format_spec 32 0 4 2 (2 ^ 64 - 1)) false [] (digits 16 true (get_or xs i 0)) ≡ hex_pairs (take (i + 1) xs)
pairs_more xs i within small =
    let b = get_or xs i 0 in
    ap (λ (l : List ℕ). hex_pairs (take i xs) ++ l) (hex_byte true b small)
    ∙ flat_map_more pair [] (take i xs) b
    ∙ sym (ap hex_pairs (take_more xs i 0 within))

-- one byte more
pub printed_more : {W : Type 0} (took : W → List ℕ → W → Type 0) (f g h : Formatter W) (xs : List ℕ) (i : ℕ) → i < length xs → get_or xs i 0 < 256
    → HasWritten took f (hex_pairs (take i xs)) g → HasWritten took g (padded_integral (format_spec 32 0 4 2 (2 ^ 64 - 1)) false [] (digits 16 true (get_or xs i 0))) h
    → HasWritten took f (hex_pairs (take (i + 1) xs)) h
printed_more took f g h xs i within small before more =
    has_written_of_eq took _ _ _ _ (pairs_more xs i within small) (has_written_append took _ _ _ _ _ before more)
