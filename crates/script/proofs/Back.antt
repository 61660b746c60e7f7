-- Bytes that are printed read back. Assumes nothing.
use Rattle.std.proofs.Common.{◌≡◌, ℕ, ◌+◌, ◌*◌, ◌/◌, ◌%◌, ◌<◌, true, false, ◌&&◌, eqb, List, [], ◌∷◌, Ok, refl, ap, ◌∙◌, ap₂, arith}
use Rattle.std.proofs.lemmas.Bool.{cond-false}
use Rattle.std.proofs.lemmas.Bool.Decides.{nat_tests}
use Rattle.std.specs.List.{AllByRecursion}
use Rattle.std.specs.Str.{bytes_eq}
use Rattle.script.specs.Hex.{hex_digit, byte_of, before, pairs, upper, hex_pairs, ReadsBack}

-- a digit in capitals
digit_back : (d : ℕ) → d < 16 → hex_digit (upper d) ≡ Ok d
digit_back d small = grind (arith, nat_tests)

byte_back : (b : ℕ) → b < 256 → byte_of (hex_digit (upper (b / 16))) (hex_digit (upper (b % 16))) ≡ Ok b
byte_back b small =
    let whole : b / 16 * 16 + b % 16 ≡ b = omega arith in
    ap₂ byte_of (digit_back (b / 16) (omega arith)) (digit_back (b % 16) (omega arith)) ∙ ap Ok whole

pairs_back : (bs : List ℕ) → AllByRecursion (λ b. b < 256) bs → pairs (hex_pairs bs) ≡ Ok bs
pairs_back [] small = refl
pairs_back (b ∷ bs) small = ap₂ before (byte_back b small.0) (pairs_back bs small.1)

-- two digits or more are not -
not_none : (h l : ℕ) (rest : List ℕ) → bytes_eq (h ∷ l ∷ rest) (45 ∷ []) ≡ false
not_none h l rest = elim (eqb h 45) as (λ t. (t && false) ≡ false) [ true ↦ refl | false ↦ refl ]

pub reads_back : ReadsBack
reads_back [] small = refl
reads_back (b ∷ bs) small =
    cond-false _ _ _ (not_none (upper (b / 16)) (upper (b % 16)) (hex_pairs bs)) ∙ pairs_back (b ∷ bs) small
