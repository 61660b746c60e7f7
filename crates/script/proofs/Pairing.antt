-- Bytes that are read pair by pair.
use Rattle.std.proofs.Common.{◌≡◌, ℕ, List, [], ◌∷◌, ◌++◌, length, get_or, Ok, Err, Result, sym, refl, ap, ◌∙◌, append_assoc, arith}
use Rattle.script.specs.declared.unread.Unread.{Unread}
use Rattle.script.specs.Hex.{hex_digit, byte_of, before, pairs}

-- bytes that are read already, before those that are left
abbrev pub after : List ℕ → Result (List ℕ) Unread → Result (List ℕ) Unread
after xs (Ok ys) = Ok (xs ++ ys)
after xs (Err e) = Err e

after_before : (xs : List ℕ) (b : ℕ) (r : Result (List ℕ) Unread) → after xs (before (Ok b) r) ≡ after (xs ++ b ∷ []) r
after_before xs b (Ok ys) = ap Ok (sym (append_assoc xs (b ∷ []) ys))
after_before xs b (Err e) = refl

-- a pair of digits, whose byte is read
pub pair_more : (xs pair rest : List ℕ) (b : ℕ) → length pair ≡ 2 → Ok b ≡ byte_of (hex_digit (get_or pair 0 0)) (hex_digit (get_or pair 1 0)) → after xs (pairs (pair ++ rest)) ≡ after (xs ++ b ∷ []) (pairs rest)
pair_more xs [] rest b two is = absurd (omega arith)
pair_more xs (h ∷ []) rest b two is = absurd (omega arith)
pair_more xs (h ∷ l ∷ []) rest b two is = ap (λ (r : Result ℕ Unread). after xs (before r (pairs rest))) (sym is) ∙ after_before xs b (pairs rest)
pair_more xs (h ∷ l ∷ x ∷ more) rest b two is = absurd (omega arith)
