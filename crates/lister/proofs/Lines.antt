-- The lines of sheets, one after the other.
use Rattle.std.proofs.Common.{◌≡◌, ℕ, suc, ◌+◌, ◌<◌, List, [], ◌∷◌, ◌++◌, length, get_or, take, drop, sym, refl, ap, ◌∙◌, arith}
use Rattle.std.proofs.lemmas.List.{append_assoc, append-nil, take-append-drop, length-take-le, take_more}
use Rattle.cards.specs.Format.{Sheet, a_sheet}
use Rattle.lister.specs.Printed.{sheet_line, sheet_lines}

abbrev pub line : ℕ → Sheet → List ℕ
line i s = sheet_line i s.cell s.edition (length s.body)

pub lines_none : (i : ℕ) → sheet_lines i [] ≡ []
unfolding sheet_lines
lines_none i = refl

one : (i : ℕ) (s : Sheet) → sheet_lines i (s ∷ []) ≡ line i s
unfolding sheet_lines
one i s = append-nil (line i s)

lines_append : (i : ℕ) (xs ys : List Sheet) → sheet_lines i (xs ++ ys) ≡ sheet_lines i xs ++ sheet_lines (i + length xs) ys
unfolding sheet_lines
lines_append i [] ys = ap (λ k. sheet_lines k ys) (omega arith)
lines_append i (s ∷ xs) ys =
    let e : suc i + length xs ≡ i + suc (length xs) = omega arith in
    ap (λ (z : List ℕ). line i s ++ z) (lines_append (suc i) xs ys ∙ ap (λ k. sheet_lines (suc i) xs ++ sheet_lines k ys) e)
    ∙ sym (append_assoc (line i s) (sheet_lines (suc i) xs) (sheet_lines (i + suc (length xs)) ys))

-- a default, which is not read
abbrev pub nothing : Sheet
nothing = a_sheet 0 0 []

-- one sheet more
pub lines_more : (xs : List Sheet) (i : ℕ) → i < length xs → sheet_lines 0 (take (i + 1) xs) ≡ sheet_lines 0 (take i xs) ++ line i (get_or xs i nothing)
lines_more xs i lt =
    let d = nothing in
    let e : 0 + length (take i xs) ≡ i = ap (λ k. 0 + k) (length-take-le i xs (omega arith)) ∙ omega arith in
    ap (sheet_lines 0) (take_more xs i d lt)
    ∙ lines_append 0 (take i xs) (get_or xs i d ∷ [])
    ∙ ap (λ k. sheet_lines 0 (take i xs) ++ sheet_lines k (get_or xs i d ∷ [])) e
    ∙ ap (λ (z : List ℕ). sheet_lines 0 (take i xs) ++ z) (one i (get_or xs i d))

-- the lines up to a sheet, its own, and those after it
pub lines_split : (xs : List Sheet) (i : ℕ) → i < length xs → sheet_lines 0 xs ≡ sheet_lines 0 (take i xs) ++ (line i (get_or xs i nothing) ++ sheet_lines (0 + length (take (i + 1) xs)) (drop (i + 1) xs))
lines_split xs i lt =
    let front = take (i + 1) xs in
    let back = drop (i + 1) xs in
    ap (sheet_lines 0) (sym (take-append-drop (i + 1) xs))
    ∙ lines_append 0 front back
    ∙ ap (λ (l : List ℕ). l ++ sheet_lines (0 + length front) back) (lines_more xs i lt)
    ∙ append_assoc (sheet_lines 0 (take i xs)) (line i (get_or xs i nothing)) (sheet_lines (0 + length front) back)
