use Rattle.std.proofs.Common.{◌≡◌, ◌+◌, ◌*◌, ◌≤◌, length, take}
use Rattle.permutations.specs.Page.{count_for, field_of, texts, sum_to}
use Rattle.permutations.proofs.AsciiParts.{Ascii}
use Rattle.permutations.proofs.page.line_of.Given as goal

abbrev pub invariant-loop-j : goal.invariant-loop-j
invariant-loop-j g l =
    let count = count_for g.P.Bijection.meaning l.s l.state in
    (take (4 * l.j) l.text ≡ texts (λ j. field_of 4 (count (8 * l.k + j))) l.j)
    × (l.sum ≡ sum_to (λ j. count (8 * l.k + j)) l.j)
    × (l.sum ≤ 512 * l.j)
    × (length l.text ≡ 33)
    × Ascii l.text
