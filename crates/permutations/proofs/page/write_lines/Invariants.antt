use Rattle.std.proofs.Common.{◌≡◌, ◌*◌, ◌≤◌, take}
use Rattle.permutations.specs.Page.{count_for, line_of, texts, sum_to}
use Rattle.permutations.proofs.AsciiParts.{Ascii}
use Rattle.permutations.proofs.page.write_lines.Given as goal

abbrev pub invariant-loop-k : goal.invariant-loop-k
invariant-loop-k g l =
    let count = count_for g.P.Bijection.meaning l.s l.state in
    (take (33 * l.k) l.page ≡ texts (line_of count) l.k)
    × (l.total ≡ sum_to count (8 * l.k))
    × (l.total ≤ 4096 * l.k)
    × Ascii (take (33 * l.k) l.page)
