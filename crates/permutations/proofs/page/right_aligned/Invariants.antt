use Rattle.std.proofs.Common.{◌≡◌, ◌++◌, ◌^◌, ◌<◌, drop, length}
use Rattle.permutations.specs.Page.{field_of}
use Rattle.permutations.proofs.Aligning.{front}
use Rattle.permutations.proofs.AsciiParts.{Ascii}
use Rattle.permutations.proofs.page.right_aligned.Given as goal

abbrev pub invariant-loop-i : goal.invariant-loop-i
invariant-loop-i g l =
    (field_of g.row.N l.number ≡ front l.i l.rest ++ drop l.i l.text) × (l.rest < 10 ^ l.i) × (length l.text ≡ g.row.N) × Ascii l.text
