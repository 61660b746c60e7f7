use Rattle.std.proofs.Common.{◌≡◌, ◌*◌, ◌≤◌, take, sum_by}
use Rattle.std.specs.Prelude.{count_ones}
use Rattle.permutations.specs.Bytes.{xors}
use Rattle.permutations.proofs.page.differing_bits.Given as goal

abbrev pub invariant-loop-i : goal.invariant-loop-i
invariant-loop-i l = (l.ones ≡ sum_by count_ones (xors (take l.i l.a) (take l.i l.b))) × (l.ones ≤ 8 * l.i)
