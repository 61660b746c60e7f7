use Rattle.std.proofs.Common.{◌≡◌, take}
use Rattle.permutations.specs.Bytes.{xors}
use Rattle.permutations.proofs.bench.xor_into.Given as goal

abbrev pub invariant-loop-i : goal.invariant-loop-i
invariant-loop-i l = take l.i l.out ≡ xors (take l.i l.a) (take l.i l.b)
