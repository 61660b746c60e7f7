use Rattle.std.proofs.Common.{◌≡◌, ◌++◌, take, drop}
use Rattle.permutations.specs.Bytes.{xors}
use Rattle.other_suite.proofs.ring.xor_front.Given as goal

abbrev pub invariant-loop-i : goal.invariant-loop-i
invariant-loop-i l = l.state ≡ xors (take l.i l.fn.state) (take l.i l.bytes) ++ drop l.i l.fn.state
