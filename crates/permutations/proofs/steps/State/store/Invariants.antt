use Rattle.std.proofs.Common.{◌≡◌, ◌*◌, take}
use Rattle.permutations.specs.Bytes.{stores}
use Rattle.permutations.proofs.steps.State.store.Given as goal

abbrev pub invariant-loop-i : goal.invariant-loop-i
invariant-loop-i g l = let w = g.W.Width.BYTES in take (l.i * w) l.bytes ≡ stores w (take l.i l.word-items)
