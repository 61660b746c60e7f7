use Rattle.std.proofs.Common.{◌≡◌, ◌*◌}
use Rattle.permutations.specs.Simeck.{unbox}
use Rattle.permutations.proofs.simeck.two_unboxes.Given as goal

-- the rounds that are left
abbrev pub invariant-loop-k : goal.invariant-loop-k
invariant-loop-k g l =
    let m = 8 * g.W.Width.BYTES in
    let u = g.W.Width.ROUNDS in
    (unbox m l.rc0 u l.initial.x ≡ unbox m l.rc0 l.k l.x) × (unbox m l.rc1 u l.initial.y ≡ unbox m l.rc1 l.k l.y)
