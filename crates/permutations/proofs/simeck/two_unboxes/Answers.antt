use Rattle.std.proofs.Common.{◌≡◌, ◌*◌, sym, ap, ◌∙◌, arith}
use Rattle.permutations.specs.Simeck.{unbox}
use Rattle.permutations.specs.Boxes.{unbox_next}
use Rattle.permutations.proofs.simeck.two_unboxes.Goals as goal

pub loop-k-preserved : goal.loop-k-preserved
loop-k-preserved g c =
    let m = 8 * g.W.Width.BYTES in
    let u = g.W.Width.ROUNDS in
    let l = c.loop-k in (
      unbox_next m c.args.rc0 u l.k c.args.a l.x _ c.loop-k-test.true l.invariant.0 c.unround-x.ensures,
      unbox_next m c.args.rc1 u l.k c.args.b l.y _ c.loop-k-test.true l.invariant.1 c.unround-y.ensures,
    )

pub returns : goal.returns
unfolding unbox
returns g c =
    let m = 8 * g.W.Width.BYTES in
    let l = c.loop-k in
    let e : l.k ≡ 0 = omega arith in
    record {
      first = sym (l.invariant.0 ∙ ap (λ n. unbox m c.args.rc0 n l.x) e);
      second = sym (l.invariant.1 ∙ ap (λ n. unbox m c.args.rc1 n l.y) e);
    }
