use Rattle.std.proofs.Common.{◌≡◌, ◌+◌, ◌*◌, length, sym, ap, ◌∙◌, subst, arith, rules}
use Rattle.permutations.specs.Page.{count_for, line_of, sum_to}
use Rattle.permutations.proofs.AsciiParts.{Ascii, ascii_more}
use Rattle.permutations.proofs.Lines.{texts_none, sum_none, sum_more, text_more}
use Rattle.permutations.proofs.page.write_lines.Goals as goal

pub loop-k-init : goal.loop-k-init
loop-k-init g c =
    let count = count_for g.P.Bijection.meaning c.args.s c.args.state.now in
    (texts_none (line_of count), sum_none count, omega arith, tt)

pub loop-k-preserved : goal.loop-k-preserved
loop-k-preserved g c =
    let p = g.P.Bijection.meaning in
    let count = count_for p c.args.s c.args.state.now in
    let l = c.loop-k in
    let k = l.k in
    let size : length l.page ≡ 33 * (p.size + 1) = l.auto.page ∙ c.requires.room in
    let sized = g.met.P.Permutation.sized in
    let next : 8 * (k + 1) ≡ 8 * k + 8 = omega arith in
    let written = c.copy_from_slice.ensures.after in
    let wide : length c.line_of-line.result.text ≡ 33 = search rules in (
      text_more (line_of count) 33 k _ l.page c.copy_from_slice.new.self (ap length written ∙ wide) (omega (arith, size, sized, c.loop-k-test.true))
          l.invariant.0 (written ∙ c.line_of-line.ensures.text),
      omega (arith, l.invariant.1, c.line_of-line.ensures.sum, ap (sum_to count) next, sum_more count (8 * k) 8),
      omega (arith, l.invariant.2, c.line_of-line.ensures.bound),
      ascii_more (33 * k) _ (33 * (k + 1)) l.page c.copy_from_slice.new.self (omega (arith, ap length written, wide)) (omega (arith, size, sized, c.loop-k-test.true))
          l.invariant.3 (subst Ascii (sym written) c.line_of-line.ensures.ascii),
    )
