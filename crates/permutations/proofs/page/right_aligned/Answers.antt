use Rattle.std.proofs.Common.{◌-◌, ◌<◌, ◌∙◌, refl, arith}
use Rattle.std.proofs.lemmas.List.{length-set, length-replicate}
use Rattle.std.proofs.ByRecursion.{All-set}
use Rattle.permutations.proofs.AsciiParts.{ascii_replicate}
use Rattle.permutations.proofs.Aligning.{column_last, column_more, tenth_lt}
use Rattle.permutations.proofs.page.right_aligned.Goals as goal

pub loop-i-init : goal.loop-i-init
loop-i-init g c =
    let n = g.row.N in
    (column_last n c.args.number _ c.requires.some (omega (arith, c.ranges.number.fits)) refl, tenth_lt n c.args.number (omega (arith, c.requires.some)) c.requires.fits, length-replicate _ _, ascii_replicate n _ (omega arith))

pub loop-i-preserved : goal.loop-i-preserved
loop-i-preserved g c =
    let l = c.loop-i in
    let some = c.loop-i-test.true in
    let long = l.invariant.2 in (
      column_more g.row.N c.args.number l.i l.rest _ l.text some (omega (arith, long, l.auto.i)) (omega (arith, l.auto.rest-fits)) c.digit_of.ensures.value l.invariant.0,
      tenth_lt l.i l.rest some l.invariant.1,
      length-set l.text (l.i - 1) _ ∙ long,
      All-set (λ b. b < 128) l.text (l.i - 1) _ c.digit_of.ensures.ascii l.invariant.3,
    )
