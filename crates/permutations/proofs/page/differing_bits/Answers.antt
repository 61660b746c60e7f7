use Rattle.std.proofs.Common.{◌≡◌, ◌+◌, ◌≤◌, [], ◌∷◌, ◌++◌, take, get_or, sum_by, sym, ap, ◌∙◌, add-one, arith, refl}
use Rattle.std.specs.Prelude.{bit_xor, count_ones}
use lib.Count.{ones-le}
use Rattle.std.proofs.lemmas.Nat.{xor_lt}
use Rattle.std.proofs.lemmas.List.Sums.{sum_by-append}
use Rattle.permutations.specs.Bytes.{xors}
use Rattle.permutations.specs.Xors.{xors_push}
use Rattle.permutations.proofs.page.differing_bits.Goals as goal

pub loop-i-init : goal.loop-i-init
unfolding xors
loop-i-init c = (refl, omega arith)

pub loop-i-preserved : goal.loop-i-preserved
loop-i-preserved c =
    let l = c.loop-i in
    let a = c.args.a.now in
    let b = c.args.b.now in
    let more : xors (take (l.i + 1) a) (take (l.i + 1) b) ≡ xors (take l.i a) (take l.i b) ++ (bit_xor (get_or a l.i 0) (get_or b l.i 0) ∷ []) =
    ap (λ n. xors (take n a) (take n b)) (add-one l.i) ∙ xors_push a b l.i c.loop-i-test.true (omega (arith, c.loop-i-test.true, c.requires.same)) in
    let few : count_ones (bit_xor (get_or a l.i 0) (get_or b l.i 0)) ≤ 8 = ones-le 8 _ (xor_lt 8 _ _ (c.type_inv.a l.i).fits (c.type_inv.b l.i).fits) in (
      sym (ap (sum_by count_ones) more ∙ sum_by-append count_ones (xors (take l.i a) (take l.i b)) (bit_xor (get_or a l.i 0) (get_or b l.i 0) ∷ []) ∙ omega (arith, l.invariant.0)),
      omega (arith, l.invariant.1, few),
    )
