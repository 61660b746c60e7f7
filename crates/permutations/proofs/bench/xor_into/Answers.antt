use Rattle.std.proofs.Common.{[], ◌∷◌, ◌++◌, get_or, take, sym, refl, ap, ◌∙◌, add-one, arith}
use lib.Bits.{bit_xor}
use Rattle.std.proofs.lemmas.List.{take_more_set}
use Rattle.permutations.specs.Bytes.{xors}
use Rattle.permutations.specs.Xors.{xors_push}
use Rattle.permutations.proofs.bench.xor_into.Goals as goal

pub loop-i-init : goal.loop-i-init
unfolding xors
loop-i-init c = refl

pub loop-i-preserved : goal.loop-i-preserved
loop-i-preserved c =
    let i = c.loop-i.i in
    let a = c.args.a.now in
    let b = c.args.b.now in
    take_more_set c.loop-i.out i (bit_xor (get_or a i 0) (get_or b i 0)) (omega arith)
    ∙ ap (λ z. z ++ (bit_xor (get_or a i 0) (get_or b i 0) ∷ [])) c.loop-i.invariant
    ∙ sym (ap (λ n. xors (take n a) (take n b)) (add-one i) ∙ xors_push a b i (omega arith) (omega arith))
