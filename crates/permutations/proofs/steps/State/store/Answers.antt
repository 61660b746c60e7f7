use Rattle.std.proofs.Common.{◌≡◌, ◌*◌, take, length, ap, ◌∙◌, zero-mul, arith}
use Rattle.permutations.specs.Bytes.{stores}
use Rattle.permutations.specs.Words.{part_end, stores_more}
use Rattle.permutations.proofs.steps.State.store.Goals as goal

pub loop-i-init : goal.loop-i-init
unfolding stores
loop-i-init g c = ap (λ z. take z c.args.state.now) (zero-mul g.W.Width.BYTES)

pub loop-i-preserved : goal.loop-i-preserved
loop-i-preserved g c =
    let w = g.W.Width.BYTES in
    let i = c.loop-i.i in
    let all = c.loop-i.bytes in
    let size : length all ≡ w * 8 = c.loop-i.auto.bytes ∙ c.told-state ∙ g.met.W.StateBytes.sized in
    stores_more w c.BYTES.result i _ c.words.result all c.store_word.new.part c.BYTES.ensures (omega (arith, ap length c.words.ensures))
    (part_end i w 8 (length all) c.loop-i-test.true size)
    c.loop-i.invariant c.store_word.ensures
