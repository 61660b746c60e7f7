use Rattle.std.proofs.Common.{◌-◌, ◌≤◌, take, drop, ap, ◌∙◌, arith}
use Rattle.permutations.specs.Bytes.{store}
use Rattle.permutations.specs.Words.{store_end}
use Rattle.permutations.proofs.simeck.store_word.Goals as goal

pub returns : goal.returns
returns g c =
    let n = c.BYTES.result in
    let most : n ≤ 4 = omega (arith, g.W.Width.most) in
    c.copy_from_slice.ensures.after
    ∙ ap (λ z. take (4 - (4 - n)) (drop (4 - n) z)) c.to_be_bytes.ensures
    ∙ store_end n c.args.x most
    ∙ ap (λ z. store z c.args.x) c.BYTES.ensures
