use Rattle.std.proofs.Common.{◌≡◌, length, replicate, ap, ◌∙◌, rules}
use Rattle.reader.proofs.walk.Wipe.drop.Goals as goal

pub returns : goal.returns
returns c =
    let all : length c.args.self.bytes.now ≡ 16 = search rules in
    c.fill.ensures.after (λ y e. e) ∙ ap (λ n. replicate n 0) all
