use Rattle.std.proofs.Common.{drop, replicate, ap, ◌∙◌}
use Rattle.permutations.specs.Bytes.{xors}
use Rattle.permutations.specs.Light.{light_192}
use Rattle.spoc.specs.Feed.{put}
use Rattle.spoc.specs.Spoc64.{masked_64, begin_64}
use Rattle.spoc.proofs.spoc64.Light192Suite24.start.Goals as goal

pub returns : goal.returns
unfolding begin_64
returns c =
    c.mask_nonce.ensures
    ∙ ap (λ z. xors z (put masked_64 (drop 8 c.args.nonce.now) (replicate 24 0))) (c.forward.ensures ∙ ap light_192.forward c.load_state.ensures)
