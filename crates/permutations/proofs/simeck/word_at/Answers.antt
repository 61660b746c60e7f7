use Rattle.std.proofs.Common.{◌≡◌, ◌+◌, ◌-◌, ◌*◌, take, drop, sym, ◌∙◌, ap₂}
use Rattle.permutations.specs.Bytes.{load}
use Rattle.permutations.specs.Words.{loads_at, part_length}
use Rattle.permutations.proofs.simeck.word_at.Goals as goal

pub returns : goal.returns
returns g c =
    let w = g.W.Width.BYTES in
    let i = c.args.i in
    let s = c.args.state.now in
    let k : (i + 1) * c.BYTES-2.result - i * c.BYTES.result ≡ w = ap₂ (λ a b. (i + 1) * a - i * b) c.BYTES-2.ensures c.BYTES.ensures ∙ part_length i w in
    record {
      value = c.load_word.ensures.value ∙ ap₂ (λ a b. load (take a (drop (i * b) s))) k c.BYTES.ensures ∙ sym (loads_at w 8 i s c.requires);
      fits = c.load_word.ensures.fits;
    }
