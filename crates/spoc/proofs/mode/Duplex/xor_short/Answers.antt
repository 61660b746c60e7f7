use Rattle.std.proofs.Common.{◌≡◌, ℕ, ◌<◌, length, get_or, take, ap, ◌∙◌, arith, length-take, rules}
use Rattle.std.proofs.lemmas.List.{get_or-take}
use Rattle.permutations.specs.Bytes.{xors}
use Rattle.spoc.specs.Feed.{pick}
use Rattle.spoc.proofs.Masks.{rate_inside, xors_front}
use Rattle.spoc.proofs.mode.Duplex.xor_short.Goals as goal

pub xor_places-requires : goal.xor_places-requires
xor_places-requires g c =
    let ps = c.rate_places.result.now in
    let n = length c.args.block.now in
    let inside : (i : ℕ) → i < length (take n ps) → get_or (take n ps) i 0 < g.row.B =
    λ i h.
    let front : i < n = omega (arith, length-take n ps) in
    let at : get_or (take n ps) i 0 ≡ get_or g.S.SuiteModel.plan.rate_places i 0 = get_or-take n ps i 0 front ∙ ap (λ l. get_or l i 0) c.rate_places.ensures in
    omega (arith, at, rate_inside g.S.Bijection.meaning g.S.SuiteModel.plan g.met.S.SuiteModel.sound i (omega (arith, c.requires.fits)), g.met.S.Permutation.sized) in
    search rules

pub returns : goal.returns
returns g c =
    let x = c.args.block.now in
    let s = c.args.self.now.state in
    c.xor_places.ensures
    ∙ xors_front x c.rate_places.result.now s
    ∙ ap (λ ps. xors x (pick ps s)) c.rate_places.ensures
