use Rattle.std.proofs.Common.{◌≡◌, ℕ, ◌<◌, length, get_or, ap, arith, rules}
use Rattle.spoc.proofs.Masks.{rate_inside}
use Rattle.spoc.proofs.mode.Duplex.xor_rate.Goals as goal

pub xor_places-requires : goal.xor_places-requires
xor_places-requires g c =
    let ps = c.rate_places-places.result.now in
    let inside : (i : ℕ) → i < length ps → get_or ps i 0 < g.row.B =
    λ i h.
    let same : get_or ps i 0 ≡ get_or g.S.SuiteModel.plan.rate_places i 0 = ap (λ l. get_or l i 0) c.rate_places-places.ensures in
    omega (arith, same, rate_inside g.S.Bijection.meaning g.S.SuiteModel.plan g.met.S.SuiteModel.sound i (omega (arith, c.requires.fits)), g.met.S.Permutation.sized) in
    search rules
