use Rattle.std.proofs.Common.{length, get_or, ap, arith}
use Rattle.spoc.specs.Rows.{pick_is}
use Rattle.spoc.proofs.Masks.{masked_turn}
use Rattle.spoc.proofs.mode.Duplex.write_tag.Goals as goal

pub bounds-self-place : goal.bounds-self-place
bounds-self-place g c =
    let ps = c.masked_places-place-items.ensures in
    masked_turn g.S.Bijection.meaning g.S.SuiteModel.plan g.met.S.SuiteModel.sound c.loop-i.i _ g.row.B (omega (arith, ap length ps)) (ap (λ l. get_or l c.loop-i.i 0) ps) g.met.S.Permutation.sized

pub returns : goal.returns
returns g c =
    rw (← c.masked_places-place-items.ensures)
    (pick_is c.loop-i.tag c.masked_places-place-items.result.now c.args.self.now.state
    (omega (arith, ap length c.masked_places-place-items.ensures, g.met.S.SuiteModel.sound.masked_count)) (λ k h. c.loop-i.invariant k (omega arith)))
