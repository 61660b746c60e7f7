use Rattle.std.proofs.Common.{length, ◌∙◌, rules}
use Rattle.spoc.proofs.Blocks.{first_chunk, next_left, control_is, turn}
use Rattle.spoc.proofs.mode.Duplex.absorb_data.Goals as goal

pub loop-i-preserved : goal.loop-i-preserved
loop-i-preserved g c =
    let q = g.S.SuiteModel.plan in
    let is = g.met.S.Suite.rate_is in
    let inv = c.loop-i.invariant in
    let step = c.in-Some.ensures.steps in
    let x = c.in-Some.block.now in
    let n = length c.args.data.now in
    let i = c.loop-i.i-iterator.count in
    let first = first_chunk q.rate _ _ x _ inv.2 step.0.1 in
    let byte = control_is q.rate n i _ x _ first inv.3 32 c.args.ends _ _ _ (c.RATE-in-loop-i.ensures ∙ is) (c.RATE-in-loop-i-2.ensures ∙ is) (rw step.1 at c.control_of-control.ensures) in (
      search rules,
      search rules,
      step.0.0 ∙ inv.2,
      rw step.2 (next_left q.rate n i _ x _ first inv.3),
      turn g.S.Bijection.meaning q g.met.S.SuiteModel.sound 32 c.args.ends _ x _ _ first byte _ _ _ c.step.ensures inv.4,
    )
