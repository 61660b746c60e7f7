use Rattle.std.proofs.Common.{[], length, true, refl, ◌∙◌, arith, rules}
use Rattle.spoc.specs.declared.mode.Way.TheVariants.{Open}
use Rattle.spoc.proofs.Blocks.{first_chunk, next_left, control_is}
use Rattle.spoc.proofs.Opened.{way_turn}
use Rattle.spoc.proofs.mode.Duplex.open_over.Goals as goal

pub loop-i-preserved : goal.loop-i-preserved
loop-i-preserved g c =
    let q = g.S.SuiteModel.plan in
    let is = g.met.S.Suite.rate_is in
    let inv = c.loop-i.invariant in
    let step = c.in-Some.ensures.steps in
    let x = c.in-Some.block.now in
    let n = length c.args.ciphertext.now in
    let i = c.loop-i.i-iterator.count in
    let first = first_chunk q.rate _ _ x _ inv.2 step.0.1 in
    let byte = control_is q.rate n i _ x _ first inv.3 64 true _ _ _ (c.RATE-in-loop-i.ensures ∙ is) (c.RATE-in-loop-i-2.ensures ∙ is) (rw step.1 at c.control_of-control.ensures) in
    -- what is written over is not asked after: as if each block came first
    let done = way_turn g.S.Bijection.meaning q g.met.S.SuiteModel.sound _ x _ _ first byte Open _ _ _ _ [] _ 0 (length x) (omega arith) c.crypt_block.ensures.out c.crypt_block.ensures.state (omega arith) inv.4 refl in (
      search rules,
      search rules,
      step.0.0 ∙ inv.2,
      rw step.2 (next_left q.rate n i _ x _ first inv.3),
      done.0,
    )
