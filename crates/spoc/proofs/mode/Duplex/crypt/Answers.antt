use Rattle.std.proofs.Common.{◌≡◌, ◌+◌, ◌-◌, ◌*◌, ◌++◌, length, take, true, sym, refl, ap, ◌∙◌, ap₂, arith, rules}
use borrow.Rule.Slice.PartMut.{put_mid}
use Rattle.std.proofs.lemmas.Slice.{drop-put_mid}
use Rattle.std.specs.Slice.Iter.{chunks_rest}
use Rattle.spoc.specs.Turns.{output_of}
use Rattle.spoc.proofs.Blocks.{first_chunk, next_left, begins, goes_to, control_is}
use Rattle.spoc.proofs.Opened.{way_turn}
use Rattle.spoc.proofs.mode.Duplex.crypt.Goals as goal

pub loop-i-preserved : goal.loop-i-preserved
loop-i-preserved g c =
    let q = g.S.SuiteModel.plan in
    let is = g.met.S.Suite.rate_is in
    let inv = c.loop-i.invariant in
    let step = c.in-Some.ensures.steps in
    let x = c.in-Some.block.now in
    let n = length c.args.input.now in
    let i = c.loop-i.i-iterator.count in
    let first = first_chunk q.rate _ _ x _ inv.2 step.0.1 in
    let byte = control_is q.rate n i _ x _ first inv.3 64 true _ _ _ (c.RATE-in-loop-i.ensures ∙ is) (c.RATE-in-loop-i-2.ensures ∙ is) (rw step.1 at c.control_of-control.ensures) in
    let start = c.in-Some.i * c.RATE-in-loop-i.result in
    let from : start ≡ i * q.rate = ap₂ (λ a b. a * b) step.1 (c.RATE-in-loop-i.ensures ∙ is) in
    let end = start + length x in
    let to = goes_to q.rate n i _ x _ first inv.3 ∙ ap (λ a. a + length x) (sym from) in
    let room = begins q.rate n i _ x _ first inv.3 ∙ sym from in
    let done = way_turn g.S.Bijection.meaning q g.met.S.SuiteModel.sound _ x _ _ first byte c.args.way _ _ _ _ c.loop-i.out _ start end refl c.crypt_block.ensures.out c.crypt_block.ensures.state (omega arith) inv.4 (rw room at inv.5) in (
      search rules,
      search rules,
      step.0.0 ∙ inv.2,
      rw step.2 (next_left q.rate n i _ x _ first inv.3),
      done.0,
      ap (λ m. take m (put_mid start (end - start) c.loop-i.out c.crypt_block.new.out) ++ output_of c.args.way g.S.Bijection.meaning q c.crypt_block.new.self.state (chunks_rest c.next.new.self.iter)) to ∙ done.1,
      drop-put_mid start (end - start) c.loop-i.out c.crypt_block.new.out n (omega arith) (omega arith) (omega (arith, to)) ∙ inv.6,
    )
