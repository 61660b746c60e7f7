use Rattle.std.proofs.Common.{◌++◌, drop, sym, refl, ap, ◌∙◌}
use Rattle.sealer.specs.Seal.{Opened}
use Rattle.sealer.proofs.Testing.{answers_as_open}
use Rattle.spoc.specs.Sealing.{spoc}
use Rattle.spoc.proofs.Questions.{tested_is}
use Rattle.spoc.proofs.sealing.test.Goals as goal

pub returns : goal.returns
returns g c =
    let asked = c.in_ok-key.ensures in
    let is = tested_is g.S.Bijection.meaning g.S.SuiteModel.plan c.args.key.now c.args.nonce.now c.args.data.now c.args.ciphertext.now c.args.scratch.now c.args.tag.now
    c.in_ok-key.key.now c.in_ok-key.nonce.now c.RATE.result 16 (c.RATE.ensures ∙ g.met.S.Suite.rate_is) asked.0 asked.1 asked.2 refl in
    let says = c.test.ensures.answer ∙ sym (ap (λ (z : Opened). z.answer) is) in
    record {
      answer = says;
      scratch = ap (λ z. z ++ drop 16 c.args.scratch.now) c.test.ensures.scratch ∙ sym (ap (λ (z : Opened). z.out) is);
      as_open = answers_as_open (spoc g.S.Bijection.meaning g.S.SuiteModel.plan) c.args.key.now c.args.nonce.now c.args.data.now c.args.ciphertext.now c.args.scratch.now c.args.tag.now _ says;
    }
