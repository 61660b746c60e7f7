use Rattle.std.proofs.Common.{sym, refl, ap, ◌∙◌}
use Rattle.spoc.proofs.Law.{spoc_claims}
use Rattle.spoc.proofs.Questions.{sealed_is}
use Rattle.spoc.proofs.sealing.seal.Goals as goal

pub returns-in_err-key-clause-claims : goal.returns-in_err-key-clause-claims
returns-in_err-key-clause-claims g c = spoc_claims g.S.Bijection.meaning g.S.SuiteModel.plan g.met.S.SuiteModel.sound g.S.Bijection.bijective

pub returns : goal.returns
returns g c =
    let asked = c.in_ok-key.ensures in
    let is = sealed_is g.S.Bijection.meaning g.S.SuiteModel.plan c.args.key.now c.args.nonce.now c.args.data.now c.args.message.now c.args.out.now c.args.tag.now
    c.in_ok-key.key.now c.in_ok-key.nonce.now c.RATE.result _ (c.RATE.ensures ∙ g.met.S.Suite.rate_is) asked.0 asked.1 asked.2 refl _ _ c.seal.ensures.out c.seal.ensures.tag in
    record {
      answer = sym (ap (λ z. z.answer) is);
      out = sym (ap (λ z. z.out) is);
      tag = sym (ap (λ z. z.tag) is);
      claims = spoc_claims g.S.Bijection.meaning g.S.SuiteModel.plan g.met.S.SuiteModel.sound g.S.Bijection.bijective;
    }
