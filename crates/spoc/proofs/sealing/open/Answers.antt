use Rattle.std.proofs.Common.{sym, refl, ap, ◌∙◌}
use Rattle.spoc.proofs.Questions.{opened_is}
use Rattle.spoc.proofs.sealing.open.Goals as goal

pub returns : goal.returns
returns g c =
    let asked = c.in_ok-key.ensures in
    let is = opened_is g.S.Bijection.meaning g.S.SuiteModel.plan c.args.key.now c.args.nonce.now c.args.data.now c.args.ciphertext.now c.args.out.now c.args.tag.now
    c.in_ok-key.key.now c.in_ok-key.nonce.now c.RATE.result _ (c.RATE.ensures ∙ g.met.S.Suite.rate_is) asked.0 asked.1 asked.2 refl in
    record { answer = c.«open».ensures.answer ∙ sym (ap (λ z. z.answer) is); out = c.«open».ensures.out ∙ sym (ap (λ z. z.out) is) }
