use Rattle.std.proofs.Common.{◌-◌, length, Err, sym, ap, ◌∙◌, arith}
use Rattle.std.proofs.lemmas.Result.{err_from_is_err_and}
use Rattle.spoc.proofs.Questions.{ok_not, opens_nothing, opens_what_seal_left, comes_back}
use Rattle.spoc.proofs.claims.seal_and_open.Goals as goal

pub returns-in_err-seal : goal.returns-in_err-seal
returns-in_err-seal g c =
    let e = err_from_is_err_and c.from_residual.result c.from_residual.ensures.1 in
    let s = c.seal.ensures in
    let none = opens_nothing g.S.Bijection.meaning g.S.SuiteModel.plan c.args.key.now c.args.nonce.now c.args.data.now c.args.message.now c.args.ciphertext.now c.args.tag.now
    _ _ c.args.out.now c.in_err-seal.was s.answer in
    record {
      ciphertext = s.out;
      tag = s.tag;
      answer = e.1 ∙ ap Err e.2 ∙ sym (ap (λ z. z.answer) none);
      out = sym (ap (λ z. z.out) none);
      round_trip = λ accepts room. absurd (ok_not _ (sym c.in_err-seal.was ∙ s.answer ∙ accepts));
      claims = s.claims;
    }

pub returns : goal.returns
returns g c =
    let s = c.seal.ensures in
    let p = g.S.Bijection.meaning in
    let q = g.S.SuiteModel.plan in
    let again = opens_what_seal_left p q c.args.key.now c.args.nonce.now c.args.data.now c.args.message.now c.args.ciphertext.now c.args.tag.now
    _ c.seal.new.out c.seal.new.tag c.args.out.now (length c.args.message.now - 0) (omega arith) c.in_ok-seal.was s.answer s.out s.tag in
    let answer = c.open.ensures.answer ∙ ap (λ z. z.answer) again in
    let out = c.open.ensures.out ∙ ap (λ z. z.out) again in
    record {
      ciphertext = s.out;
      tag = s.tag;
      answer = answer;
      out = out;
      round_trip =
          λ accepts room.
          let back = comes_back p q c.args.key.now c.args.nonce.now c.args.data.now c.args.message.now c.args.ciphertext.now c.args.tag.now
          g.met.S.SuiteModel.sound g.S.Bijection.bijective c.args.out.now accepts room in
          (answer ∙ ap (λ z. z.answer) back, out ∙ ap (λ z. z.out) back);
      claims = s.claims;
    }
