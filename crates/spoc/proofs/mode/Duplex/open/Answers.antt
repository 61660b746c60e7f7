use Rattle.std.proofs.Common.{◌≡◌, Bool, cond, ◌++◌, length, drop, replicate, Some, None, sym, ap, ◌∙◌, ap₂, rules}
use Rattle.sealer.specs.Seal.{judged}
use Rattle.spoc.specs.Feed.{plaintext, opens}
use Rattle.spoc.proofs.Questions.{text_opened, rest_stays, opens_if}
use Rattle.spoc.proofs.mode.Duplex.open.Given as given
use Rattle.spoc.proofs.mode.Duplex.open.Goals as goal
use Rattle.spoc.proofs.mode.Duplex.open.Goals.{After-verify}

-- what opens, by whether the tag agrees
by_tag : (g : given.Over) (c : After-verify g) → opens g.S.Bijection.meaning g.S.SuiteModel.plan c.args.key.now c.args.nonce.now c.args.data.now c.args.ciphertext.now c.args.tag.now
    ≡ cond c.verify.result (Some (plaintext g.S.Bijection.meaning g.S.SuiteModel.plan c.args.key.now c.args.nonce.now c.args.data.now c.args.ciphertext.now)) None
by_tag g c =
    opens_if g.S.Bijection.meaning g.S.SuiteModel.plan c.args.key.now c.args.nonce.now c.args.data.now c.args.ciphertext.now _ c.begin.ensures g.met.S.SuiteModel.sound
    c.args.tag.now _ c.verify.result c.crypt.ensures.state c.verify.ensures.agrees

pub returns : goal.returns
returns g c =
    let n = length c.args.ciphertext.now in
    let text = plaintext g.S.Bijection.meaning g.S.SuiteModel.plan c.args.key.now c.args.nonce.now c.args.data.now c.args.ciphertext.now in
    let none = by_tag g (goal.at.returns g c).After-verify ∙ ap (λ (b : Bool). cond b (Some text) None) c.if-verify.false in
    let zeros : c.fill.new.self ≡ replicate n 0 = search rules in
    let rest =
    rest_stays g.S.Bijection.meaning g.S.SuiteModel.plan c.args.key.now c.args.nonce.now c.args.data.now c.args.ciphertext.now _ c.begin.ensures g.met.S.SuiteModel.sound
    c.args.out.now _ c.crypt.ensures.out in
    record {
      answer = sym (ap (λ z. (judged z n (drop n c.args.out.now)).answer) none);
      out = ap₂ (λ y z. y ++ z) zeros rest ∙ sym (ap (λ z. (judged z n (drop n c.args.out.now)).out) none);
      wiped = c.verify.ensures.wiped;
    }

pub returns-then-verify : goal.returns-then-verify
returns-then-verify g c =
    let n = length c.args.ciphertext.now in
    let text = plaintext g.S.Bijection.meaning g.S.SuiteModel.plan c.args.key.now c.args.nonce.now c.args.data.now c.args.ciphertext.now in
    let some = by_tag g (goal.at.returns-then-verify g c).After-verify ∙ ap (λ (b : Bool). cond b (Some text) None) c.if-verify.true in
    record {
      answer = sym (ap (λ z. (judged z n (drop n c.args.out.now)).answer) some);
      out =
          text_opened g.S.Bijection.meaning g.S.SuiteModel.plan c.args.key.now c.args.nonce.now c.args.data.now c.args.ciphertext.now _ c.begin.ensures g.met.S.SuiteModel.sound
          c.args.out.now _ c.crypt.ensures.out
          ∙ sym (ap (λ z. (judged z n (drop n c.args.out.now)).out) some);
      wiped = c.verify.ensures.wiped;
    }
