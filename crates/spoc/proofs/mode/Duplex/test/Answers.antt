use Rattle.std.proofs.Common.{◌≡◌, Bool, cond, Some, None, sym, ap, ◌∙◌}
use Rattle.sealer.specs.Seal.{verdict}
use Rattle.spoc.specs.Feed.{plaintext, opens}
use Rattle.spoc.proofs.Questions.{opens_if}
use Rattle.spoc.proofs.mode.Duplex.test.Given as given
use Rattle.spoc.proofs.mode.Duplex.test.Goals as goal
use Rattle.spoc.proofs.mode.Duplex.test.Goals.{After-verify}

-- what opens, by whether the tag agrees
by_tag : (g : given.Over) (c : After-verify g) → opens g.S.Bijection.meaning g.S.SuiteModel.plan c.args.key.now c.args.nonce.now c.args.data.now c.args.ciphertext.now c.args.tag.now
    ≡ cond c.verify.result (Some (plaintext g.S.Bijection.meaning g.S.SuiteModel.plan c.args.key.now c.args.nonce.now c.args.data.now c.args.ciphertext.now)) None
by_tag g c =
    opens_if g.S.Bijection.meaning g.S.SuiteModel.plan c.args.key.now c.args.nonce.now c.args.data.now c.args.ciphertext.now _ c.begin.ensures g.met.S.SuiteModel.sound
    c.args.tag.now _ c.verify.result c.open_over.ensures c.verify.ensures.agrees

pub returns-then-verify-clause-answer : goal.returns-then-verify-clause-answer
returns-then-verify-clause-answer g c =
    let text = plaintext g.S.Bijection.meaning g.S.SuiteModel.plan c.args.key.now c.args.nonce.now c.args.data.now c.args.ciphertext.now in
    sym (ap verdict (by_tag g (goal.at.returns-then-verify-clause-answer g c).After-verify ∙ ap (λ (b : Bool). cond b (Some text) None) c.if-verify.true))

pub returns-clause-answer : goal.returns-clause-answer
returns-clause-answer g c =
    let text = plaintext g.S.Bijection.meaning g.S.SuiteModel.plan c.args.key.now c.args.nonce.now c.args.data.now c.args.ciphertext.now in
    sym (ap verdict (by_tag g (goal.at.returns-clause-answer g c).After-verify ∙ ap (λ (b : Bool). cond b (Some text) None) c.if-verify.false))
