use Rattle.spoc.proofs.Questions.{text_sealed, tag_sealed}
use Rattle.spoc.proofs.mode.Duplex.seal.Goals as goal

pub returns-clause-out : goal.returns-clause-out
returns-clause-out g c =
    text_sealed g.S.Bijection.meaning g.S.SuiteModel.plan c.args.key.now c.args.nonce.now c.args.data.now c.args.message.now _ c.begin.ensures c.args.out.now _ c.crypt.ensures.out

pub returns-clause-tag : goal.returns-clause-tag
returns-clause-tag g c =
    tag_sealed g.S.Bijection.meaning g.S.SuiteModel.plan c.args.key.now c.args.nonce.now c.args.data.now c.args.message.now _ c.begin.ensures
    c.crypt.new.self.state _ c.crypt.ensures.state c.finish.ensures.tag
