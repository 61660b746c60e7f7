use Rattle.std.proofs.Common.{◌∙◌}
use Rattle.spoc.proofs.Masks.{absorb_control}
use Rattle.spoc.proofs.mode.Duplex.absorb.Goals as goal

pub returns : goal.returns
returns g c =
    c.control_in.ensures
    ∙ absorb_control g.S.Bijection.meaning g.S.SuiteModel.plan g.met.S.SuiteModel.sound c.args.self.now.state c.args.block.now c.mask_block.new.self.state c.args.control c.mask_block.ensures
