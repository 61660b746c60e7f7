use Rattle.std.proofs.Common.{◌≡◌, length, ap, ◌∙◌, rules}
use Rattle.spoc.proofs.Masks.{first_in}
use Rattle.spoc.proofs.mode.Duplex.first_step.Goals as goal

pub returns : goal.returns
returns g c =
    let p = g.S.Bijection.meaning in
    let s = c.args.self.now.state in
    let long : length s ≡ g.row.B = search rules in
    c.forward.ensures
    ∙ ap p.forward (c.control_in.ensures ∙ first_in p g.S.SuiteModel.plan g.met.S.SuiteModel.sound s c.args.ends c.flag_of.result (long ∙ g.met.S.Permutation.sized) c.flag_of.ensures)
