use Rattle.std.proofs.Common.{◌*◌, sym, ◌∙◌, rules, tests}
use Rattle.std.proofs.lemmas.Iterator.{YieldsList-from_slice}
use Rattle.std.proofs.lemmas.Iterator.Consumers.{fold_from_yields_List}
use Rattle.permutations.specs.Steps.{step}
use Rattle.permutations.proofs.Folding.{steps_fold}
use Rattle.permutations.proofs.steps.State.forward.Goals as goal

pub returns : goal.returns
returns g c =
    let m = 8 * g.W.Width.BYTES in
    let u = g.W.Width.ROUNDS in
    let ks = c.args.constants.now in
    fold_from_yields_List _ (λ s k. step m u k s) c.args.self c.fold.result c.fold.ensures.ran (YieldsList-from_slice ks cc) (λ s k r q d. search (rules, tests))
    ∙ sym (steps_fold m u ks c.args.self)
