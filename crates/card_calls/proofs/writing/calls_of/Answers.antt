use Rattle.std.proofs.Common.{map, vec_items, ap, ◌∙◌}
use Rattle.std.proofs.lemmas.List.{take_all}
use Rattle.writer.specs.Replay.{plain_call}
use Rattle.card_calls.specs.Writings.{step_call}
use Rattle.card_calls.proofs.Writers.{mapped_more}
use Rattle.card_calls.proofs.writing.calls_of.Goals as goal

pub loop-step-preserved : goal.loop-step-preserved
loop-step-preserved c =
    mapped_more plain_call step_call (vec_items c.loop-step.calls) (vec_items c.push.new.self) c.args.steps.now c.loop-step.step-index c.call.result c.step-item.result c.loop-step.invariant c.loop-step-test.true c.step-item.is c.call.ensures c.in_ok-push.ensures.items

pub returns : goal.returns
returns c = c.loop-step.invariant ∙ ap (map step_call) (take_all c.loop-step.step-index c.args.steps.now c.loop-step-test.false)
