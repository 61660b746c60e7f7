use Rattle.std.proofs.Common.{◌≡◌, map, take, vec_items}
use Rattle.writer.specs.Replay.{plain_call}
use Rattle.card_calls.specs.Writings.{step_call}
use Rattle.card_calls.proofs.writing.calls_of.Given as goal

abbrev pub invariant-loop-step : goal.invariant-loop-step
invariant-loop-step l = map plain_call (vec_items l.calls) ≡ map step_call (take l.step-index l.steps)
