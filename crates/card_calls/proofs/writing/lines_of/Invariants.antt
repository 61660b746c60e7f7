use Rattle.std.proofs.Common.{◌≡◌, map, length, take, string_bytes}
use Rattle.cards.specs.Faults.{told}
use Rattle.writer.specs.Replay.{plain_call}
use Rattle.card_calls.specs.Writings.{call_lines}
use Rattle.card_calls.proofs.writing.lines_of.Given as goal

abbrev pub invariant-loop-call : goal.invariant-loop-call
invariant-loop-call l =
    goal.iterator-loop-call.can_next l.call-iterator
    × goal.iterator-loop-call.is_finite l.call-iterator
    × (string_bytes l.text ≡ call_lines (map plain_call (take (length l.yielded) l.calls)) (map told (take (length l.yielded) l.answers)))
