use Rattle.std.proofs.Common.{◌≡◌, length, take, drop}
use Rattle.std.specs.List.{AllByRecursion}
use Rattle.cards.specs.Claims.{WellCall}
use Rattle.writer.specs.Replay.{made_calls}
use Rattle.writer.proofs.Replays.{Goes}
use Rattle.writer.proofs.runs.make_calls.Given as goal

abbrev pub invariant-loop-i : goal.invariant-loop-i
invariant-loop-i g l =
    (drop l.i l.answers ≡ drop l.i l.initial.answers)
    × Goes g.C.Sealer.meaning l.initial.open l.initial.medium (take (length l.initial.answers) l.calls) (take l.i l.answers) l.open l.medium l.i
    × AllByRecursion WellCall (made_calls l.i (take (length l.initial.answers) l.calls))
