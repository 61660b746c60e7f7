use Rattle.std.proofs.Common.{◌≡◌}
use Rattle.std.specs.Option.{option_map}
use Rattle.std.specs.Io.Iter.{split_byte, split_known_bytes}
use Rattle.card_calls.specs.Writings.{draft_in}
use Rattle.workbench.proofs.Scripts.{StandsAt}
use Rattle.workbench.proofs.program.run.Given as goal

-- what is written is what the lines so far may print, after which the rest goes on
abbrev pub invariant-loop-line : goal.invariant-loop-line
invariant-loop-line g l =
    (goal.iterator-loop-line g).can_next l.line-iterator
    × (goal.iterator-loop-line g).is_finite l.line-iterator
    × (split_byte l.line-iterator ≡ 10)
    × StandsAt (g.R.Read.remaining l.fn.script) (split_known_bytes g.R.Read.remaining l.line-iterator) (g.W.Write.contents l.fn.out) (g.W.Write.contents l.out) (option_map draft_in l.workbench.draft)
