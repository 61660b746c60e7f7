use Rattle.std.proofs.Common.{◌≡◌, string_bytes}
use Rattle.workbench.specs.States.{trace_text}
use Rattle.workbench.proofs.states.trace.Given as goal

abbrev pub invariant-loop-i : goal.invariant-loop-i
invariant-loop-i g l = string_bytes l.text ≡ trace_text g.P.Bijection.meaning l.i l.state
