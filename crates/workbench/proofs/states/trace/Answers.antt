use Rattle.std.proofs.Common.{ℕ, ◌+◌, ◌≤◌, List, ◌++◌, sym, ap, ◌∙◌, arith}
use Rattle.workbench.specs.States.{step_text}
use Rattle.workbench.proofs.Tracing.{trace_none, trace_more}
use Rattle.workbench.proofs.states.trace.Goals as goal

pub loop-i-init : goal.loop-i-init
loop-i-init g c = c.in_ok-text.ensures.ok ∙ sym (trace_none g.P.Bijection.meaning c.args.state.now)

pub loop-i-preserved : goal.loop-i-preserved
loop-i-preserved g c =
    let p = g.P.Bijection.meaning in
    let s = c.args.state.now in
    let i = c.loop-i.i in
    let within : i + 1 ≤ p.full = omega (arith, g.met.P.Permutation.steps_is) in
    c.in_ok-write.ensures.bytes
    ∙ ap (λ (l : List ℕ). l ++ step_text (i + 1) c.forward_by.new.state) c.loop-i.invariant
    ∙ trace_more p s c.forward_by.new.state i within c.forward_by.ensures.state
