use Rattle.std.proofs.Common.{vec_items, string_bytes, rules, ◌∙◌, subst}
use Rattle.std.proofs.lemmas.Result.{err_from_is_err_and}
use Rattle.std.specs.Option.{option_map}
use Rattle.std.specs.Io.KnownBytes.{Appends}
use Rattle.streams.specs.Fronts.{AppendsFront}
use Rattle.card_calls.specs.Writings.{draft_in}
use Rattle.workbench.specs.Printed.{a_turn}
use Rattle.workbench.proofs.Scripts.{begun, failed, ended, answered, unwritten}
use Rattle.workbench.proofs.program.run.Goals as goal

pub loop-line-init : goal.loop-line-init
loop-line-init g c =
    let start = c.into_iter-line-iterator.ensures.into_iter_gives in
    (tt, tt, search rules, begun _ _ _ _ (search rules) c.new-workbench.ensures)

pub returns-in_err-line : goal.returns-in_err-line
returns-in_err-line g c =
    let res = err_from_is_err_and c.from_residual.result c.from_residual.ensures.1 in
    failed _ _ _ _ _ _ _ res.1 c.loop-line.invariant.3

pub returns-in_err-text : goal.returns-in_err-text
returns-in_err-text g c =
    let res = err_from_is_err_and c.from_residual-in_err-text.result c.from_residual-in_err-text.ensures.1 in
    failed _ _ _ _ _ _ _ res.1 c.loop-line.invariant.3

pub returns-in_err-write_bytes : goal.returns-in_err-write_bytes
returns-in_err-write_bytes g c =
    let t = a_turn (string_bytes c.in_ok-text.text) (option_map draft_in c.answer.new.self.draft) in
    let res = err_from_is_err_and c.from_residual-in_err-write_bytes.result c.from_residual-in_err-write_bytes.ensures.1 in
    unwritten vec_items _ _ _ _ _ _ _ _ _ _ t c.loop-line.invariant.2 c.in_ok-line.was c.in-Some.ensures.steps.2 c.as_slice.ensures.value c.in_ok-text.ensures.turn _ _ _ res.1
    (subst (AppendsFront _ _) c.as_bytes.ensures.value c.in_err-write_bytes.ensures) c.loop-line.invariant.3

pub loop-line-preserved : goal.loop-line-preserved
loop-line-preserved g c =
    let t = a_turn (string_bytes c.in_ok-text.text) (option_map draft_in c.answer.new.self.draft) in (
      tt,
      tt,
      c.in-Some.ensures.steps.1 ∙ c.loop-line.invariant.2,
      answered vec_items _ _ _ _ _ _ _ _ _ _ t c.loop-line.invariant.2 c.in_ok-line.was c.in-Some.ensures.steps.2 c.as_slice.ensures.value c.in_ok-text.ensures.turn _
          (subst (Appends _ _) c.as_bytes.ensures.value c.in_ok-write_bytes.ensures) c.loop-line.invariant.3,
    )

pub returns : goal.returns
returns g c = ended _ _ _ _ _ c.in-None.ensures.steps.2 c.loop-line.invariant.3
