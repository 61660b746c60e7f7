use Rattle.std.proofs.Common.{length, ◌∙◌, arith, rules}
use Rattle.std.proofs.lemmas.List.{length_push}
use Rattle.std.proofs.lemmas.Slice.Zip.{zip_turn, zip_end}
use Rattle.cards.specs.Faults.{told}
use Rattle.writer.specs.Replay.{plain_call}
use Rattle.card_calls.proofs.Writers.{lines_turn, lines_all}
use Rattle.card_calls.proofs.writing.lines_of.Goals as goal

pub loop-call-preserved : goal.loop-call-preserved
loop-call-preserved c =
    let cs = c.args.calls.now in
    let rs = c.args.answers.now in
    let xs = c.loop-call.yielded in
    let t = zip_turn cs rs xs _ _ c.next.new.self _ (search rules) (search rules) c.loop-call.yielded_by (c.in-Some.call, c.in-Some.answer) c.in-Some.is c.next.ensures.steps in (
      search rules,
      search rules,
      lines_turn plain_call told cs rs (length xs) _ c.in-Some.call.now c.in-Some.answer.now t.0 t.1 (t.2 _) (t.3 _) (length_push xs (c.in-Some.call, c.in-Some.answer)) c.loop-call.invariant.2 c.in_ok-write.ensures.bytes,
    )

pub returns : goal.returns
returns c =
    let cs = c.args.calls.now in
    let rs = c.args.answers.now in
    let xs = c.loop-call.yielded in
    let n = zip_end cs rs xs _ _ c.next.new.self _ (search rules) (search rules) c.loop-call.yielded_by c.in-None.is c.next.ensures.steps in
    c.loop-call.invariant.2 ∙ lines_all plain_call told cs rs (length xs) (omega (arith, n))
