use Rattle.std.proofs.Common.{◌≤◌, length, take, ap, ◌∙◌, arith}
use Rattle.std.proofs.lemmas.List.{with_items_is}
use Rattle.card_calls.proofs.Writers.{lines_are, medium_is, made_and}
use Rattle.card_calls.proofs.writing.run_calls.Goals as goal

pub returns : goal.returns
returns g c = λ w s.
    let S = g.C.Sealer.meaning in
    let cs = c.args.calls.now in
    let before = c.as_mut_slice.result.now in
    let after = c.replay-made.new.answers in
    let made = c.replay-made.result.made in
    let long : length cs ≤ length before = omega (arith, c.in_ok-answers.ensures.len, ap length c.as_mut_slice.ensures.value, c.in_ok-answers.answers.ok.0) in
    let ran = c.replay-made.ensures.same w s in
    let is = c.front_of.ensures ∙ ap (λ l. take made l) (c.as_slice.ensures.value ∙ with_items_is c.in_ok-answers.answers after (omega arith)) in
    made_and c.lines_of.result c.lines_of.ensures
    (lines_are S w cs made (length before) long before after c.front_of.result.now c.replay-made.new.medium ran is)
    (medium_is S w cs made (length before) long before after c.front_of.result.now c.replay-made.new.medium ran is)
