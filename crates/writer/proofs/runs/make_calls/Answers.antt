use Rattle.std.proofs.Common.{◌≡◌, ◌+◌, ◌<◌, ◌≤◌, List, [], ◌∷◌, ◌++◌, length, take, refl, ap, ◌∙◌, subst, arith, rules}
use Rattle.std.specs.List.{AllByRecursion}
use Rattle.std.proofs.lemmas.List.{length-take, take_more_set}
use Rattle.cards.specs.Claims.{WellCall}
use Rattle.writer.specs.declared.runs.Call.{Call}
use Rattle.writer.specs.Replay.{made_calls}
use Rattle.writer.specs.declared.runs.Call.TheVariants.{Close}
use Rattle.writer.proofs.Replays.{goes_append, goes_refused, stands_at, part_is, called, others_stay, well_push}
use Rattle.writer.proofs.runs.make_calls.Goals as goal
use Rattle.writer.proofs.runs.make_calls.Goals.{in-Append, in-Close+in-Err}

pub returns-in-Ok-clause-well : goal.returns-in-Ok-clause-well
returns-in-Ok-clause-well g c =
    let slots = length c.args.answers.now in
    let calls : List Call = take slots c.args.calls.now in
    let part = part_is c.args.calls.now slots c.min-count.result c.min-count.ensures in
    let within : c.loop-i.i < length calls = subst (λ (z : List Call). c.loop-i.i < length z) part c.loop-i-test.true in
    well_push calls c.loop-i.i _ Close within (called _ calls c.loop-i.i _ _ part c.in-Close.is) tt c.loop-i.invariant.2

pub returns-clause-well : goal.returns-clause-well
returns-clause-well g c =
    let n = c.min-count.result in
    let all : c.loop-i.i ≡ n = omega (arith, c.min-count.ensures, c.loop-i-test.false, length-take n c.args.calls.now, c.loop-i.auto.i-end) in
    subst (λ k. AllByRecursion WellCall (made_calls k (take (length c.args.answers.now) c.args.calls.now))) all c.loop-i.invariant.2

pub loop-i-preserved : goal.loop-i-preserved
loop-i-preserved g c =
    let i = c.loop-i.i in
    let calls : List Call = take (length c.args.answers.now) c.args.calls.now in
    let part = part_is c.args.calls.now (length c.args.answers.now) c.min-count.result c.min-count.ensures in
    let within : i < length calls = subst (λ (z : List Call). i < length z) part c.loop-i-test.true in
    let room : i < length c.loop-i.answers = omega (arith, c.loop-i.auto.answers, length-take (length c.args.answers.now) c.args.calls.now) in
    let next = take_more_set c.loop-i.answers i c.match-call.answer room in (
      others_stay c.loop-i.answers _ c.args.answers.now i c.match-call.answer refl c.loop-i.invariant.0,
      elim c.match-call.branch [
        | in-Append w ↦
            goes_append g.C.Sealer.meaning c.args.writer c.args.medium.now calls (take i c.loop-i.answers) c.loop-i.open c.loop-i.medium i c.loop-i.invariant.1 _ within
            w.in-Append.cell w.in-Append.edition w.in-Append.body w.append-answer.result c.match-call.open c.match-call.medium _
            (called _ calls i _ _ part w.in-Append.is) (next ∙ ap (λ a. take i c.loop-i.answers ++ (a ∷ [])) w.answer-is)
            (λ q s. let y = w.append-answer.ensures.plain q s in (y.0, stands_at w.open-is w.medium-is y.1))
        | in-Close+in-Err w ↦
            goes_refused g.C.Sealer.meaning c.args.writer c.args.medium.now calls (take i c.loop-i.answers) c.loop-i.open c.loop-i.medium i c.loop-i.invariant.1 _ within
            w.in-Err.unclosed.fault c.match-call.open c.match-call.medium _
            (called _ calls i _ _ part w.in-Close.is) (next ∙ ap (λ a. take i c.loop-i.answers ++ (a ∷ [])) w.answer-is) (w.open-is ∙ w.in-Err.ensures.back)
            (λ q s. let y = w.in-Err.ensures.plain q s in (y.0, w.medium-is ∙ y.1))
      ],
      elim c.match-call.branch [
        | in-Append w ↦ well_push calls i _ _ within (called _ calls i _ _ part w.in-Append.is) (record { cell = search rules; edition = search rules }) c.loop-i.invariant.2
        | in-Close+in-Err w ↦ well_push calls i _ _ within (called _ calls i _ _ part w.in-Close.is) tt c.loop-i.invariant.2
      ],
    )
