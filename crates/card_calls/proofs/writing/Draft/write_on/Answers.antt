use Rattle.std.proofs.Common.{◌≡◌, ℕ, List, ◌++◌, map, IfOk, Ok, Err, string_bytes, codes, sym, ap, ◌∙◌, rules}
use Rattle.cards.specs.Faults.{of_card}
use Rattle.cards.specs.Plain.{start}
use Rattle.writer.specs.Replay.{plain_call}
use Rattle.card_calls.specs.Readings.{refused_line}
use Rattle.card_calls.specs.Writings.{Written, draft_in, step_call, write_on}
use Rattle.card_calls.proofs.Writers.{started_as, refused_as, medium_stays, written_started, written_refused, made_so}
use Rattle.card_calls.proofs.writing.Draft.write_on.Goals as goal

pub returns-in-Ok : goal.returns-in-Ok
unfolding draft_in
returns-in-Ok g c =
    let S = g.C.Sealer.meaning in
    let d = draft_in c.args.self.now in
    let m = c.args.medium.now in
    let k = c.as_slice-2.ensures.value in
    let o = started_as c.in-Ok.writer c.start.new.medium (start S c.as_slice-2.result.now c.args.self.now.number m) c.in-Ok.ensures.answer in
    let w = o.0 in
    let e : start S d.key d.number m ≡ Ok w = ap (λ (x : List ℕ). start S x d.number m) (sym k) ∙ o.1 in
    let cs = map plain_call c.as_slice-in-Ok.result.now in
    let ec : cs ≡ d.calls = ap (map plain_call) c.as_slice-in-Ok.ensures.value ∙ c.in_ok-calls.ensures ∙ ap (map step_call) c.as_slice.ensures.value in
    let ran = c.in_ok-lines-in-Ok.ensures w o.2 in
    let lines = string_bytes c.in_ok-lines-in-Ok.lines in
    let text : IfOk c.format.result (λ t. string_bytes t ≡ codes "started\n" ++ lines) = search rules in
    let mm = c.run_calls.new.medium in
    made_so c.format.result (λ (l : List ℕ). ◌≡◌ {A = Written} record { lines = l; medium = mm } (write_on S d m)) text
    (λ l is. written_started S d m l mm w cs e ec (is ∙ ap (λ (x : List ℕ). codes "started\n" ++ x) ran.0) ran.1)

pub returns : goal.returns
unfolding draft_in
returns g c =
    let S = g.C.Sealer.meaning in
    let d = draft_in c.args.self.now in
    let m = c.args.medium.now in
    let f = of_card c.in-Err.fault in
    let mm = c.start.new.medium in
    let key = c.as_slice-2.result.now in
    let e0 : start S key d.number m ≡ Err f = refused_as g.row.C.Denot c.in-Err.fault mm (start S key d.number m) c.in-Err.ensures.answer in
    let e : start S d.key d.number m ≡ Err f = ap (λ (x : List ℕ). start S x d.number m) (sym c.as_slice-2.ensures.value) ∙ e0 in
    let stays = medium_stays S key d.number m mm f e0 c.in-Err.ensures.medium in
    let text : IfOk c.format-in-Err.result (λ t. string_bytes t ≡ refused_line f) = search rules in
    made_so c.format-in-Err.result (λ (l : List ℕ). ◌≡◌ {A = Written} record { lines = l; medium = mm } (write_on S d m)) text
    (λ l is. written_refused S d m l mm f e is stays)
