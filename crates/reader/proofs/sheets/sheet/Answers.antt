use Rattle.std.proofs.Common.{◌≡◌, ℕ, ◌+◌, ◌≤◌, List, length, take, drop, Err, sym, ap, ◌∙◌, subst, arith}
use Rattle.std.proofs.lemmas.Result.{err_from_is_err_and}
use Rattle.sealer.specs.Sealing.{Sealing}
use Rattle.cards.specs.Faults.{told}
use Rattle.cards.specs.Reader.{drawn, length_of, sheet_opened, sheet_at, sheet_drawn}
use Rattle.reader.specs.Cards.{shown}
use Rattle.reader.specs.Heads.{titled}
use Rattle.reader.proofs.Bodies.{answer_passes, no_mismatch, opened_drawn}
use Rattle.cards.proofs.Places.{opening}
use Rattle.reader.specs.Said.{open_output}
use Rattle.reader.proofs.Within.{From, fits, header_long, place}
use Rattle.reader.proofs.sheets.sheet.Given as given
use Rattle.reader.proofs.sheets.sheet.Goals as goal
use Rattle.reader.proofs.sheets.sheet.Goals.{After-from_residual, After-open_sheet}

abbrev cipher : given.Over → Sealing
cipher g = g.C.Sealer.meaning

pub front-requires : goal.front-requires
front-requires g c = (omega arith, header_long c.args.card.now c.args.i (omega arith))

pub open_sheet-requires : goal.open_sheet-requires
open_sheet-requires g c =
    let at : From c.args.card.now c.args.i c.rest_at.result = record { number = c.rest_at.ensures.number; place_is = c.rest_at.ensures.place; bytes = c.rest_at.ensures.bytes } in
    let f = fits c.args.card.now c.args.i c.rest_at.result at (omega arith) in
    omega (arith, f, (c.WIDTH.ensures ∙ g.met.C.Sealer.width_is))

-- a refusal of open_sheet, to the card
refused_is : (g : given.Over) (c : After-from_residual g) → told c.from_residual.result ≡ titled (sheet_opened (cipher g) (shown c.args.card.now) c.args.i (length c.args.buffer.now))
refused_is g c =
    let card = c.args.card.now in
    let S = cipher g in
    let hv : card.version ≡ S.version = omega (arith, (c.VERSION.ensures ∙ g.met.C.Sealer.version_is)) in
    let hr : card.width ≡ S.width = omega (arith, (c.WIDTH.ensures ∙ g.met.C.Sealer.width_is)) in
    let o = length c.args.buffer.now in
    let x = c.rest_at.result in
    let h = take 13 card.bytes.now in
    let res = err_from_is_err_and c.from_residual.result c.from_residual.ensures.1 in
    ap told (res.1 ∙ ap Err res.2)
    ∙ c.in_err-open_sheet.ensures.answer
    ∙ ap (λ h. titled (sheet_at S card.key h x.number x.place x.bytes.now o)) c.front.ensures
    ∙ ap (λ i. titled (sheet_at S card.key h i x.place x.bytes.now o)) c.rest_at.ensures.number
    ∙ ap (λ p. titled (sheet_at S card.key h c.args.i p x.bytes.now o)) c.rest_at.ensures.place
    ∙ ap (λ xs. titled (sheet_at S card.key h c.args.i (place card c.args.i) xs o)) c.rest_at.ensures.bytes
    ∙ ap titled (sym (answer_passes S (shown card) c.args.i hv hr (omega arith) o))

pub returns-in_err-open_sheet-clause-agrees : goal.returns-in_err-open_sheet-clause-agrees
returns-in_err-open_sheet-clause-agrees g c =
    no_mismatch (cipher g) (shown c.args.card.now) c.args.i (length c.args.buffer.now) (told c.from_residual.result) (refused_is g (goal.at.returns-in_err-open_sheet-clause-agrees g c).After-from_residual)

-- what open_sheet leaves in the buffer, to the card
buffer_is : (g : given.Over) (c : After-open_sheet g) → c.open_sheet.new.buffer ≡ (sheet_drawn (cipher g) (shown c.args.card.now) c.args.i c.args.buffer.now).buffer
buffer_is g c =
    let card = c.args.card.now in
    let S = cipher g in
    let hv : card.version ≡ S.version = omega (arith, (c.VERSION.ensures ∙ g.met.C.Sealer.version_is)) in
    let hr : card.width ≡ S.width = omega (arith, (c.WIDTH.ensures ∙ g.met.C.Sealer.width_is)) in
    let b = c.args.buffer.now in
    let x = c.rest_at.result in
    let h = take 13 card.bytes.now in
    let at : From card c.args.i x = record { number = c.rest_at.ensures.number; place_is = c.rest_at.ensures.place; bytes = c.rest_at.ensures.bytes } in
    let f = fits card c.args.i x at (omega arith) in
    let p = place card c.args.i in
    let rest = drop p card.bytes.now in
    let within : 9 + length_of rest + S.width ≤ length rest = subst (λ (xs : List ℕ). 9 + length_of xs + S.width ≤ length xs) c.rest_at.ensures.bytes (omega (arith, f, hr)) in
    c.open_sheet.ensures.buffer
    ∙ ap (λ h. open_output (opening S card.key h x.number x.bytes.now) (length_of x.bytes.now) b) c.front.ensures
    ∙ ap (λ i. open_output (opening S card.key h i x.bytes.now) (length_of x.bytes.now) b) c.rest_at.ensures.number
    ∙ ap (λ (xs : List ℕ). open_output (opening S card.key h c.args.i xs) (length_of xs) b) c.rest_at.ensures.bytes
    ∙ opened_drawn S g.met.C.Sealer.laws card.key h rest c.args.i p b within
    ∙ ap (λ o. (drawn o (length_of rest) b).buffer) (sym (answer_passes S (shown card) c.args.i hv hr (omega arith) (length b)))

pub returns-in_err-open_sheet-clause-buffer : goal.returns-in_err-open_sheet-clause-buffer
returns-in_err-open_sheet-clause-buffer g c = buffer_is g (goal.at.returns-in_err-open_sheet-clause-buffer g c).After-open_sheet

pub returns-clause-buffer : goal.returns-clause-buffer
returns-clause-buffer g c = buffer_is g (goal.at.returns-clause-buffer g c).After-open_sheet
