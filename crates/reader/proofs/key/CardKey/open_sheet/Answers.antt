use Rattle.std.proofs.Common.{◌≡◌, ◌+◌, ◌++◌, ℕ, List, length, Ok, ap, ◌∙◌, sym}
use Rattle.sealer.specs.Sealing.{Sealing, Laws}
use Rattle.cards.specs.Faults.{and_then, passed}
use Rattle.cards.specs.Format.{nonce}
use Rattle.cards.specs.Reader.{sheet_at, head_of, body_of, tag_of}
use Rattle.reader.specs.Heads.{fields, titled}
use Rattle.reader.specs.Said.{open_answer}
use Rattle.reader.proofs.Bodies.{sheet_told}
use Rattle.reader.proofs.key.CardKey.open_sheet.Given as given
use Rattle.reader.proofs.key.CardKey.open_sheet.Goals as goal
use Rattle.reader.proofs.key.CardKey.open_sheet.Goals.{After-open}

abbrev cipher : given.Over → Sealing
cipher g = g.C.Sealer.meaning

laws : (g : given.Over) → Laws (cipher g)
laws g = g.met.C.Sealer.laws

answer_is : (g : given.Over) (c : After-open g) → and_then (passed c.open.result) (λ _. Ok (fields c.args.rest.now.bytes.now)) ≡ titled (sheet_at (cipher g) c.args.self.now.key.now c.args.self.now.header.now c.args.rest.now.number c.args.rest.now.place c.args.rest.now.bytes.now (length c.args.buffer.now))
answer_is g c =
    let key = c.args.self.now in
    let rest = c.args.rest.now in
    let o = length c.args.buffer.now in
    let tag_is = c.body_and_tag.ensures.tag ∙ ap (λ r. tag_of r rest.bytes.now) (c.WIDTH.ensures ∙ g.met.C.Sealer.width_is) in
    sheet_told (cipher g) (laws g) key.key.now key.header.now rest.bytes.now rest.number rest.place o (passed c.open.result) c.requires
    (c.open.ensures.answer
    ∙ ap (λ (b : List ℕ). open_answer ((cipher g).opens key.key.now (nonce key.header.now rest.number) (key.header.now ++ head_of rest.bytes.now) b c.body_and_tag.result.1.now) (length b) o rest.number (rest.place + 9)) c.body_and_tag.ensures.body
    ∙ ap (λ (t : List ℕ). open_answer ((cipher g).opens key.key.now (nonce key.header.now rest.number) (key.header.now ++ head_of rest.bytes.now) (body_of rest.bytes.now) t) (length (body_of rest.bytes.now)) o rest.number (rest.place + 9)) tag_is)

pub returns-clause-answer : goal.returns-clause-answer
returns-clause-answer g c =
    let at = (goal.at.returns-clause-answer g c).After-open in
    ap Ok c.head.ensures.fields ∙ sym (ap (λ a. and_then (passed a) (λ _. Ok (fields c.args.rest.now.bytes.now))) c.in_ok-open.was) ∙ answer_is g at
