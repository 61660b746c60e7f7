use Rattle.std.proofs.Common.{◌≡◌, ◌+◌, length, sym, ap, ◌∙◌, arith}
use Rattle.std.proofs.lemmas.Result.{err_from_is_err_and}
use Rattle.std.specs.declared.result.Result.TheVariants as result
use Rattle.cards.specs.Faults.{fault, told, of_card, of_record}
use Rattle.cards.specs.Reader.{length_of}
use Rattle.cards.proofs.Counting.{total, total_refused, total_sheet, total_end, total_left}
use Rattle.sealer.specs.Sealing.{Sealing}
use Rattle.reader.specs.Said.{of_part}
use Rattle.reader.proofs.Trying.{read_refused, walked_sheet, walked_end}
use Rattle.reader.proofs.walk.walk_records.Given as given
use Rattle.reader.proofs.walk.walk_records.Goals as goal

abbrev cipher : given.Over → Sealing
cipher g = g.C.Sealer.meaning

pub returns-in_err-body : goal.returns-in_err-body
returns-in_err-body g c =
    let res = err_from_is_err_and c.from_residual.result c.from_residual.ensures.1 in
    let f = of_record c.in_err-body.field-0.0 in
    let key = c.args.key.now in
    let rest = c.loop-body.rest in
    ap told (res.1 ∙ ap result.Err res.2)
    ∙ sym (total_refused (cipher g) key.key.now key.header.now rest.number rest.place rest.bytes.now f (read_refused (cipher g) key.key.now key.header.now rest.number rest.place rest.bytes.now f c.in_err-body.ensures))
    ∙ c.loop-body.invariant.1

pub loop-body-preserved : goal.loop-body-preserved
loop-body-preserved g c =
    let key = c.args.key.now in
    let rest = c.loop-body.rest in
    let x = c.in-Sheet in
    let s = walked_sheet (cipher g) key.key.now key.header.now rest.number rest.place rest.bytes.now x.cell x.edition x.body.now x.tag.now (sym (ap (λ r. result.Ok (of_part r)) x.is) ∙ c.in_ok-body.ensures) in
    let k = 9 + length x.body.now + c.WIDTH.result in
    let size : k ≡ 9 + length_of rest.bytes.now + g.C.Sealer.meaning.width = omega (arith, s.1.body, (c.WIDTH.ensures ∙ g.met.C.Sealer.width_is)) in (
      omega (arith, s.0, c.after-rest.ensures.number),
      ap (λ n. total (cipher g) key.key.now key.header.now n c.after-rest.result.place c.after-rest.result.bytes.now) c.after-rest.ensures.number
          ∙ ap (λ p. total (cipher g) key.key.now key.header.now (rest.number + 1) p c.after-rest.result.bytes.now) c.after-rest.ensures.place
          ∙ ap (total (cipher g) key.key.now key.header.now (rest.number + 1) (rest.place + k)) c.after-rest.ensures.bytes
          ∙ sym (total_sheet (cipher g) key.key.now key.header.now rest.number rest.place k rest.bytes.now s.2.0 s.0 size s.2.1)
          ∙ c.loop-body.invariant.1,
    )

pub returns-then-rest-size : goal.returns-then-rest-size
returns-then-rest-size g c =
    let key = c.args.key.now in
    let rest = c.loop-body.rest in
    let e = walked_end (cipher g) key.key.now key.header.now rest.number rest.place rest.bytes.now c.in-End.tag.now (sym (ap (λ r. result.Ok (of_part r)) c.in-End.is) ∙ c.in_ok-body.ensures) in
    let size : 9 + c.WIDTH-size.result ≡ 9 + g.C.Sealer.meaning.width = ap (λ r. 9 + r) (c.WIDTH-size.ensures ∙ g.met.C.Sealer.width_is) in
    ap (λ f. result.Err (of_card f)) c.at.ensures
    ∙ ap (λ k. result.Err (fault 15 3 rest.number (rest.place + k))) size
    ∙ sym (total_left (cipher g) key.key.now key.header.now rest.number rest.place rest.bytes.now e.1 (omega (arith, size, c.if-rest-size.true)))
    ∙ c.loop-body.invariant.1

pub returns-in-End : goal.returns-in-End
returns-in-End g c =
    let key = c.args.key.now in
    let rest = c.loop-body.rest in
    let e = walked_end (cipher g) key.key.now key.header.now rest.number rest.place rest.bytes.now c.in-End.tag.now (sym (ap (λ r. result.Ok (of_part r)) c.in-End.is) ∙ c.in_ok-body.ensures) in
    sym (total_end (cipher g) key.key.now key.header.now rest.number rest.place rest.bytes.now e.1 (omega (arith, e.0.whole, e.0.body, (c.WIDTH-size.ensures ∙ g.met.C.Sealer.width_is), c.if-rest-size.false)))
    ∙ c.loop-body.invariant.1
