use Rattle.std.proofs.Common.{Err, ap, ◌∙◌}
use Rattle.std.proofs.lemmas.Result.{err_from_is_err_and}
use Rattle.cards.specs.Faults.{of_sealed}
use Rattle.reader.specs.Said.{said, of_part}
use Rattle.reader.proofs.Trying.{accepted_is, refused_is, sealed_lengths}
use Rattle.reader.proofs.key.CardKey.read.Goals as goal

pub test-requires-clause-lengths : goal.test-requires-clause-lengths
test-requires-clause-lengths g c =
    let rest = c.args.rest.now in
    let l = sealed_lengths c.WIDTH.result rest.number rest.place rest.bytes.now (of_part c.in_ok-record.record) c.sealed.result.0.now c.sealed.result.1.now c.in_ok-record.ensures c.sealed.ensures.body c.sealed.ensures.tag in
    (l.0, l.1 ∙ (c.WIDTH.ensures ∙ g.met.C.Sealer.width_is))

pub returns-in_err-test : goal.returns-in_err-test
returns-in_err-test g c =
    let res = err_from_is_err_and c.from_residual-in_err-test.result c.from_residual-in_err-test.ensures.1 in
    let key = c.args.self.now in
    let rest = c.args.rest.now in
    ap said (res.1 ∙ ap Err res.2)
    ∙ refused_is g.C.Sealer.meaning key.key.now key.header.now rest.number rest.place rest.bytes.now (of_part c.in_ok-record.record) c.sealed.result.0.now c.sealed.result.1.now c.WIDTH.result
    (of_sealed c.in_err-test.field-0.0) c.in_ok-record.ensures (c.WIDTH.ensures ∙ g.met.C.Sealer.width_is) c.sealed.ensures.body c.sealed.ensures.tag c.in_err-test.ensures

pub returns : goal.returns
returns g c =
    let key = c.args.self.now in
    let rest = c.args.rest.now in
    accepted_is g.C.Sealer.meaning key.key.now key.header.now rest.number rest.place rest.bytes.now (of_part c.in_ok-record.record) c.sealed.result.0.now c.sealed.result.1.now c.WIDTH.result
    c.in_ok-record.ensures (c.WIDTH.ensures ∙ g.met.C.Sealer.width_is) c.sealed.ensures.body c.sealed.ensures.tag c.in_ok-test.ensures
