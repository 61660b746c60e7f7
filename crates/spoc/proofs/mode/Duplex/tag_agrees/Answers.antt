use Rattle.std.proofs.Common.{length, arith, rules}
use Rattle.std.proofs.lemmas.Slice.Zip.{zip_turn, zip_end}
use Rattle.std.proofs.lemmas.List.{length_push}
use Rattle.spoc.proofs.Compare.{seen_more, seen_all}
use Rattle.spoc.proofs.Zips.{zip_inside}
use Rattle.spoc.proofs.mode.Duplex.tag_agrees.Goals as goal

pub bounds-self-place : goal.bounds-self-place
bounds-self-place g c =
    zip_inside g.S.Bijection.meaning g.S.SuiteModel.plan g.met.S.SuiteModel.sound c.args.tag.now g.row.B g.met.S.Permutation.sized c.loop-place.yielded _ _ c.next.new.self _ (search rules) (search rules) c.loop-place.yielded_by (c.in-Some.place, c.in-Some.byte) c.in-Some.is c.next.ensures.steps

pub loop-place-preserved : goal.loop-place-preserved
loop-place-preserved g c =
    let k = g.met.S.SuiteModel.sound in
    let ps = g.S.SuiteModel.plan.masked_places in
    let xs = c.loop-place.yielded in
    let t = zip_turn ps c.args.tag.now c.loop-place.yielded _ _ c.next.new.self _ (search rules) (search rules) c.loop-place.yielded_by (c.in-Some.place, c.in-Some.byte) c.in-Some.is c.next.ensures.steps in
    (search rules, search rules, seen_more c.loop-place.difference ps c.args.self.now.state c.args.tag.now (length xs) c.in-Some.place.now c.in-Some.byte.now _ (t.2 0) (t.3 0) (length_push xs (c.in-Some.place, c.in-Some.byte)) c.loop-place.invariant.2)

pub returns : goal.returns
returns g c =
    let k = g.met.S.SuiteModel.sound in
    let ps = g.S.SuiteModel.plan.masked_places in
    let n = zip_end ps c.args.tag.now c.loop-place.yielded _ _ c.next.new.self _ (search rules) (search rules) c.loop-place.yielded_by c.in-None.is c.next.ensures.steps in
    seen_all c.loop-place.difference ps c.args.self.now.state c.args.tag.now (length c.loop-place.yielded) (omega (arith, n, k.masked_count, c.requires)) (omega (arith, k.masked_count)) c.loop-place.invariant.2
