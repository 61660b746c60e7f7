use Rattle.std.proofs.Common.{◌≡◌, ◌-◌, length, take, take_all, drop, sym, ◌∙◌, arith, rules, length-drop}
use Rattle.std.proofs.lemmas.List.{length_push}
use Rattle.std.proofs.lemmas.Slice.Zip.{zip_turn}
use Rattle.permutations.specs.Light.{light_192}
use Rattle.permutations.specs.Lights.{bijective_192}
use Rattle.spoc.specs.Rows.{xors_zeros}
use Rattle.spoc.specs.Spoc64.{masked_64, spoc_64}
use Rattle.spoc.specs.Starts.{sound_64}
use Rattle.spoc.proofs.Masks.{absorb_more}
use Rattle.spoc.proofs.spoc64.mask_nonce.Goals as goal

pub loop-place-init : goal.loop-place-init
loop-place-init c =
    let long : length c.args.state.now ≡ 24 = search rules in
    (search rules, search rules, sym (xors_zeros c.args.state.now 24 (omega (arith, long))))

pub loop-place-preserved : goal.loop-place-preserved
loop-place-preserved c =
    let vs = drop 8 c.args.nonce.now in
    let nonce : length c.args.nonce.now ≡ 16 = search rules in
    let wide : length vs ≡ 8 = omega (arith, nonce, length-drop 8 c.args.nonce.now) in
    let xs = c.loop-place.yielded in
    let part : c.into_iter-place-iterator.result.b.rest.now ≡ take (length c.args.nonce.now - 8) vs = search rules in
    let second = part ∙ take_all (length c.args.nonce.now - 8) vs (omega (arith, nonce, wide)) in
    let t = zip_turn masked_64 vs xs _ _ c.next.new.self _ (search rules) second c.loop-place.yielded_by (c.in-Some.place, c.in-Some.byte) c.in-Some.is c.next.ensures.steps in
    (search rules, search rules, absorb_more light_192 spoc_64 (sound_64 bijective_192) c.args.state.now vs c.loop-place.state (length xs) c.in-Some.place.now c.in-Some.byte.now _ (omega (arith, wide)) (omega (arith, t.1, wide)) (t.2 0) (t.3 0) (length_push xs (c.in-Some.place, c.in-Some.byte)) c.loop-place.invariant.2)
