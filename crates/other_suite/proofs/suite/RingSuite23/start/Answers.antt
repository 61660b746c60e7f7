use Rattle.std.proofs.Common.{◌≡◌, length, drop, ap, ◌∙◌, arith, length-drop, rules}
use Rattle.other_suite.specs.Ring.{ring}
use Rattle.other_suite.proofs.Fronts.{front_loaded}
use Rattle.other_suite.proofs.suite.RingSuite23.start.Goals as goal

pub returns : goal.returns
returns c =
    let s = c.args.state.now in
    let k = c.args.key.now in
    let n = c.args.nonce.now in
    let ls : length s ≡ 23 = search rules in
    let lk : length k ≡ 16 = search rules in
    let ln : length n ≡ 16 = search rules in
    let rest : length (drop 16 s) ≡ 7 = omega (arith, length-drop 16 s, ls) in
    c.forward.ensures
    ∙ ap ring.forward (c.xor_front.ensures ∙ front_loaded k n c.copy_from_slice.new.self c.copy_from_slice-2.new.self (drop 16 s) lk ln rest c.copy_from_slice.ensures.after c.copy_from_slice-2.ensures.after)
