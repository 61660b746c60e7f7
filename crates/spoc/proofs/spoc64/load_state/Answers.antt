use Rattle.std.proofs.Common.{◌≡◌, [], take, drop, length, sym, refl, ◌∙◌, rules}
use Rattle.std.proofs.lemmas.List.{drop-drop}
use Rattle.spoc.specs.Spoc64.{loaded}
use Rattle.spoc.proofs.Loads.{loads_part, loads_all, six_parts, rest_is, rest_long}
use Rattle.spoc.proofs.spoc64.load_state.Goals as goal

pub returns : goal.returns
unfolding loaded
returns c =
    let k = c.args.key.now in
    let n = c.args.nonce.now in
    let lk : length k ≡ 16 = search rules in
    let ln : length n ≡ 16 = search rules in
    let a = loads_part 0 4 4 c.args.state.now c.load_part.new.state [] _ (take 4 (take 8 n)) c.load_part.ensures refl (search rules) (search rules) refl in
    let b = loads_part 4 2 6 c.load_part.new.state c.load_part-2.new.state _ _ (drop 6 (take 8 k)) c.load_part-2.ensures a (search rules) (search rules) refl in
    let d = loads_part 6 6 12 c.load_part-2.new.state c.load_part-3.new.state _ _ (take 6 (take 8 k)) c.load_part-3.ensures b (search rules) (search rules) refl in
    let e = loads_part 12 4 16 c.load_part-3.new.state c.load_part-4.new.state _ _ (drop 4 (take 8 n)) c.load_part-4.ensures d (search rules) (search rules) refl in
    let f = loads_part 16 2 18 c.load_part-4.new.state c.load_part-5.new.state _ _ (drop 6 (drop 8 k)) c.load_part-5.ensures e (rest_is 14 2 k lk ∙ sym (drop-drop 6 8 k)) (rest_long 14 2 k lk) refl in
    let all = loads_part 18 6 24 c.load_part-5.new.state c.load_part-6.new.state _ _ (take 6 (drop 8 k)) c.load_part-6.ensures f (search rules) (search rules) refl in
    loads_all 24 c.load_part-6.new.state _ (search rules) all ∙ six_parts (take 4 (take 8 n)) (drop 6 (take 8 k)) (take 6 (take 8 k)) (drop 4 (take 8 n)) (drop 6 (drop 8 k)) (take 6 (drop 8 k))
