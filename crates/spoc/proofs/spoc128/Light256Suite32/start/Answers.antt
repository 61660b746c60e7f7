use Rattle.std.proofs.Common.{◌≡◌, [], ◌++◌, take, drop, length, refl, ◌∙◌, append_assoc, rules}
use Rattle.spoc.specs.Spoc128.{begin_128}
use Rattle.spoc.proofs.Loads.{loads_part, loads_all, rest_is, rest_long}
use Rattle.spoc.proofs.spoc128.Light256Suite32.start.Goals as goal

pub returns : goal.returns
unfolding begin_128
returns c =
    let k = c.args.key.now in
    let n = c.args.nonce.now in
    let lk : length k ≡ 16 = search rules in
    let ln : length n ≡ 16 = search rules in
    let n0 = loads_part 0 8 8 c.args.state.now c.load_part.new.state [] _ (take 8 n) c.load_part.ensures refl (search rules) (search rules) refl in
    let k0 = loads_part 8 8 16 c.load_part.new.state c.load_part-2.new.state _ _ (take 8 k) c.load_part-2.ensures n0 (search rules) (search rules) refl in
    let n1 = loads_part 16 8 24 c.load_part-2.new.state c.load_part-3.new.state _ _ (drop 8 n) c.load_part-3.ensures k0 (rest_is 8 8 n ln) (rest_long 8 8 n ln) refl in
    let k1 = loads_part 24 8 32 c.load_part-3.new.state c.load_part-4.new.state _ _ (drop 8 k) c.load_part-4.ensures n1 (rest_is 8 8 k lk) (rest_long 8 8 k lk) refl in
    loads_all 32 c.load_part-4.new.state _ (search rules) k1
    ∙ append_assoc (take 8 n ++ take 8 k) (drop 8 n) (drop 8 k)
    ∙ append_assoc (take 8 n) (take 8 k) (drop 8 n ++ drop 8 k)
