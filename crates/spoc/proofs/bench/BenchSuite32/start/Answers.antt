use Rattle.std.proofs.Common.{[], refl, rules}
use Rattle.spoc.proofs.Loads.{loads_part, loads_all}
use Rattle.spoc.proofs.bench.BenchSuite32.start.Goals as goal

pub returns : goal.returns
returns c =
    let key = loads_part 0 16 16 c.args.state.now c.load_part.new.state [] _ c.args.key.now c.load_part.ensures refl refl (search rules) refl in
    let all = loads_part 16 16 32 c.load_part.new.state c.load_part-2.new.state _ _ c.args.nonce.now c.load_part-2.ensures key refl (search rules) refl in
    loads_all 32 c.load_part-2.new.state _ (search rules) all
