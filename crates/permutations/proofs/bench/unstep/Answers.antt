use Rattle.std.proofs.Common.{rules}
use Rattle.permutations.specs.Benches.{backward_made}
use Rattle.permutations.proofs.bench.unstep.Goals as goal

pub returns : goal.returns
returns c = backward_made c.args.state.now c.xor_into.new.out c.copy_from_slice.new.self (search rules) c.xor_into.ensures c.copy_from_slice.ensures.after
