use Rattle.std.proofs.Common.{rules}
use Rattle.std.proofs.ByRecursion.{All-from_get_or}
use Rattle.permutations.proofs.permutation.holds_bytes.Goals as goal

pub returns : goal.returns
returns g c = record { size = search rules; small = All-from_get_or _ _ 0 (search rules) }
