use Rattle.std.proofs.Common.{◌≡◌, ℕ, ◌<◌, get_or}
use lib.Bits.{bit_xor}
use Rattle.spoc.proofs.mode.Duplex.xor_places.Given as goal

abbrev pub invariant-loop-i : goal.invariant-loop-i
invariant-loop-i g l = (k : ℕ) → k < l.i → get_or l.out k 0 ≡ bit_xor (get_or l.block k 0) (get_or l.self.state (get_or l.places k 0) 0)
