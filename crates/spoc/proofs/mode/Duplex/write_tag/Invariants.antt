use Rattle.std.proofs.Common.{◌≡◌, ℕ, ◌<◌, get_or}
use Rattle.spoc.proofs.mode.Duplex.write_tag.Given as goal

abbrev pub invariant-loop-i : goal.invariant-loop-i
invariant-loop-i g l = (k : ℕ) → k < l.i → get_or l.tag k 0 ≡ get_or l.self.state (get_or l.place-items k 0) 0
