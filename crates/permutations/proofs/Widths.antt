-- A word of at least one byte. Assumes nothing.
use Rattle.std.proofs.Common.{ℕ, ◌*◌, ◌^◌, ◌≤◌, arith, pow_mono}

pub byte_fits : (w : ℕ) → 1 ≤ w → 256 ≤ 2 ^ (8 * w)
byte_fits w some = let e : 8 ≤ 8 * w = omega arith in let big : 2 ^ 8 ≤ 2 ^ (8 * w) = pow_mono e in omega arith
