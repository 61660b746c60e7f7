-- What check, sheet and find answer, as the calls show it. Assumes nothing.
use Rattle.std.proofs.Common.{◌≡◌, ℕ, ◌<◌, ◌≤◌, Bool, true, false, ◌&&◌, leb, List, length, take, drop, Ok, Err, Result, sym, refl, ap, arith}
use Rattle.std.proofs.lemmas.Bool.Decides.{nat_tests}
use Rattle.cards.specs.Faults.{Fault}
use Rattle.cards.specs.Reader.{Card, filled}
use Rattle.reader.specs.Cards.{passes}
use Rattle.card_calls.specs.Readings.{all_are, is_wiped}

-- check passed, and filled a card
pub passed_is : (o : Result Card Fault) (c : Card) → Ok tt ≡ passes o → c ≡ filled o → o ≡ Ok c
passed_is (Ok x) c e is = ap Ok (sym is)
passed_is (Err f) c e is = absurd (let z : ◌≡◌ {A = ℕ} 0 1 = cc in omega arith)

pub refused_is : (o : Result Card Fault) (f : Fault) → Err f ≡ passes o → o ≡ Err f
refused_is (Ok c) f e = absurd (let z : ◌≡◌ {A = ℕ} 0 1 = cc in omega arith)
refused_is (Err x) f e = ap Err (cc)

-- a scratch that is too short is not wiped
pub short_is : (s : List ℕ) → length s < 16 → false ≡ is_wiped s
unfolding is_wiped
short_is s lt = let t : leb 16 (length s) ≡ false = grind (arith, nat_tests) in rw t refl

pub long_is : (s : List ℕ) {a b : Bool} → 16 ≤ length s → a ≡ all_are 0 (take 16 s) → b ≡ all_are 0xA5 (drop 16 s) → (a && b) ≡ is_wiped s
unfolding is_wiped
long_is s le ea eb = let t : leb 16 (length s) ≡ true = grind (arith, nat_tests) in rw (t, ea, eb) refl
