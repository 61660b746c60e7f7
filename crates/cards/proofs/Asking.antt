-- The questions on a sheet.
use Rattle.std.proofs.Common.{◌≡◌, ℕ, ◌<◌, ◌≤◌, Ok, Err, Result, refl, arith}
use Rattle.std.proofs.lemmas.Bool.Decides.{nat_tests}
use Rattle.cards.specs.Faults.{Fault}
use Rattle.cards.specs.Questions.{sheet_questions, goes_on}
use Rattle.cards.specs.declared.fault.RecordNo.{RecordNo}

pub questions_passed : (n b : ℕ) → sheet_questions n b ≡ Ok tt → (n < 512) × (b ≤ 4096)
questions_passed n b h = (grind (arith, nat_tests), grind (arith, nat_tests))

pub passes_questions : (n b : ℕ) → n < 512 → b ≤ 4096 → sheet_questions n b ≡ Ok tt
passes_questions n b hn hb = grind (arith, nat_tests)

-- a call that goes on has passed them
pub went_on : {X : Type 0} (q : Result (Unit {0}) RecordNo) (f : RecordNo → Fault) (x : Result X Fault) (y : X) → goes_on q f x ≡ Ok y → (q ≡ Ok tt) × (x ≡ Ok y)
went_on (Ok tt) f x y h = (refl, h)
went_on (Err refusal) f x y h = absurd (let z : ◌≡◌ {A = ℕ} 0 1 = cc in omega arith)
