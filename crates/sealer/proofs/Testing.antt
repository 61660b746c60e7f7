-- Test answers what open does, whatever the output that open is given, for every sealing.
use Rattle.std.proofs.Common.{◌≡◌, ℕ, ◌≤◌, leb, List, length, drop, Some, None, Option, Result, refl, ap, ◌∙◌}
use Rattle.std.proofs.lemmas.Bool.{le-leb}
use Rattle.sealer.specs.declared.fault.SealFault.{SealFault}
use Rattle.sealer.specs.Seal.{Opened, scratch_bytes, first_no, opened, opened_unless, judged, tested, verdict, AnswersAsOpen}
use Rattle.sealer.specs.Sealing.{Sealing}

same_no : (f : Option SealFault) (z : Option (List ℕ)) (n : ℕ) (s o rest t : List ℕ) → (opened_unless f s (record { answer = verdict z; out = t })).answer ≡ (opened_unless f o (judged z n rest)).answer
same_no None (Some m) n s o rest t = refl
same_no None None n s o rest t = refl
same_no (Some e) z n s o rest t = refl

pub test_as_open : (S : Sealing) (k n d c s t : List ℕ) → AnswersAsOpen S k n d c s t (tested S k n d c s t).answer
test_as_open S k n d c s t = λ hs o ho.
    let t1 = le-leb scratch_bytes (length s) hs in
    let t2 = le-leb (length c) (length o) ho in
    let same : first_no S.width scratch_bytes k n d c s t ≡ first_no S.width (length c) k n d c o t = rw (t1, t2) refl in
    same_no (first_no S.width scratch_bytes k n d c s t) (S.opens k n d c t) (length c) s o (drop (length c) o) _
    ∙ ap (λ f. (opened_unless f o (judged (S.opens k n d c t) (length c) (drop (length c) o))).answer) same

-- so whatever answers as test answers as open
pub answers_as_open : (S : Sealing) (k n d c s t : List ℕ) (answer : Result (Unit {0}) SealFault) → answer ≡ (tested S k n d c s t).answer → AnswersAsOpen S k n d c s t answer
answers_as_open S k n d c s t answer e = λ hs o ho. e ∙ test_as_open S k n d c s t hs o ho
