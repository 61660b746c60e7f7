-- A sheet's body opened into a buffer.
use Rattle.std.proofs.Common.{◌≡◌, ℕ, ◌+◌, ◌<◌, ◌≤◌, Bool, true, false, cond, eqb, ltb, leb, List, ◌++◌, length, take, drop, Some, None, Ok, Err, Option, Result, sym, refl, ap, ◌∙◌, arith}
use Rattle.std.proofs.lemmas.Bool.Decides.{nat_tests}
use Rattle.sealer.specs.Sealing.{Sealing, Laws}
use Rattle.cards.specs.Faults.{Fault, fault, and_then}
use Rattle.cards.specs.Format.{Sheet, a_sheet, nonce}
use Rattle.cards.specs.Reader.{Card, body_or_zeros, check, drawn, unseal, place_of, sheet_opened, sheet_at, cell_of, edition_of, length_of, head_of, body_of, tag_of}
use Rattle.cards.proofs.Parsing.{body_length}
use Rattle.cards.proofs.Places.{opening, never_six}
use Rattle.reader.specs.Heads.{a_head, fields, headed, titled, NoMismatch}
use Rattle.reader.specs.Said.{open_answer, open_output}
use Rattle.reader.specs.declared.rest.SheetHead.{SheetHead}
use Rattle.reader.proofs.Opening.{opened_length}

head_told : (long : Bool) (z : Option (List ℕ)) (c e l : ℕ) (f f' : Fault) → ((m : List ℕ) → z ≡ Some m → length m ≡ l) → and_then (cond long (unseal {X = Unit {0}} z (λ _. tt) f) (Err f')) (λ _. Ok (a_head c e l)) ≡ titled (cond long (unseal z (λ m. a_sheet c e m) f) (Err f'))
head_told true (Some m) c e l f f' sized = ap (λ k. Ok (a_head c e k)) (sym (sized m refl))
head_told true None c e l f f' sized = refl
head_told false z c e l f f' sized = refl

-- the body of the sheet at the front opened into a buffer of o bytes
pub sheet_told : (S : Sealing) (L : Laws S) (key h rest : List ℕ) (i p o : ℕ) (a : Result (Unit {0}) Fault) → 9 + length_of rest + S.width ≤ length rest → a ≡ open_answer (opening S key h i rest) (length (body_of rest)) o i (p + 9) → and_then a (λ _. Ok (fields rest)) ≡ titled (sheet_at S key h i p rest o)
sheet_told S L key h rest i p o a w is =
    let size = body_length S.width rest w in
    let sized : (m : List ℕ) → opening S key h i rest ≡ Some m → length m ≡ length_of rest = λ m e. opened_length S L key (nonce h i) (h ++ head_of rest) (body_of rest) (tag_of S.width rest) m e ∙ size in
    ap (λ z. and_then z (λ _. Ok (fields rest))) (is ∙ ap (λ k. open_answer (opening S key h i rest) k o i (p + 9)) size)
    ∙ head_told (leb (length_of rest) o) (opening S key h i rest) (cell_of rest) (edition_of rest) (length_of rest) (fault 6 1 i (p + 9)) (fault 4 1 i (p + 9)) sized

-- past the questions on version, width and number
module _ (S : Sealing) (c : Card) (i : ℕ) (hv : c.version ≡ S.version) (hr : c.width ≡ S.width) (hi : i < c.count) where
  abbrev at : ℕ
  at = place_of c.width c.bytes i

  tests : (eqb c.version S.version ≡ true) × (eqb c.width S.width ≡ true) × (ltb i c.count ≡ true)
  tests = (grind (arith, nat_tests), grind (arith, nat_tests), grind (arith, nat_tests))

  pub answer_passes : (o : ℕ) → sheet_opened S c i o ≡ sheet_at S c.key (take 13 c.bytes) i at (drop at c.bytes) o
  answer_passes o = let t0 = tests.0 in let t1 = tests.1 in let t2 = tests.2 in rw (t0, t1, t2) refl

headed_refused : (a : Result Sheet Fault) (f : Fault) → titled a ≡ Err f → a ≡ Err f
headed_refused (Ok s) f e = absurd (let z : ◌≡◌ {A = ℕ} 0 1 = cc in omega arith)
headed_refused (Err f') f e = ap Err (cc)

-- under the sealer that passed the card, the tag agrees
pub no_mismatch : (S : Sealing) (c : Card) (i o : ℕ) (a : Result SheetHead Fault) → a ≡ titled (sheet_opened S c i o) → (key : List ℕ) (scratch : ℕ) (bytes : List ℕ) → check S key scratch bytes ≡ Ok c → NoMismatch a
no_mismatch S c i o (Ok x) is key scratch bytes h = tt
no_mismatch S c i o (Err f) is key scratch bytes h = λ n. never_six S key bytes scratch c h i o f (headed_refused (sheet_opened S c i o) f (sym is)) n

-- ---- a sheet drawn into a buffer

-- what an opened sheet answers
pub titled_drawn : (o : Result Sheet Fault) (n : ℕ) (b : List ℕ) → titled o ≡ headed (drawn o n b).answer
titled_drawn (Ok s) n b = refl
titled_drawn (Err f) n b = refl

buffer_drawn : (long : Bool) (z : Option (List ℕ)) (c e n i p : ℕ) (b : List ℕ) → ((m : List ℕ) → z ≡ Some m → length m ≡ n) → cond long (body_or_zeros z n ++ drop n b) b ≡ (drawn (cond long (unseal z (λ m. a_sheet c e m) (fault 6 1 i p)) (Err (fault 4 1 i p))) n b).buffer
buffer_drawn true (Some m) c e n i p b sized = ap (λ k. m ++ drop k b) (sym (sized m refl))
buffer_drawn true None c e n i p b sized = refl
buffer_drawn false z c e n i p b sized = refl

-- the buffer that the body of the sheet at the front is opened into
pub opened_drawn : (S : Sealing) (L : Laws S) (key h rest : List ℕ) (i p : ℕ) (b : List ℕ) → 9 + length_of rest + S.width ≤ length rest → open_output (opening S key h i rest) (length_of rest) b ≡ (drawn (sheet_at S key h i p rest (length b)) (length_of rest) b).buffer
opened_drawn S L key h rest i p b w =
    let sized : (m : List ℕ) → opening S key h i rest ≡ Some m → length m ≡ length_of rest = λ m e. opened_length S L key (nonce h i) (h ++ head_of rest) (body_of rest) (tag_of S.width rest) m e ∙ body_length S.width rest w in
    buffer_drawn (leb (length_of rest) (length b)) (opening S key h i rest) (cell_of rest) (edition_of rest) (length_of rest) i (p + 9) b sized
