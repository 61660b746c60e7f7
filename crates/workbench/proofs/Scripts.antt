-- Scripts that are read and answered line by line.
use Rattle.std.proofs.Common.{◌≡◌, ℕ, suc, ◌-◌, ◌<◌, Bool, true, false, cond, ◌&&◌, nat_lt, slice_index, take, List, [], ◌∷◌, ◌++◌, length, Some, None, IfSome, Ok, Err, Option, Result, sym, refl, ap, ◌∙◌, subst, inl, arith, append-nil, append_assoc, ◌==◌}
use Rattle.std.proofs.lemmas.Bool.Decides.{nat_tests}
use Rattle.std.specs.Io.BufRead.{first_piece, drop_through, strip_last, take_through}
use Rattle.std.specs.Io.Iter.{YieldsKnownPiece}
use Rattle.std.specs.Io.KnownBytes.{Appends, IsAtEnd}
use Rattle.std.proofs.KnownBytes.{Appends-nil, Appends-trans}
use Rattle.streams.specs.Fronts.{AppendsFront, Writes}
use Rattle.streams.proofs.Known.{fronts, fronts_more}
use Rattle.card_calls.specs.Writings.{Draft}
use Rattle.workbench.specs.Printed.{Turn, line_turn, MayTurn}
use Rattle.workbench.specs.Scripts.{lines_of, onto_first, MayPrintAll}

-- ---- the first line

-- the bytes before the first line feed
abbrev before : List ℕ → List ℕ
before [] = []
before (b ∷ bs) = cond (b == 10) [] (b ∷ before bs)

pulled : (b : Bool) (x : ℕ) (l m : List ℕ) → cond b (x ∷ l) (x ∷ m) ≡ x ∷ cond b l m
pulled true x l m = refl
pulled false x l m = refl

-- strip_last, by whether there is a byte, and where the last one is
abbrev strip_by : Bool → ℕ → List ℕ → List ℕ
strip_by some n l = cond (some && (slice_index l n == 10)) (take n l) l

strip_more : (x : ℕ) (l : List ℕ) → (x == 10) ≡ false → strip_last 10 (x ∷ l) ≡ x ∷ strip_last 10 l
strip_more x [] other = ap (λ b. cond b [] (x ∷ [])) other
strip_more x (y ∷ ys) other =
    let l = y ∷ ys in
    let k = length l - 1 in
    let last : length (x ∷ l) - 1 ≡ suc k = omega arith in
    let some : nat_lt 0 (length (x ∷ l)) ≡ true = grind (arith, nat_tests) in
    let more : nat_lt 0 (length l) ≡ true = grind (arith, nat_tests) in
    ap (λ n. strip_by (nat_lt 0 (length (x ∷ l))) n (x ∷ l)) last
    ∙ ap (λ b. strip_by b (suc k) (x ∷ l)) some
    ∙ pulled (slice_index l k == 10) x (take k l) l
    ∙ ap (λ b. x ∷ strip_by b k l) (sym more)

strip_only : (x : ℕ) → (x == 10) ≡ true → strip_last 10 (x ∷ []) ≡ []
strip_only x same = ap (λ b. cond b [] (x ∷ [])) same

piece_of : (x : ℕ) (l m : List ℕ) (b : Bool) → (x == 10) ≡ b → strip_last 10 l ≡ m → strip_last 10 (cond b (x ∷ []) (x ∷ l)) ≡ cond b [] (x ∷ m)
piece_of x l m true same is = strip_only x same
piece_of x l m false other is = strip_more x l other ∙ ap (λ (k : List ℕ). x ∷ k) is

piece : (xs : List ℕ) → first_piece 10 xs ≡ before xs
piece [] = refl
piece (x ∷ xs) = piece_of x (take_through 10 xs) (before xs) (x == 10) refl (piece xs)

-- a byte before lines, the first of which is known
onto_known : (x : ℕ) (xs p : List ℕ) (b : Bool) → onto_first x (lines_of xs) ≡ (x ∷ p) ∷ lines_of (drop_through 10 xs)
    → cond b ([] ∷ lines_of xs) (onto_first x (lines_of xs)) ≡ cond b [] (x ∷ p) ∷ lines_of (cond b xs (drop_through 10 xs))
onto_known x xs p true is = refl
onto_known x xs p false is = is

lines_more : (x : ℕ) (xs : List ℕ) → lines_of (x ∷ xs) ≡ before (x ∷ xs) ∷ lines_of (drop_through 10 (x ∷ xs))
lines_more x [] = onto_known x [] [] (x == 10) refl
lines_more x (y ∷ ys) = onto_known x (y ∷ ys) (before (y ∷ ys)) (x == 10) (ap (onto_first x) (lines_more y ys))

pub first_of : (xs : List ℕ) → 0 < length xs → lines_of xs ≡ first_piece 10 xs ∷ lines_of (drop_through 10 xs)
first_of [] some = absurd (omega arith)
first_of (x ∷ xs) some = lines_more x xs ∙ ap (λ (l : List ℕ). l ∷ lines_of (drop_through 10 (x ∷ xs))) (sym (piece (x ∷ xs)))

-- ---- a run

-- what is left of a script goes on from a card, after a text
abbrev pub GoesOn : List ℕ → Option Draft → List ℕ → List ℕ → Type 0
GoesOn script now rest done = (text : List ℕ) → MayPrintAll now (lines_of rest) text → MayPrintAll None (lines_of script) (done ++ text)

pub goes_on : (script : List ℕ) (now : Option Draft) (rest done : List ℕ) (line : List ℕ) (t : Turn) → 0 < length rest → line ≡ first_piece 10 rest → MayTurn now line t
    → GoesOn script now rest done → GoesOn script t.card (drop_through 10 rest) (done ++ t.text)
goes_on script now rest done line t some is turn h = λ text m.
    let whole : MayPrintAll now (line ∷ lines_of (drop_through 10 rest)) (t.text ++ text) = (t, text, turn, m, refl) in
    let split : line ∷ lines_of (drop_through 10 rest) ≡ lines_of rest = ap (λ (l : List ℕ). l ∷ lines_of (drop_through 10 rest)) is ∙ sym (first_of rest some) in
    subst (MayPrintAll None (lines_of script)) (sym (append_assoc done t.text text)) (h (t.text ++ text) (subst (λ ls. MayPrintAll now ls (t.text ++ text)) split whole))

-- what lines print where no memory fails
some_text : (o : Option Draft) (ls : List (List ℕ)) → (text : List ℕ) × MayPrintAll o ls text
some_text o [] = ([], refl)
some_text o (line ∷ ls) = let t = line_turn o line in let r = some_text t.card ls in (t.text ++ r.0, (t, r.0, inl refl, r.1, refl))

-- a text that the script may print, of which the text so far is a front
pub has_more : (script : List ℕ) (now : Option Draft) (rest done : List ℕ) → GoesOn script now rest done → (more : List ℕ) × MayPrintAll None (lines_of script) (done ++ more)
has_more script now rest done h = let m = some_text now (lines_of rest) in (m.0, h m.0 m.1)

pub ends : (script : List ℕ) (now : Option Draft) (rest done : List ℕ) → rest ≡ [] → GoesOn script now rest done → MayPrintAll None (lines_of script) done
ends script now rest done none h =
    subst (MayPrintAll None (lines_of script)) (append-nil done) (h [] (subst (λ xs. MayPrintAll now (lines_of xs) []) (sym none) refl))

-- ---- the same where the script's bytes may be unknown: left is what the reader has left

-- where a run stands between two lines
abbrev pub StandsAt : Option (List ℕ) → Option (List ℕ) → Option (List ℕ) → Option (List ℕ) → Option Draft → Type 0
StandsAt known left old now card = IfSome known (λ script. (rest : List ℕ) × (done : List ℕ) × (left ≡ Some rest) × Appends old now done × GoesOn script card rest done)

-- what a run promises
abbrev pub Ran : {E : Type 0} → Option (List ℕ) → Result (Unit {0}) E → Option (List ℕ) → Option (List ℕ) → Type 0
Ran known r old new = IfSome known (λ script. (text : List ℕ) × MayPrintAll None (lines_of script) text × Writes r old new text)

pub begun : (known left old : Option (List ℕ)) (card : Option Draft) → left ≡ known → card ≡ None → StandsAt known left old old card
begun None left old card is none = tt
begun (Some script) left old card is none = (script, [], is, Appends-nil old, λ text m. subst (λ o. MayPrintAll o (lines_of script) text) none m)

-- a run that fails between two lines
pub failed : {E : Type 0} (known left old now : Option (List ℕ)) (card : Option Draft) (r : Result (Unit {0}) E) (e : E) → r ≡ Err e
    → StandsAt known left old now card → Ran known r old now
failed None left old now card r e is h = tt
failed (Some script) left old now card r e is (rest, done, _, written, goes) =
    let more = has_more script card rest done goes in
    let text = done ++ more.0 in
    (text, more.1, subst (λ x. Writes x old now text) (sym is) (fronts old now text done more.0 refl written))

-- one that comes to the end
pub ended : (known left old now : Option (List ℕ)) (card : Option Draft) → IsAtEnd left → StandsAt known left old now card
    → IfSome known (λ script. (text : List ℕ) × MayPrintAll None (lines_of script) text × Appends old now text)
ended None left old now card end h = tt
ended (Some script) left old now card end (rest, done, is, written, goes) = (done, ends script card rest done (subst IsAtEnd is end) goes, written)

-- the line that was read of known bytes
piece_known : {X E : Type 0} (bytes : X → List ℕ) (byte : ℕ) (left left' : Option (List ℕ)) (item : Result X E) (x : X) (rest : List ℕ)
    → byte ≡ 10 → item ≡ Ok x → left ≡ Some rest → YieldsKnownPiece {E = E} bytes (first_piece byte) byte left (Some item) left'
    → ((0 < length rest) × (bytes x ≡ first_piece 10 rest)) × (left' ≡ Some (drop_through 10 rest))
piece_known {E = E} bytes byte left left' item x rest ten ok is h =
    subst (λ o. YieldsKnownPiece {E = E} bytes (first_piece 10) 10 o (Some (Ok x)) left') is
    (subst (λ i. YieldsKnownPiece {E = E} bytes (first_piece 10) 10 left (Some i) left') ok
    (subst (λ n. YieldsKnownPiece {E = E} bytes (first_piece n) n left (Some item) left') ten h))

module _ {X E : Type 0} (bytes : X → List ℕ) (byte : ℕ) (left left' old mid new : Option (List ℕ)) (card : Option Draft) (item : Result X E) (x : X) (line : List ℕ) (t : Turn)
    (ten : byte ≡ 10) (ok : item ≡ Ok x) (read : YieldsKnownPiece {E = E} bytes (first_piece byte) byte left (Some item) left') (same : line ≡ bytes x) (turn : MayTurn card line t) where
  -- a line that is answered
  pub answered : (known : Option (List ℕ)) → Appends mid new t.text → StandsAt known left old mid card → StandsAt known left' old new t.card
  answered None out h = tt
  answered (Some script) out (rest, done, is, written, goes) =
      let p = piece_known bytes byte left left' item x rest ten ok is read in
      (drop_through 10 rest, done ++ t.text, p.1, Appends-trans old mid new done t.text written out, goes_on script card rest done line t p.0.0 (same ∙ p.0.1) turn goes)

  -- one whose answer can't be written
  pub unwritten : {F : Type 0} (known : Option (List ℕ)) (r : Result (Unit {0}) F) (e : F) → r ≡ Err e → AppendsFront mid new t.text
      → StandsAt known left old mid card → Ran known r old new
  unwritten None r e is out h = tt
  unwritten (Some script) r e is out (rest, done, at, written, goes) =
      let p = piece_known bytes byte left left' item x rest ten ok at read in
      let next = goes_on script card rest done line t p.0.0 (same ∙ p.0.1) turn goes in
      let more = has_more script t.card (drop_through 10 rest) (done ++ t.text) next in
      let text = (done ++ t.text) ++ more.0 in
      (text, more.1, subst (λ z. Writes z old new text) (sym is) (fronts_more old mid new text done t.text more.0 (append_assoc done t.text more.0) written out))
