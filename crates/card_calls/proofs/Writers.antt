-- A card that is written line by line. Assumes nothing.
use Rattle.std.proofs.Common.{◌≡◌, ℕ, zero, suc, ◌+◌, ◌<◌, ◌≤◌, min, Bool, true, false, cond, List, [], ◌∷◌, ◌++◌, map, length, get_or, take, IfOk, Ok, Err, vec_items, string_bytes, codes, Result, Vec, String, sym, refl, ap, ◌∙◌, ap₂, add-one, arith}
use Rattle.std.proofs.lemmas.List.{append_assoc, append-nil, map-append, take_all, take_more}
use Rattle.std.specs.declared.alloc.AllocError.{AllocError}
use Rattle.std.specs.declared.alloc.Global.{Global}
use Rattle.sealer.specs.Sealing.{Sealing}
use Rattle.sealers.specs.declared.SealerName.{SealerName}
use Rattle.cards.specs.Faults.{Fault, of_card, told}
use Rattle.cards.specs.Plain.{Plain, start, start_medium, left_by, started}
use Rattle.cards.specs.Runs.{Call, run}
use Rattle.cards.specs.declared.CardFault.{CardFault}
use Rattle.writer.specs.Replay.{plain_call, Ran}
use Rattle.writer.specs.Stands.{Stands, Starts}
use Rattle.writer.specs.declared.Call as code
use Rattle.writer.specs.declared.Writer.{Writer}
use Rattle.card_calls.specs.Readings.{refused_line}
use Rattle.sealers.specs.Names.{cipher_of}
use Rattle.card_calls.specs.Writings.{Draft, Written, step_call, draft_in, with_call, call_line, call_lines, write_on, written, draft_over, draft_text}
use Rattle.card_calls.specs.declared.writing.Draft as code_draft
use Rattle.card_calls.specs.declared.writing.Step.{Step}

-- start's answer
pub started_as : {C : Type 0} (x : Writer C) (m : List ℕ) (o : Result Plain Fault) → Starts (Ok x) m o → (w : Plain) × (o ≡ Ok w) × Stands x m w
started_as x m (Ok w) s = (w, refl, s)
started_as x m (Err f) s = absurd s

pub refused_as : (C : Type 0) (e : CardFault) (m : List ℕ) (o : Result Plain Fault) → Starts {C = C} (Err e) m o → o ≡ Err (of_card e)
refused_as C e m (Ok w) s = absurd s
refused_as C e m (Err f) s = ap Err (sym s)

-- the medium stays where start is refused
pub medium_stays : (S : Sealing) (k : List ℕ) (number : ℕ) (m mm : List ℕ) (f : Fault) → start S k number m ≡ Err f → mm ≡ start_medium S k number m → mm ≡ m
medium_stays S k number m mm f e is = is ∙ ap (λ o. left_by o (started S k number m).medium m) e

-- the calls, with an answer slot for each
module _ (S : Sealing) (w : Plain) (cs : List code.Call) (n slots : ℕ) (long : length cs ≤ slots) (before after front : List (Result ℕ CardFault)) (mm : List ℕ)
    (ran : Ran n before after mm (run S w (map plain_call (take slots cs)))) (is : front ≡ take n after) where
  all : take slots cs ≡ cs
  all = take_all slots cs long

  pub lines_are : call_lines (map plain_call cs) (map told front) ≡ call_lines (map plain_call cs) (run S w (map plain_call cs)).answers
  lines_are = ap (call_lines (map plain_call cs)) (ap (map told) is ∙ ran.answers ∙ ap (λ (l : List code.Call). (run S w (map plain_call l)).answers) all)

  pub medium_is : mm ≡ (run S w (map plain_call cs)).medium
  medium_is = ran.medium_is ∙ ap (λ (l : List code.Call). (run S w (map plain_call l)).medium) all

-- what was written, by start's answer
module _ (S : Sealing) (d : Draft) (m l mm : List ℕ) where
  pub written_started : (w : Plain) (cs : List Call) → start S d.key d.number m ≡ Ok w → cs ≡ d.calls → l ≡ codes "started\n" ++ call_lines cs (run S w cs).answers → mm ≡ (run S w cs).medium → ◌≡◌ {A = Written} record { lines = l; medium = mm } (write_on S d m)
  unfolding write_on
  written_started w cs e ec el em =
      ap₂ (λ x y. record { lines = x; medium = y }) el em ∙ ap (λ (z : List Call). written S z m (Ok w)) ec ∙ ap (written S d.calls m) (sym e)

  pub written_refused : (f : Fault) → start S d.key d.number m ≡ Err f → l ≡ refused_line f → mm ≡ m → ◌≡◌ {A = Written} record { lines = l; medium = mm } (write_on S d m)
  unfolding write_on
  written_refused f e el em = ap₂ (λ x y. record { lines = x; medium = y }) el em ∙ ap (written S d.calls m) (sym e)

-- more that holds of a text that is made
pub made_and : (r : Result (String Global) AllocError) {p q : List ℕ} {E : Type 0} → IfOk r (λ t. string_bytes t ≡ p) → p ≡ q → E → IfOk r (λ t. (string_bytes t ≡ q) × E)
made_and (Ok t) m e x = (m ∙ e, x)
made_and (Err a) m e x = tt

pub made_so : (r : Result (String Global) AllocError) {p : List ℕ} (P : List ℕ → Type 0) → IfOk r (λ t. string_bytes t ≡ p) → ((l : List ℕ) → l ≡ p → P l) → IfOk r (λ t. P (string_bytes t))
made_so (Ok t) P m f = f (string_bytes t) m
made_so (Err a) P m f = tt

-- one call more
pub added : (d : code_draft.Draft) (steps : Vec Step Global) (x : Step) (b : Bool) → vec_items steps ≡ cond b (vec_items d.steps ++ x ∷ []) (vec_items d.steps) → draft_in (record { sealer = d.sealer; key = d.key; number = d.number; size = d.size; fill = d.fill; steps = steps }) ≡ cond b (with_call (draft_in d) (step_call x)) (draft_in d)
unfolding draft_in with_call
added d steps x true e = ap (λ (cs : List Call). record { sealer = d.sealer; key = vec_items d.key; number = d.number; size = d.size; fill = d.fill; calls = cs }) (ap (map step_call) e ∙ map-append step_call (vec_items d.steps) (x ∷ []))
added d steps x false e = ap (λ (cs : List Step). record { sealer = d.sealer; key = vec_items d.key; number = d.number; size = d.size; fill = d.fill; calls = map step_call cs }) e

-- a list that is mapped element by element
pub mapped_more : {A B C : Type 0} (f : A → C) (g : B → C) (xs ys : List A) (zs : List B) (i : ℕ) (x : A) (z : B) → map f xs ≡ map g (take i zs) → i < length zs → z ≡ get_or zs i z → f x ≡ g z → ys ≡ xs ++ x ∷ [] → map f ys ≡ map g (take (i + 1) zs)
mapped_more f g xs ys zs i x z so lt ez e is =
    ap (map f) is
    ∙ map-append f xs (x ∷ [])
    ∙ ap₂ (λ l y. l ++ y ∷ []) so (e ∙ ap g ez)
    ∙ sym (map-append g (take i zs) (get_or zs i z ∷ []))
    ∙ ap (map g) (sym (take_more zs i z lt))

-- the lines of calls, one after the other
module _ {A B : Type 0} (f : A → Call) (g : B → Result ℕ Fault) where
  lines_suc : (xs : List A) (ys : List B) (i : ℕ) (d : A) (e : B) → i < length xs → i < length ys → call_lines (map f (take i xs)) (map g (take i ys)) ++ call_line (f (get_or xs i d)) (g (get_or ys i e)) ≡ call_lines (map f (take (suc i) xs)) (map g (take (suc i) ys))
  lines_suc [] ys i d e l k = absurd (omega arith)
  lines_suc (x ∷ xs) [] i d e l k = absurd (omega arith)
  lines_suc (x ∷ xs) (y ∷ ys) zero d e l k = sym (append-nil (call_line (f x) (g y)))
  lines_suc (x ∷ xs) (y ∷ ys) (suc i) d e l k =
      append_assoc (call_line (f x) (g y)) (call_lines (map f (take i xs)) (map g (take i ys))) (call_line (f (get_or xs i d)) (g (get_or ys i e)))
      ∙ ap (λ (z : List ℕ). call_line (f x) (g y) ++ z) (lines_suc xs ys i d e (omega arith) (omega arith))

  pub lines_more : (xs : List A) (ys : List B) (i : ℕ) (d : A) (e : B) → i < length xs → i < length ys → call_lines (map f (take i xs)) (map g (take i ys)) ++ call_line (f (get_or xs i d)) (g (get_or ys i e)) ≡ call_lines (map f (take (i + 1) xs)) (map g (take (i + 1) ys))
  lines_more xs ys i d e l k = rw (add-one i) (lines_suc xs ys i d e l k)

  pub lines_all : (xs : List A) (ys : List B) (n : ℕ) → min (length xs) (length ys) ≤ n → call_lines (map f (take n xs)) (map g (take n ys)) ≡ call_lines (map f xs) (map g ys)
  lines_all [] ys zero h = refl
  lines_all [] ys (suc n) h = refl
  lines_all (x ∷ xs) [] zero h = refl
  lines_all (x ∷ xs) [] (suc n) h = refl
  lines_all (x ∷ xs) (y ∷ ys) zero h = absurd (omega arith)
  lines_all (x ∷ xs) (y ∷ ys) (suc n) h = ap (λ (z : List ℕ). call_line (f x) (g y) ++ z) (lines_all xs ys n (omega arith))

  -- one line more, of the call and the answer that come next
  pub lines_turn : (xs : List A) (ys : List B) (n k : ℕ) (x : A) (y : B) {t u : List ℕ} → n < length xs → n < length ys → x ≡ get_or xs n x → y ≡ get_or ys n y → k ≡ n + 1 → t ≡ call_lines (map f (take n xs)) (map g (take n ys)) → u ≡ t ++ call_line (f x) (g y) → u ≡ call_lines (map f (take k xs)) (map g (take k ys))
  lines_turn xs ys n k x y l m ex ey ek et eu =
      eu
      ∙ ap (λ (z : List ℕ). z ++ call_line (f x) (g y)) et
      ∙ ap₂ (λ (a : A) (b : B). call_lines (map f (take n xs)) (map g (take n ys)) ++ call_line (f a) (g b)) ex ey
      ∙ lines_more xs ys n x y l m
      ∙ sym (ap (λ (i : ℕ). call_lines (map f (take i xs)) (map g (take i ys))) ek)

-- a text that is made is also what it is equal to
pub made_same : (r : Result (String Global) AllocError) {p q : List ℕ} → IfOk r (λ t. string_bytes t ≡ p) → p ≡ q → IfOk r (λ t. string_bytes t ≡ q)
made_same (Ok t) m e = m ∙ e
made_same (Err x) m e = tt

-- a draft is written under its own sealer
pub under_sealer : (d : code_draft.Draft) (s : SealerName) → d.sealer ≡ s → draft_over (cipher_of s) (draft_in d) ≡ draft_text (draft_in d)
unfolding draft_in
under_sealer d s e = ap (λ (x : SealerName). draft_over (cipher_of x) (draft_in d)) (sym e)
