-- One call after another of a run.
use Rattle.std.proofs.Common.{◌≡◌, ℕ, ◌+◌, ◌<◌, ◌≤◌, min, List, [], ◌∷◌, ◌++◌, map, length, get_or, take, drop, set, Some, Ok, Err, Option, Result, sym, ap, ◌∙◌, subst, ⊎_elim, take-take, length-take-le, arith, Bor}
use Rattle.std.proofs.str.Laws.{order}
use Rattle.std.specs.List.{AllByRecursion}
use Rattle.std.proofs.ByRecursion.{All-append, All-push}
use Rattle.std.proofs.lemmas.List.{append_assoc, drop-drop, drop-set-lt, drop_more, length-map, map-append, take_all, take-map, take_more}
use Rattle.sealer.specs.Sealing.{Sealing, Laws}
use Rattle.cards.specs.Faults.{Fault, told, of_card}
use Rattle.cards.specs.Format.{Sheet, a_sheet}
use Rattle.cards.specs.Claims.{WellCall, IsRun}
use Rattle.cards.specs.Plain.{Plain, start, after_append, append_answer, appended, close_answer, closed_medium, left_by, next_nonce}
use Rattle.cards.specs.Runs.{Run, run, answered, closing, append, close}
use Rattle.cards.specs.Runs as plain
use Rattle.cards.specs.declared.CardFault.{CardFault}
use Rattle.writer.specs.declared.runs.Call.{Call}
use Rattle.writer.specs.declared.runs.Call.TheVariants.{Append, Close}
use Rattle.writer.specs.declared.writer.Writer.{Writer}
use Rattle.cards.proofs.Claims.{is_run}
use Rattle.cards.proofs.Runs.{run_made, joined, run_on}
use Rattle.writer.specs.Replay.{plain_call, made_calls, made_answers, Ran}
use Rattle.writer.specs.Stands.{Stands}

-- the run of w over all calls has come to q, with cs still to be made
pub record Reached (S : Sealing) (w : Plain) (all : List plain.Call) (done : List (Result ℕ Fault)) (q : Plain) (cs : List plain.Call) : Type 0 where
  pub answers : done ++ (run S q cs).answers ≡ (run S w all).answers
  pub medium : (run S q cs).medium ≡ (run S w all).medium
  pub left : (run S q cs).left ≡ (run S w all).left
  pub closed : (run S q cs).closed ≡ (run S w all).closed

module _ (S : Sealing) (w : Plain) (all : List plain.Call) (done : List (Result ℕ Fault)) (q : Plain) (cs : List plain.Call) where
  reached_append : (s : Sheet) → Reached S w all done q (append s ∷ cs) → Reached S w all (done ++ (append_answer S q s ∷ [])) (after_append S q s) cs
  reached_append s h = record {
    answers = append_assoc done (append_answer S q s ∷ []) (run S (after_append S q s) cs).answers ∙ h.answers;
    medium = h.medium;
    left = h.left;
    closed = h.closed;
  }

  reached_refusal : (f : Fault) → close_answer S q ≡ Err f → Reached S w all done q (close ∷ cs) → Reached S w all (done ++ (Err f ∷ [])) q cs
  reached_refusal f e h = record {
    answers = append_assoc done (Err f ∷ []) (run S q cs).answers ∙ ap (λ (x : Run). done ++ x.answers) (sym (ran f e)) ∙ h.answers;
    medium = ap (λ (x : Run). x.medium) (sym (ran f e)) ∙ h.medium;
    left = ap (λ (x : Run). x.left) (sym (ran f e)) ∙ h.left;
    closed = ap (λ (x : Run). x.closed) (sym (ran f e)) ∙ h.closed;
  }
    where
      ran : (f : Fault) → close_answer S q ≡ Err f → run S q (close ∷ cs) ≡ answered (Err f) (next_nonce q) (run S q cs)
      ran f e = ap (λ a. closing S q a (run S q cs)) e

-- what a turn leaves, for each plain writer that the first state stands for
abbrev pub Goes : {T : Type 0} (S : Sealing) (x : Writer T) (m : List ℕ) (calls : List Call) (v : List (Result ℕ CardFault)) (x' : Writer T) (m' : List ℕ) (i : ℕ) → Type 0
Goes S x m calls v x' m' i = (w : Plain) → Stands x m w → (q : Plain) × Stands x' m' q × Reached S w (map plain_call calls) (map told v) q (map plain_call (drop i calls))

next_call : (xs : List Call) (i : ℕ) (d x : Call) → i < length xs → get_or xs i d ≡ x → map plain_call (drop i xs) ≡ plain_call x ∷ map plain_call (drop (i + 1) xs)
next_call xs i d x h e = ap (map plain_call) (drop_more xs i d h) ∙ ap (λ y. plain_call y ∷ map plain_call (drop (i + 1) xs)) e

-- one answer more
told_push : (v v' : List (Result ℕ CardFault)) (a : Result ℕ CardFault) → v' ≡ v ++ (a ∷ []) → map told v' ≡ map told v ++ (told a ∷ [])
told_push v v' a e = ap (map told) e ∙ map-append told v (a ∷ [])

pub stands_at : {T : Type 0} {x x' : Writer T} {m m' : List ℕ} {q : Plain} → x ≡ x' → m ≡ m' → Stands x' m' q → Stands x m q
stands_at {T} back e s = record {
  key = ap (λ (z : Writer T). z.key) back ∙ s.key;
  header = ap (λ (z : Writer T). z.header) back ∙ s.header;
  medium = e ∙ s.medium;
  counts = ap (λ (z : Writer T). z.count) back ∙ s.counts;
  place = ap (λ (z : Writer T). z.place) back ∙ s.place;
}

module _ {T : Type 0} (S : Sealing) (x : Writer T) (m : List ℕ) (calls : List Call) (v : List (Result ℕ CardFault)) (x' : Writer T) (m' : List ℕ) (i : ℕ) (goes : Goes S x m calls v x' m' i) (d : Call) (within : i < length calls) where
  pub goes_append : (c e : ℕ) (b : Bor (List ℕ)) (a : Result ℕ CardFault) (x'' : Writer T) (m'' : List ℕ) (v' : List (Result ℕ CardFault)) → get_or calls i d ≡ Append c e b → v' ≡ v ++ (a ∷ [])
      → ((q : Plain) → Stands x' m' q → (told a ≡ append_answer S q (a_sheet c e b.now)) × Stands x'' m'' (after_append S q (a_sheet c e b.now))) → Goes S x m calls v' x'' m'' (i + 1)
  goes_append c e b a x'' m'' v' is pushed says w s =
      let g = goes w s in
      let q = g.0 in
      let y = says q g.1 in
      let sheet = a_sheet c e b.now in
      let rest = map plain_call (drop (i + 1) calls) in
      let at = subst (λ cs. Reached S w (map plain_call calls) (map told v) q cs) (next_call calls i d (Append c e b) within is) g.2 in (
        after_append S q sheet,
        y.1,
        subst (λ l. Reached S w (map plain_call calls) l (after_append S q sheet) rest) (ap (λ z. map told v ++ (z ∷ [])) (sym y.0) ∙ sym (told_push v v' a pushed)) (reached_append S w (map plain_call calls) (map told v) q rest sheet at),
      )

  pub goes_refused : (f : CardFault) (x'' : Writer T) (m'' : List ℕ) (v' : List (Result ℕ CardFault)) → get_or calls i d ≡ Close → v' ≡ v ++ (Err f ∷ []) → x'' ≡ x'
      → ((q : Plain) → Stands x' m' q → (Err (of_card f) ≡ close_answer S q) × (m'' ≡ left_by (close_answer S q) (closed_medium S q) q.medium)) → Goes S x m calls v' x'' m'' (i + 1)
  goes_refused f x'' m'' v' is pushed back says w s =
      let g = goes w s in
      let q = g.0 in
      let y = says q g.1 in
      let rest = map plain_call (drop (i + 1) calls) in
      let at = subst (λ cs. Reached S w (map plain_call calls) (map told v) q cs) (next_call calls i d Close within is) g.2 in
      let same : m'' ≡ q.medium = y.1 ∙ ap (λ a. left_by a (closed_medium S q) q.medium) (sym y.0) in (
        q,
        stands_at back (same ∙ sym g.1.medium) g.1,
        subst (λ l. Reached S w (map plain_call calls) l q rest) (sym (told_push v v' (Err f) pushed)) (reached_refusal S w (map plain_call calls) (map told v) q rest (of_card f) (sym y.0) at),
      )

-- ---- slots

-- as many calls as there are slots
pub part_is : (xs : List Call) (a k : ℕ) → k ≡ min (length xs) a → take k xs ≡ take a xs
part_is xs a k e =
    ⊎_elim
    (λ less. let same : k ≡ a = omega arith in ap (λ n. take n xs) same)
    (λ more. take_all k xs (omega arith) ∙ sym (take_all a xs (omega arith)))
    (order a (length xs))

pub called : (xs ys : List Call) (i : ℕ) (d x : Call) → xs ≡ ys → get_or xs i d ≡ x → get_or ys i d ≡ x
called xs ys i d x e h = subst (λ (z : List Call). get_or z i d ≡ x) e h

-- the slots after one that is written stay
pub others_stay : {X : Type 0} (xs ys zs : List X) (i : ℕ) (y : X) → ys ≡ set xs i y → drop i xs ≡ drop i zs → drop (i + 1) ys ≡ drop (i + 1) zs
others_stay xs ys zs i y e h =
    ap (drop (i + 1)) e ∙ drop-set-lt (i + 1) xs i y (omega arith) ∙ sym (drop-drop 1 i xs) ∙ ap (drop 1) h ∙ drop-drop 1 i zs

-- ---- the calls that were made

-- one more, with a cell and an edition in their ranges
pub well_push : (calls : List Call) (i : ℕ) (d x : Call) → i < length calls → get_or calls i d ≡ x → WellCall (plain_call x) → AllByRecursion WellCall (made_calls i calls) → AllByRecursion WellCall (made_calls (i + 1) calls)
well_push calls i d x lt is well all =
    let e : made_calls (i + 1) calls ≡ made_calls i calls ++ plain_call x ∷ [] = ap (map plain_call) (take_more calls i d lt ∙ ap (λ y. take i calls ++ y ∷ []) is) ∙ map-append plain_call (take i calls) (x ∷ []) in
    subst (AllByRecursion WellCall) (sym e) (All-push WellCall (made_calls i calls) (plain_call x) all well)

-- the run of the calls that were made is that of all that there are slots for
made_run : (S : Sealing) (w : Plain) (calls : List Call) (slots n : ℕ) (after : List (Result ℕ CardFault)) → n ≤ slots → n ≤ length after → made_answers n after ≡ (run S w (made_calls slots calls)).answers → run S w (made_calls n calls) ≡ run S w (made_calls slots calls)
made_run S w calls slots n after le long e =
    let all = made_calls slots calls in
    let x = run S w all in
    let count : length x.answers ≡ n = ap length (sym e) ∙ length-map (take n after) told ∙ length-take-le n after long in
    let same : take n all ≡ made_calls n calls = take-map plain_call n (take slots calls) ∙ ap (map plain_call) (take-take n slots calls le) in
    ap (run S w) (sym same) ∙ ap (λ k. run S w (take k all)) (sym count) ∙ run_made S all w

-- what was made from an accepted start is a run
pub made_is_run : (S : Sealing) (L : Laws S) (key : List ℕ) (number : ℕ) (start_medium : List ℕ) (begun w : Plain) (earlier : List plain.Call) → start S key number start_medium ≡ Ok begun → AllByRecursion WellCall earlier → (run S begun earlier).left ≡ Some w
    → (calls : List Call) (slots n : ℕ) (before after : List (Result ℕ CardFault)) (medium : List ℕ) (closed : Option ℕ) → n ≤ slots → slots ≤ length after
    → Ran n before after medium (run S w (made_calls slots calls)) → closed ≡ (run S w (made_calls slots calls)).closed → AllByRecursion WellCall (made_calls n (take slots calls)) → IsRun S key begun (earlier ++ made_calls n calls) ((run S begun earlier).answers ++ made_answers n after) medium closed
made_is_run S L key number start_medium begun w earlier starts past left calls slots n before after medium closed le long ran ec well =
    let same = made_run S w calls slots n after le (omega arith) ran.answers in
    let well' : AllByRecursion WellCall (made_calls n calls) = subst (λ cs. AllByRecursion WellCall (map plain_call cs)) (take-take n slots calls le) well in
    let first = run S begun earlier in
    let on : joined first (run S w (made_calls slots calls)) ≡ run S begun (earlier ++ made_calls n calls) = ap (joined first) (sym same) ∙ sym (run_on S earlier (made_calls n calls) begun w left) in
    is_run S L key number start_medium begun starts (earlier ++ made_calls n calls) (first.answers ++ made_answers n after) medium closed (All-append WellCall earlier (made_calls n calls) past well')
    (ap (λ (as' : List (Result ℕ Fault)). first.answers ++ as') ran.answers ∙ ap (λ (x : Run). x.answers) on)
    (ran.medium_is ∙ ap (λ (x : Run). x.medium) on)
    (ec ∙ ap (λ (x : Run). x.closed) on)
