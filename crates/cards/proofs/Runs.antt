-- Whole runs: what a closed card is, and which lists are written.
use Rattle.std.proofs.Common.{◌≡◌, ℕ, suc, ◌+◌, ◌≤◌, true, false, List, [], ◌∷◌, ◌++◌, length, take, drop, Some, None, Ok, Err, Option, Result, sym, refl, ap, ◌∙◌, subst, arith}
use Rattle.std.specs.List.{AllByRecursion}
use Rattle.std.proofs.lemmas.List.{append_assoc, append-nil, length-append, length-drop, length_push}
use Rattle.sealer.specs.Sealing.{Sealing, Laws}
use Rattle.cards.specs.Faults.{Fault}
use Rattle.cards.specs.Format.{Sheet, records, card, sheet_record, end_record}
use Rattle.cards.specs.Plain.{Plain, count, started, next_nonce, append_answer, appended, close_answer, closed_medium, left_by}
use Rattle.cards.specs.Runs.{Call, append, close, Run, run, answered, ended, closing, accepted}
use Rattle.cards.specs.Claims.{Well, WellCall, Accepts, to_write, Writes}
use Rattle.cards.proofs.Records.{Fit}
use Rattle.cards.proofs.Writing.{h, Kept, started_kept, appended_kept, appended_length, closed_is, append_passes, close_passes, start_passes, start_passed, sheet_length, end_length}

accepted_none : (cs : List Call) → accepted cs [] ≡ []
accepted_none [] = refl
accepted_none (append s ∷ cs) = refl
accepted_none (close ∷ cs) = refl

module _ (S : Sealing) (L : Laws S) (key : List ℕ) (number : ℕ) where
  pub record Closed (n : ℕ) (m : List ℕ) (ys : List Sheet) : Type 0 where
    pub is : take n m ≡ card S key number ys
    pub fit : AllByRecursion Fit ys
    pub few : length ys ≤ 512

  -- what is to show of a run from w
  abbrev Shows : Plain → List Call → Run → Type 0
  Shows w cs x = (n : ℕ) → x.closed ≡ Some n → Closed n x.medium (w.sheets ++ accepted cs x.answers)

  append_shows : (w : Plain) (s : Sheet) (cs : List Call) (a : Result ℕ Fault) → Kept S L key number w → Well s → append_answer S w s ≡ a → ((v : Plain) → Kept S L key number v → Shows v cs (run S v cs)) → Shows w (append s ∷ cs) (answered a (next_nonce w) (run S (left_by a (appended S w s) w) cs))
  append_shows w s cs (Ok k) kept well is ih n e =
      let v : Plain = appended S w s in
      let x = ih v (appended_kept S L key number w kept s k well.cell well.edition is) n e in
      subst (Closed n (run S v cs).medium) (append_assoc w.sheets (s ∷ []) (accepted cs (run S v cs).answers)) x
  append_shows w s cs (Err f) kept well is ih n e = ih w kept n e

  close_shows : (w : Plain) (cs : List Call) (a : Result ℕ Fault) → Kept S L key number w → close_answer S w ≡ a → Shows w cs (run S w cs) → Shows w (close ∷ cs) (closing S w a (run S w cs))
  close_shows w cs (Ok m) kept is ih n e =
      let same : m ≡ n = cc in
      let none : w.sheets ≡ w.sheets ++ accepted cs [] = sym (ap (λ (z : List Sheet). w.sheets ++ z) (accepted_none cs) ∙ append-nil w.sheets) in
      subst (Closed n (closed_medium S w)) none (record { is = ap (λ i. take i (closed_medium S w)) (sym same) ∙ closed_is S L key number w kept m is; fit = kept.fit; few = kept.few })
  close_shows w cs (Err f) kept is ih n e = ih n e

  pub run_shows : (cs : List Call) (w : Plain) → Kept S L key number w → AllByRecursion WellCall cs → Shows w cs (run S w cs)
  run_shows [] w kept well n e = absurd (let z : ◌≡◌ {A = ℕ} 0 1 = cc in omega arith)
  run_shows (append s ∷ cs) w kept well n e = append_shows w s cs (append_answer S w s) kept well.0 refl (λ v k. run_shows cs v k well.1) n e
  run_shows (close ∷ cs) w kept well n e = close_shows w cs (close_answer S w) kept refl (run_shows cs w kept well.1) n e

  -- a run of accepted calls accepts all the sheets
  accepted_step : (w : Plain) (s : Sheet) (cs : List Call) (xs : List Sheet) (a : Result ℕ Fault) → ((v : Plain) → AllByRecursion Accepts (run S v cs).answers → accepted cs (run S v cs).answers ≡ xs) → AllByRecursion Accepts (a ∷ (run S (left_by a (appended S w s) w) cs).answers) → accepted (append s ∷ cs) (a ∷ (run S (left_by a (appended S w s) w) cs).answers) ≡ s ∷ xs
  accepted_step w s cs xs (Ok k) ih all = ap (λ (z : List Sheet). s ∷ z) (ih (appended S w s) all.1)
  accepted_step w s cs xs (Err f) ih all = absurd (let y : false ≡ true = all.0 in let z : ◌≡◌ {A = ℕ} 0 1 = cc in omega arith)

  pub accepted_all : (xs : List Sheet) (w : Plain) → AllByRecursion Accepts (run S w (to_write xs)).answers → accepted (to_write xs) (run S w (to_write xs)).answers ≡ xs
  accepted_all [] w all = close_none (run S w (to_write [])).answers
    where
      close_none : (as' : List (Result ℕ Fault)) → accepted (close ∷ []) as' ≡ []
      close_none [] = refl
      close_none (a ∷ as') = refl
  accepted_all (s ∷ xs) w all = accepted_step w s (to_write xs) xs (append_answer S w s) (accepted_all xs) all

  -- where there is room, all calls are accepted
  pub record Accepted (w : Plain) (cs : List Call) : Type 0 where
    pub all : AllByRecursion Accepts (run S w cs).answers
    pub size : ℕ
    pub closes : (run S w cs).closed ≡ Some size

  append_accepted : (w : Plain) (s : Sheet) (cs : List Call) (k : ℕ) → append_answer S w s ≡ Ok k → Accepted (appended S w s) cs → Accepted w (append s ∷ cs)
  append_accepted w s cs k is x =
      let P : Result ℕ Fault → Type 0 = λ a. (AllByRecursion Accepts (answered a (next_nonce w) (run S (left_by a (appended S w s) w) cs)).answers) × ((answered a (next_nonce w) (run S (left_by a (appended S w s) w) cs)).closed ≡ Some x.size) in
      let y : P (append_answer S w s) = subst P (sym is) ((refl, x.all), x.closes) in
      record { all = y.0; size = x.size; closes = y.1 }

  close_accepted : (w : Plain) (k : ℕ) → close_answer S w ≡ Ok k → Accepted w (close ∷ [])
  close_accepted w k is =
      let P : Result ℕ Fault → Type 0 = λ a. (AllByRecursion Accepts (closing S w a (ended w)).answers) × ((closing S w a (ended w)).closed ≡ Some k) in
      let y : P (close_answer S w) = subst P (sym is) ((refl, tt), refl) in
      record { all = y.0; size = k; closes = y.1 }

  pub room_accepts : (xs : List Sheet) (w : Plain) → Kept S L key number w → AllByRecursion Fit xs → count w + length xs ≤ 512 → w.place + length (records S key (h S L key number) (count w) xs) + (9 + S.width) ≤ length w.medium → Accepted w (to_write xs)
  room_accepts [] w kept fit few room = close_accepted w (w.place + (9 + S.width)) (close_passes S.width (count w) w.place (length w.medium) kept.room)
  room_accepts (s ∷ xs) w kept fit few room =
      let hd = h S L key number in
      let a = length-append (sheet_record S key hd (count w) s) (records S key hd (suc (count w)) xs) in
      let b = sheet_length S L key number (count w) s in
      let is = append_passes S.width (count w) w.place (length s.body) (length w.medium) (omega arith) fit.0.body (omega arith) in
      let v : Plain = appended S w s in
      let m : length v.medium ≡ length w.medium = appended_length S L key number w kept s (omega arith) in
      let c : count v ≡ suc (count w) = length_push w.sheets s ∙ omega arith in
      let on : length (records S key hd (count v) xs) ≡ length (records S key hd (suc (count w)) xs) = ap (λ i. length (records S key hd i xs)) c in
      append_accepted w s (to_write xs) (count w) is (room_accepts xs v (appended_kept S L key number w kept s (count w) fit.0.cell fit.0.edition is) fit.1 (omega arith) (omega arith))

  -- what is written is the card
  well_calls : (xs : List Sheet) → AllByRecursion Well xs → AllByRecursion WellCall (to_write xs)
  well_calls [] w = (tt, tt)
  well_calls (s ∷ xs) w = (w.0, well_calls xs w.1)

  pub writes_card : (sheets : List Sheet) (medium bytes : List ℕ) → AllByRecursion Well sheets → Writes S key number sheets medium bytes → (length key ≡ 16) × (bytes ≡ card S key number sheets) × AllByRecursion Fit sheets × (length sheets ≤ 512)
  writes_card sheets medium bytes well x =
      let y = start_passed S key number medium x.writer x.starts in
      let kept = subst (Kept S L key number) y.is (started_kept S L key number medium y.room) in
      let none : x.writer.sheets ≡ [] = ap (λ (w : Plain). w.sheets) (sym y.is) in
      let z = run_shows (to_write sheets) x.writer kept (well_calls sheets well) x.size x.closes in
      let all : x.writer.sheets ++ accepted (to_write sheets) (run S x.writer (to_write sheets)).answers ≡ sheets = ap (λ (t : List Sheet). t ++ accepted (to_write sheets) (run S x.writer (to_write sheets)).answers) none ∙ accepted_all sheets x.writer x.accepts in
      let c = subst (Closed x.size (run S x.writer (to_write sheets)).medium) all z in
      (y.key, x.bytes_are ∙ c.is, c.fit, c.few)

  pub card_writes : (sheets : List Sheet) (medium : List ℕ) → length key ≡ 16 → AllByRecursion Well sheets → AllByRecursion Fit sheets → length sheets ≤ 512 → length (card S key number sheets) ≤ length medium → Writes S key number sheets medium (card S key number sheets)
  card_writes sheets medium hk well fit few long =
      let hd = h S L key number in
      let a = length-append hd (records S key hd 0 sheets ++ end_record S key hd (length sheets)) in
      let b = length-append (records S key hd 0 sheets) (end_record S key hd (length sheets)) in
      let e = end_length S L key number (length sheets) in
      let room : 22 + S.width ≤ length medium = omega arith in
      let w : Plain = started S key number medium in
      let kept = started_kept S L key number medium room in
      let l : length w.medium ≡ length medium = length-append hd (drop 13 medium) ∙ ap (λ i. 13 + i) (length-drop 13 medium) ∙ omega arith in
      let acc = room_accepts sheets w kept fit (omega arith) (omega arith) in
      let z = run_shows (to_write sheets) w kept (well_calls sheets well) acc.size acc.closes in
      let c = subst (Closed acc.size (run S w (to_write sheets)).medium) (accepted_all sheets w acc.all) z in
      record { writer = w; starts = start_passes S key number medium hk room; accepts = acc.all; size = acc.size; closes = acc.closes; bytes_are = sym c.is }

-- ---- the calls that were made

-- a run of the calls that were made is the run of all: an accepted close comes last
pub run_made : (S : Sealing) (cs : List Call) (w : Plain) → run S w (take (length (run S w cs).answers) cs) ≡ run S w cs
run_made S [] w = refl
run_made S (append s ∷ cs) w =
    let v : Plain = left_by (append_answer S w s) (appended S w s) w in
    ap (answered (append_answer S w s) (next_nonce w)) (run_made S cs v)
run_made S (close ∷ cs) w = by (run_made S cs w) (close_answer S w) refl
  where
    by : run S w (take (length (run S w cs).answers) cs) ≡ run S w cs → (a : Result ℕ Fault) → close_answer S w ≡ a → run S w (take (length (closing S w a (run S w cs)).answers) (close ∷ cs)) ≡ closing S w a (run S w cs)
    by ih (Ok n) e = ap (λ a. closing S w a (ended w)) e
    by ih (Err f) e =
        ap (λ a. closing S w a (run S w (take (length (run S w cs).answers) cs))) e
        ∙ ap (answered (Err f) (next_nonce w)) ih

-- two runs, of which the second goes on where the first left off
abbrev pub joined : Run → Run → Run
joined x y = record { answers = x.answers ++ y.answers; nonces = x.nonces ++ y.nonces; medium = y.medium; closed = y.closed; left = y.left }

joined_answered : (a : Result ℕ Fault) (n : List ℕ) (x y : Run) → answered a n (joined x y) ≡ joined (answered a n x) y
joined_answered (Ok k) n x y = refl
joined_answered (Err f) n x y = refl

-- the run of calls after earlier ones, which left a writer
pub run_on : (S : Sealing) (earlier cs : List Call) (w v : Plain) → (run S w earlier).left ≡ Some v → run S w (earlier ++ cs) ≡ joined (run S w earlier) (run S v cs)
run_on S [] cs w v e = let same : w ≡ v = cc in ap (λ z. run S z cs) same
run_on S (append s ∷ earlier) cs w v e =
    let u : Plain = left_by (append_answer S w s) (appended S w s) w in
    ap (answered (append_answer S w s) (next_nonce w)) (run_on S earlier cs u v e)
    ∙ joined_answered (append_answer S w s) (next_nonce w) (run S u earlier) (run S v cs)
run_on S (close ∷ earlier) cs w v e = by (close_answer S w) (run_on S earlier cs w v) e
  where
    by : (a : Result ℕ Fault) → ((run S w earlier).left ≡ Some v → run S w (earlier ++ cs) ≡ joined (run S w earlier) (run S v cs)) → (closing S w a (run S w earlier)).left ≡ Some v → closing S w a (run S w (earlier ++ cs)) ≡ joined (closing S w a (run S w earlier)) (run S v cs)
    by (Ok n) ih h = absurd (let z : ◌≡◌ {A = ℕ} 0 1 = cc in omega arith)
    by (Err f) ih h = ap (answered (Err f) (next_nonce w)) (ih h)
