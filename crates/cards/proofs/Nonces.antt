-- The nonces of a run are all different.
use Rattle.std.proofs.Common.{◌≡◌, ℕ, ◌+◌, ◌≤◌, List, [], ◌∷◌, length, drop, Ok, Err, Result, refl, ◌∙◌, subst, arith}
use Rattle.std.proofs.lemmas.List.{append_cancel_left, length_push}
use Rattle.sealer.specs.Sealing.{Sealing}
use Rattle.cards.specs.Faults.{Fault}
use Rattle.cards.specs.Format.{nonce, be8, Sheet}
use Rattle.cards.specs.Plain.{Plain, count, next_nonce, append_answer, appended, close_answer, left_by}
use Rattle.cards.specs.Runs.{Call, append, close, run, answered, closing, Apart, Distinct}
use Rattle.cards.proofs.Numbers.{be8_same}
use Rattle.cards.proofs.Writing.{append_passed}

nonce_same : (h : List ℕ) (i j : ℕ) → i ≤ 512 → j ≤ 512 → nonce h i ≡ nonce h j → i ≡ j
nonce_same h i j p q e = be8_same i j p q (append_cancel_left (drop 5 h) (be8 i) (be8 j) e)

-- each is the nonce of a record from n on
abbrev From : List ℕ → ℕ → List (List ℕ) → Type 0
From h n [] = Unit {0}
From h n (y ∷ ys) = ((i : ℕ) × (n ≤ i) × (i ≤ 512) × (y ≡ nonce h i)) × From h n ys

from_lower : (h : List ℕ) (m n : ℕ) (ys : List (List ℕ)) → m ≤ n → From h n ys → From h m ys
from_lower h m n [] le f = tt
from_lower h m n (y ∷ ys) le f = ((f.0.0, omega (arith, f.0.1), f.0.2, f.0.3), from_lower h m n ys le f.1)

apart : (h : List ℕ) (n : ℕ) (ys : List (List ℕ)) → n ≤ 512 → From h (n + 1) ys → Apart (nonce h n) ys
apart h n [] le f = tt
apart h n (y ∷ ys) le f = (λ e. let same = nonce_same h n f.0.0 le f.0.2 (e ∙ f.0.3) in omega (arith, f.0.1), apart h n ys le f.1)

abbrev Good : List ℕ → ℕ → List (List ℕ) → Type 0
Good h n ys = From h n ys × Distinct ys

good_more : (h : List ℕ) (n : ℕ) (ys : List (List ℕ)) → n ≤ 512 → Good h (n + 1) ys → Good h n (nonce h n ∷ ys)
good_more h n ys le g = (((n, omega arith, le, refl), from_lower h n (n + 1) ys (omega arith) g.0), (apart h n ys le g.0, g.1))

module _ (S : Sealing) where
  append_step : (w : Plain) (s : Sheet) (cs : List Call) (a : Result ℕ Fault) → append_answer S w s ≡ a → count w ≤ 512 → ((v : Plain) → count v ≤ 512 → Good v.header (count v) (run S v cs).nonces) → Good w.header (count w) (answered a (next_nonce w) (run S (left_by a (appended S w s) w) cs)).nonces
  append_step w s cs (Ok k) is le ih =
      let x = append_passed S.width (count w) w.place (length s.body) (length w.medium) k is in
      let more = length_push w.sheets s in
      let v : Plain = appended S w s in
      let next = ih v (omega (arith, x.few)) in
      good_more w.header (count w) (run S v cs).nonces le (subst (λ n. Good w.header n (run S v cs).nonces) more next)
  append_step w s cs (Err f) is le ih = ih w le

  close_step : (w : Plain) (cs : List Call) (a : Result ℕ Fault) → count w ≤ 512 → Good w.header (count w) (run S w cs).nonces → Good w.header (count w) (closing S w a (run S w cs)).nonces
  close_step w cs (Ok k) le ih = good_more w.header (count w) [] le (tt, tt)
  close_step w cs (Err f) le ih = ih

  run_good : (cs : List Call) (w : Plain) → count w ≤ 512 → Good w.header (count w) (run S w cs).nonces
  run_good [] w le = (tt, tt)
  run_good (append s ∷ cs) w le = append_step w s cs (append_answer S w s) refl le (run_good cs)
  run_good (close ∷ cs) w le = close_step w cs (close_answer S w) le (run_good cs w le)

  pub run_distinct : (cs : List Call) (w : Plain) → count w ≤ 512 → Distinct (run S w cs).nonces
  run_distinct cs w le = (run_good cs w le).1
