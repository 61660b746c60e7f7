-- The questions of check in their order.
use Rattle.std.proofs.Common.{◌≡◌, ◌≢◌, ℕ, suc, ◌+◌, ◌≤◌, List, length, Some, Ok, Err, Result, MatchResult, sym, refl, ap, ◌∙◌, arith}
use Rattle.std.specs.Array.{IsWholeChunk}
use Rattle.std.specs.Result.{result_ok}
use Rattle.std.proofs.lemmas.Bool.Decides.{nat_tests}
use Rattle.std.proofs.lemmas.Option.{none-some}
use Rattle.sealer.specs.Sealing.{Sealing}
use Rattle.cards.specs.Faults.{Fault, and_then}
use Rattle.cards.specs.Format.{Sheet}
use Rattle.cards.specs.Reader.{check, check_bytes, checked, how_many, place_of}
use Rattle.cards.proofs.Places.{lies}

-- an array of 16 bytes that try_from and ok gave for a key
pub read_of : {E : Type 0} (key : List ℕ) (r : Result (List ℕ) E) (k : List ℕ) → MatchResult r (λ y. IsWholeChunk key y 16) (λ _. length key ≢ 16) → result_ok r ≡ Some k → IsWholeChunk key k 16
read_of key (Ok y) k h e = let same : y ≡ k = cc in rw same at h
read_of key (Err _) k h e = absurd (none-some k e)

-- past the questions on key and scratch
pub goes_on : (S : Sealing) (key bs : List ℕ) (n : ℕ) → length key ≡ 16 → 16 ≤ n → check S key n bs ≡ and_then (check_bytes S key bs) (λ xs. Ok (checked S key bs xs))
goes_on S key bs n hk hs = grind (arith, nat_tests)

-- the walk's count, to check
count_refused : (o : Result (List Sheet) Fault) (f : Fault) → how_many 0 o ≡ Err f → o ≡ Err f
count_refused (Ok xs) f h = absurd (let z : ◌≡◌ {A = ℕ} 0 1 = cc in omega arith)
count_refused (Err f') f h = cc

count_passed : (o : Result (List Sheet) Fault) (n : ℕ) → how_many 0 o ≡ Ok n → (xs : List Sheet) × (o ≡ Ok xs) × (length xs ≡ n)
count_passed (Ok xs) n h = (xs, refl, let e : 0 + length xs ≡ n = cc in omega arith)
count_passed (Err f) n h = absurd (let z : ◌≡◌ {A = ℕ} 0 1 = cc in omega arith)

module _ (S : Sealing) (key bs : List ℕ) (room : ℕ) (hk : length key ≡ 16) (hs : 16 ≤ room) where
  pub refused_at : (f : Fault) → Err f ≡ how_many 0 (check_bytes S key bs) → check S key room bs ≡ Err f
  refused_at f h = goes_on S key bs room hk hs ∙ ap (λ o. and_then o (λ xs. Ok (checked S key bs xs))) (count_refused (check_bytes S key bs) f (sym h))

  -- the card that is filled, and what its ghost fields say
  pub record Filled (n : ℕ) : Type 0 where
    pub sheets : List Sheet
    pub many : length sheets ≡ n
    pub is : check S key room bs ≡ Ok (checked S key bs sheets)
    pub long : 13 ≤ length bs
    pub runs : place_of S.width bs (suc n) ≡ length bs

  pub filled_at : (n : ℕ) → Ok n ≡ how_many 0 (check_bytes S key bs) → Filled n
  filled_at n h =
      let x = count_passed (check_bytes S key bs) n (sym h) in
      let l = lies S key bs x.0 x.1 in
      record {
        sheets = x.0;
        many = x.2;
        is = goes_on S key bs room hk hs ∙ ap (λ o. and_then o (λ xs. Ok (checked S key bs xs))) x.1;
        long = l.long;
        runs = ap (λ i. place_of S.width bs (suc i)) (sym x.2) ∙ l.runs;
      }
