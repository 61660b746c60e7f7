-- A loop over the records that counts sheets, turn by turn.
use Rattle.std.proofs.Common.{◌≡◌, ℕ, suc, ◌+◌, ◌-◌, ◌<◌, true, false, cond, eqb, List, [], ◌∷◌, length, drop, Some, None, Ok, Err, Result, sym, refl, ap, ◌∙◌, add-one, arith}
use Rattle.std.proofs.lemmas.Bool.Decides.{nat_tests}
use Rattle.sealer.specs.Sealing.{Sealing}
use Rattle.cards.specs.Faults.{Fault, fault, and_then}
use Rattle.cards.specs.Format.{Sheet}
use Rattle.cards.specs.Reader.{read_record, walk, how_many, length_of}
use Rattle.cards.proofs.Walking.{walk_refused, walk_sheet, walk_end}

one_more : (n : ℕ) (s : Sheet) (o : Result (List Sheet) Fault) → how_many n (and_then o (λ xs. Ok (s ∷ xs))) ≡ how_many (n + 1) o
one_more n s (Ok xs) = ap Ok (omega arith)
one_more n s (Err f) = refl

module _ (S : Sealing) (key h : List ℕ) where
  -- what is counted so far, and what the rest comes to
  abbrev pub total : ℕ → ℕ → List ℕ → Result ℕ Fault
  total n p rest = how_many n (walk S key h (512 - n) n p rest)

  pub total_refused : (n p : ℕ) (rest : List ℕ) (f : Fault) → read_record S key h n p rest ≡ Err f → total n p rest ≡ Err f
  total_refused n p rest f x = ap (how_many n) (walk_refused S key h (512 - n) n p rest f x)

  pub total_sheet : (n p k : ℕ) (rest : List ℕ) (s : Sheet) → n < 512 → k ≡ 9 + length_of rest + S.width → read_record S key h n p rest ≡ Ok (Some s) → total n p rest ≡ total (n + 1) (p + k) (drop k rest)
  total_sheet n p k rest s few size x =
      let left : 512 - n ≡ suc (512 - (n + 1)) = omega arith in
      ap (λ i. how_many n (walk S key h i n p rest)) left
      ∙ ap (how_many n) (walk_sheet S key h (512 - (n + 1)) n p rest s x)
      ∙ ap (λ j. how_many n (and_then (walk S key h (512 - (n + 1)) (suc n) (p + j) (drop j rest)) (λ xs. Ok (s ∷ xs)))) (sym size)
      ∙ one_more n s (walk S key h (512 - (n + 1)) (suc n) (p + k) (drop k rest))
      ∙ ap (λ i. how_many (n + 1) (walk S key h (512 - (n + 1)) i (p + k) (drop k rest))) (sym (add-one n))

  pub total_end : (n p : ℕ) (rest : List ℕ) → read_record S key h n p rest ≡ Ok None → length rest ≡ 9 + S.width → total n p rest ≡ Ok n
  total_end n p rest x e =
      let t : eqb (length rest) (9 + S.width) ≡ true = grind (arith, nat_tests) in
      ap (how_many n) (walk_end S key h (512 - n) n p rest x ∙ ap (λ z. cond z (Ok []) (Err (fault 15 3 n (p + (9 + S.width))))) t) ∙ ap Ok (omega arith)

  pub total_left : (n p : ℕ) (rest : List ℕ) → read_record S key h n p rest ≡ Ok None → 9 + S.width < length rest → total n p rest ≡ Err (fault 15 3 n (p + (9 + S.width)))
  total_left n p rest x e =
      let t : eqb (length rest) (9 + S.width) ≡ false = grind (arith, nat_tests) in
      ap (how_many n) (walk_end S key h (512 - n) n p rest x ∙ ap (λ z. cond z (Ok []) (Err (fault 15 3 n (p + (9 + S.width))))) t)
