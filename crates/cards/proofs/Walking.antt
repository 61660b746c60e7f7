-- The walk over a written card gives its sheets, and what the walk passes was written.
use Rattle.std.proofs.Common.{◌≡◌, ℕ, zero, suc, ◌+◌, ◌<◌, ◌≤◌, true, cond, eqb, List, [], ◌∷◌, ◌++◌, length, drop, Some, None, Ok, Err, Option, Result, sym, refl, ap, ◌∙◌, subst, arith}
use Rattle.std.specs.List.{AllByRecursion}
use Rattle.std.proofs.ByRecursion.{All-drop}
use Rattle.std.proofs.lemmas.List.{append_assoc, append-nil, drop_all}
use Rattle.std.proofs.lemmas.Bool.Decides.{nat_tests}
use Rattle.sealer.specs.Sealing.{Sealing, Laws, Octets}
use Rattle.cards.specs.Faults.{Fault, fault, and_then}
use Rattle.cards.specs.Format.{head, Sheet, sheet_record, end_record, records}
use Rattle.cards.specs.Reader.{read_record, follow, walk, length_of}
use Rattle.cards.proofs.Records.{Fit, seen, sealed_length, read_written, read_written_end, sheet_back, end_back}

-- what a walk that gives sheets went on with
pub cons_back : (s : Sheet) (z : Result (List Sheet) Fault) (xs : List Sheet) → and_then z (λ ys. Ok (s ∷ ys)) ≡ Ok xs → (ys : List Sheet) × (z ≡ Ok ys) × (s ∷ ys ≡ xs)
cons_back s (Ok ys) xs e = (ys, refl, cc)
cons_back s (Err f) xs e = absurd (let z : ◌≡◌ {A = ℕ} 0 1 = cc in omega arith)

pub end_only : (r n p : ℕ) (rest : List ℕ) (xs : List Sheet) → cond (eqb (length rest) (9 + r)) (Ok []) (Err (fault 15 3 n p)) ≡ Ok xs → (length rest ≡ 9 + r) × ([] ≡ xs)
end_only r n p rest xs e = (grind (arith, nat_tests), grind (arith, nat_tests))

module _ (S : Sealing) (key h : List ℕ) where
  next : ℕ → ℕ → ℕ → List ℕ → ℕ → Result (List Sheet) Fault
  next zero n p rest k = Err (fault 8 2 n p)
  next (suc left) n p rest k = walk S key h left (suc n) (p + k) (drop k rest)

  walk_is : (left n p : ℕ) (rest : List ℕ) → walk S key h left n p rest ≡ and_then (read_record S key h n p rest) (follow S.width n p rest (next left n p rest))
  unfolding walk next
  walk_is zero n p rest = refl
  walk_is (suc left) n p rest = refl

  -- one turn of the walk, for a loop over the records
  pub walk_refused : (left n p : ℕ) (rest : List ℕ) (f : Fault) → read_record S key h n p rest ≡ Err f → walk S key h left n p rest ≡ Err f
  walk_refused left n p rest f x = walk_is left n p rest ∙ ap (λ z. and_then z (follow S.width n p rest (next left n p rest))) x

  pub walk_sheet : (left n p : ℕ) (rest : List ℕ) (s : Sheet) → read_record S key h n p rest ≡ Ok (Some s) → walk S key h (suc left) n p rest ≡ and_then (walk S key h left (suc n) (p + (9 + length_of rest + S.width)) (drop (9 + length_of rest + S.width) rest)) (λ xs. Ok (s ∷ xs))
  unfolding next
  walk_sheet left n p rest s x = walk_is (suc left) n p rest ∙ ap (λ z. and_then z (follow S.width n p rest (next (suc left) n p rest))) x

  pub walk_end : (left n p : ℕ) (rest : List ℕ) → read_record S key h n p rest ≡ Ok None → walk S key h left n p rest ≡ cond (eqb (length rest) (9 + S.width)) (Ok []) (Err (fault 15 3 n (p + (9 + S.width))))
  walk_end left n p rest x = walk_is left n p rest ∙ ap (λ z. and_then z (follow S.width n p rest (next left n p rest))) x

  -- the rest of a card from record n on
  abbrev pub tail_from : ℕ → List Sheet → List ℕ
  tail_from n [] = end_record S key h n
  tail_from n (s ∷ xs) = sheet_record S key h n s ++ tail_from (suc n) xs

  pub tail_is : (n : ℕ) (xs : List Sheet) → records S key h n xs ++ end_record S key h (n + length xs) ≡ tail_from n xs
  tail_is n [] = ap (end_record S key h) (omega arith)
  tail_is n (s ∷ xs) =
      let e : n + suc (length xs) ≡ suc n + length xs = omega arith in
      ap (λ i. (sheet_record S key h n s ++ records S key h (suc n) xs) ++ end_record S key h i) e
      ∙ append_assoc (sheet_record S key h n s) (records S key h (suc n) xs) (end_record S key h (suc n + length xs))
      ∙ ap (λ (z : List ℕ). sheet_record S key h n s ++ z) (tail_is (suc n) xs)

  module _ (L : Laws S) where
    pub walk_written : (xs : List Sheet) (left n p : ℕ) → AllByRecursion Fit xs → n + left ≡ 512 → length xs ≤ left → walk S key h left n p (tail_from n xs) ≡ Ok xs
    walk_written [] left n p f e le =
        let list = end_record S key h n in
        let x : read_record S key h n p list ≡ Ok None = ap (read_record S key h n p) (sym (append-nil list)) ∙ read_written_end S L key h n p [] (omega arith) in
        let l : length list ≡ 9 + (0 + S.width) = sealed_length S L key h n (head 2 n 0 0) [] in
        let t : eqb (length list) (9 + S.width) ≡ true = grind (arith, nat_tests) in
        walk_end left n p list x
        ∙ ap (λ z. cond z (Ok []) (Err (fault 15 3 n (p + (9 + S.width))))) t
    walk_written (s ∷ xs) zero n p f e le = absurd (omega arith)
    walk_written (s ∷ xs) (suc left) n p f e le =
        let on = tail_from (suc n) xs in
        let list = sheet_record S key h n s ++ on in
        let x = read_written S L key h n s on p f.0 (omega arith) in
        let y = seen S L key h n s on f.0 in
        let k = 9 + length s.body + S.width in
        let g : Result (List Sheet) Fault → Result (List Sheet) Fault = λ z. and_then z (λ ys. Ok (s ∷ ys)) in
        walk_sheet left n p list s x
        ∙ ap (λ i. g (walk S key h left (suc n) (p + (9 + i + S.width)) (drop (9 + i + S.width) list))) y.size
        ∙ ap (λ z. g (walk S key h left (suc n) (p + k) z)) y.on
        ∙ ap g (walk_written xs left (suc n) (p + k) f.1 (omega arith) (omega arith))

    -- what the walk passes
    pub record Passed (left n : ℕ) (rest : List ℕ) (xs : List Sheet) : Type 0 where
      pub fit : AllByRecursion Fit xs
      pub few : length xs ≤ left
      pub is : rest ≡ tail_from n xs

    walk_back : (left n p : ℕ) (rest : List ℕ) (xs : List Sheet) (x : Result (Option Sheet) Fault) → n + left ≡ 512 → Octets rest → read_record S key h n p rest ≡ x → and_then x (follow S.width n p rest (next left n p rest)) ≡ Ok xs → Passed left n rest xs
    unfolding next
    walk_back left n p rest xs (Err f) e o r is = absurd (let z : ◌≡◌ {A = ℕ} 0 1 = cc in omega arith)
    walk_back left n p rest xs (Ok None) e o r is =
        let y = end_only S.width n (p + (9 + S.width)) rest xs is in
        let b = end_back S L key h n p rest o r in
        let none : drop (9 + S.width) rest ≡ [] = drop_all (9 + S.width) rest (omega (arith, y.0)) in
        let whole : rest ≡ end_record S key h n = b ∙ ap (λ (z : List ℕ). end_record S key h n ++ z) none ∙ append-nil (end_record S key h n) in
        subst (Passed left n rest) y.1 (record { fit = tt; few = omega arith; is = whole })
    walk_back zero n p rest xs (Ok (Some s)) e o r is = absurd (let z : ◌≡◌ {A = ℕ} 0 1 = cc in omega arith)
    walk_back (suc left) n p rest xs (Ok (Some s)) e o r is =
        let k = 9 + length_of rest + S.width in
        let on = drop k rest in
        let b = sheet_back S L key h n p rest s o r in
        let c = cons_back s (walk S key h left (suc n) (p + k) on) xs is in
        let ih = walk_back left (suc n) (p + k) on c.0 (read_record S key h (suc n) (p + k) on) (omega arith) (All-drop (λ x. x < 256) k rest o) refl (sym (walk_is left (suc n) (p + k) on) ∙ c.1) in
        subst (Passed (suc left) n rest) c.2 (record { fit = (b.fit, ih.fit); few = omega (arith, ih.few); is = b.is ∙ ap (λ (z : List ℕ). sheet_record S key h n s ++ z) ih.is })

    pub walk_passed : (left n p : ℕ) (rest : List ℕ) (xs : List Sheet) → n + left ≡ 512 → Octets rest → walk S key h left n p rest ≡ Ok xs → Passed left n rest xs
    walk_passed left n p rest xs e o is = walk_back left n p rest xs (read_record S key h n p rest) e o refl (sym (walk_is left n p rest) ∙ is)
