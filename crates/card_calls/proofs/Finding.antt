-- The answer of find is the only one that its contract allows. Assumes nothing.
use Rattle.std.proofs.Common.{◌≡◌, ℕ, zero, suc, ◌<◌, ◌≤◌, Bool, true, false, cond, ◌&&◌, eqb, ltb, Some, None, Option, refl, ap, subst, inl, inr, arith}
use Rattle.std.proofs.lemmas.Bool.{cases_lt, eqb-true, eqb-false}
use Rattle.std.proofs.lemmas.Bool.Decides.{nat_tests}
use Rattle.cards.specs.Reader.{Card, cell_at, edition_at, Latest, Found, Finds}
use Rattle.card_calls.specs.Readings.{better, found_in, FoundAlone}

module _ (cells editions : ℕ → ℕ) (cell : ℕ) where
  -- what holds below n and at n holds below n + 1
  below_suc : {P : ℕ → Type 0} (n : ℕ) → ((k : ℕ) → k < n → P k) → P n → (k : ℕ) → k < suc n → P k
  below_suc {P = P} n below here k lt =
      elim (cases_lt k n) [ inl l ↦ below k l | inr g ↦ let e : n ≡ k = omega arith in subst P e here ]

  none_more : (n : ℕ) → Found n cells editions cell None → (t : Bool) → eqb (cells n) cell ≡ t → Found (suc n) cells editions cell (cond t (Some n) None)
  none_more n none true e = record {
    within = omega arith;
    same = eqb-true (cells n) cell e;
    highest = below_suc {P = λ k. cells k ≡ cell → editions k ≤ editions n} n (λ k l is. absurd (none k l is)) (λ is. omega arith);
    first = λ k l is. absurd (none k l is);
  }
  none_more n none false e = below_suc {P = λ k. cells k ≡ cell → ⊥} n none (eqb-false (cells n) cell e)

  some_more : (n i : ℕ) → Latest n cells editions cell i → (t : Bool) → (eqb (cells n) cell && ltb (editions i) (editions n)) ≡ t → Found (suc n) cells editions cell (cond t (Some n) (Some i))
  some_more n i x true e =
      let same : cells n ≡ cell = grind (arith, nat_tests) in
      let above : editions i < editions n = grind (arith, nat_tests) in
      record {
        within = omega arith;
        same = same;
        highest = below_suc {P = λ k. cells k ≡ cell → editions k ≤ editions n} n (λ k l is. let h = x.highest k l is in omega arith) (λ is. omega arith);
        first = λ k l is. let h = x.highest k l is in omega arith;
      }
  some_more n i x false e =
      let at : cells n ≡ cell → editions n ≤ editions i = λ is. grind (arith, nat_tests) in
      record {
        within = let w = x.within in omega arith;
        same = x.same;
        highest = below_suc {P = λ k. cells k ≡ cell → editions k ≤ editions i} n x.highest at;
        first = x.first;
      }

  -- two answers are equal
  pub found_once : (n : ℕ) (o q : Option ℕ) → Found n cells editions cell o → Found n cells editions cell q → o ≡ q
  found_once n (Some i) (Some k) x y =
      let a : i < k → ⊥ = λ l. let f = y.first i l x.same in let h = x.highest k y.within y.same in omega arith in
      let b : k < i → ⊥ = λ l. let f = x.first k l y.same in let h = y.highest i x.within x.same in omega arith in
      ap Some (omega (arith, a, b))
  found_once n (Some i) None x y = absurd (y i x.within x.same)
  found_once n None (Some k) x y = absurd (x k y.within y.same)
  found_once n None None x y = refl

module _ (c : Card) (cell : ℕ) where
  more : (n : ℕ) (o : Option ℕ) → Found n (cell_at c) (edition_at c) cell o → Found (suc n) (cell_at c) (edition_at c) cell (better c cell o n)
  more n None x = none_more (cell_at c) (edition_at c) cell n x (eqb (cell_at c n) cell) refl
  more n (Some i) x = some_more (cell_at c) (edition_at c) cell n i x (eqb (cell_at c n) cell && ltb (edition_at c i) (edition_at c n)) refl

  found : (n : ℕ) → Found n (cell_at c) (edition_at c) cell (found_in c cell n)
  found zero = λ k lt is. omega arith
  found (suc n) = more n (found_in c cell n) (found n)

  pub found_is : (o : Option ℕ) → Finds c cell o → o ≡ found_in c cell c.count
  found_is o x = found_once (cell_at c) (edition_at c) cell c.count o (found_in c cell c.count) x (found c.count)

pub found_alone : FoundAlone
found_alone c cell = (found c cell c.count, found_is c cell)
