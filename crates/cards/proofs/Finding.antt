-- Find on a card that reads as a list.
use Rattle.std.proofs.Common.{◌≡◌, ℕ, ◌+◌, ◌<◌, List, ◌++◌, length, get_or, take, drop, Some, None, Ok, Err, Option, Result, sym, refl, ap, ◌∙◌, subst, le_refl, arith}
use Rattle.std.proofs.lemmas.Bool.Decides.{nat_tests}
use Rattle.sealer.specs.Sealing.{Sealing}
use Rattle.cards.specs.Faults.{Fault, fault}
use Rattle.cards.specs.Format.{Sheet, a_sheet, nonce}
use Rattle.cards.specs.Reader.{Card, Heading, heading, drawn, size_of, sheet_opened, sheet_drawn, unseal, head_of, body_of, tag_of, place_of, cell_at, edition_at, Found}
use Rattle.cards.specs.Claims.{Draws, FindTells}

-- the same answer serves where cells and editions are the same
module _ (n : ℕ) (cells cells' editions editions' : ℕ → ℕ) (cell : ℕ) (c : (k : ℕ) → k < n → cells' k ≡ cells k) (e : (k : ℕ) → k < n → editions' k ≡ editions k) where
  pub found_same : (o : Option ℕ) → Found n cells editions cell o → Found n cells' editions' cell o
  found_same (Some i) x = record {
    within = x.within;
    same = c i x.within ∙ x.same;
    highest = λ k lt is. let a = x.highest k lt (sym (c k lt) ∙ is) in let b = e k lt in let d = e i x.within in omega arith;
    first = λ k lt is. let m : k < n = omega (arith, x.within) in let a = x.first k lt (sym (c k m) ∙ is) in let b = e k m in let d = e i x.within in omega arith;
  }
  found_same None x = λ k lt is. x k lt (sym (c k lt) ∙ is)

unsealed_fields : (c e : ℕ) (z : Option (List ℕ)) (f : Fault) (s : Sheet) → unseal z (λ m. a_sheet c e m) f ≡ Ok s → (s.cell ≡ c) × (s.edition ≡ e)
unsealed_fields c e (Some m) f s h =
    let q : a_sheet c e m ≡ s = cc in
    (ap (λ (t : Sheet). t.cell) (sym q), ap (λ (t : Sheet). t.edition) (sym q))
unsealed_fields c e None f s h = absurd (let z : ◌≡◌ {A = ℕ} 0 1 = cc in omega arith)

-- what sheet answers has the cell and the edition that stand in the record
sheet_fields : (S : Sealing) (c : Card) (i buffer : ℕ) (s : Sheet) → sheet_opened S c i buffer ≡ Ok s → (s.cell ≡ cell_at c i) × (s.edition ≡ edition_at c i)
sheet_fields S c i buffer s h =
    let p = place_of c.width c.bytes i in
    let rest = drop p c.bytes in
    let hd = take 13 c.bytes in
    let z = S.opens c.key (nonce hd i) (hd ++ head_of rest) (body_of rest) (tag_of S.width rest) in
    unsealed_fields (cell_at c i) (edition_at c i) z (fault 6 1 i (p + 9)) s (grind (arith, nat_tests))

-- a sheet that is drawn was opened
opened_drawn : (o : Result Sheet Fault) (n : ℕ) (b : List ℕ) (h : Heading) → (drawn o n b).answer ≡ Ok h → (s : Sheet) × (o ≡ Ok s) × (heading s ≡ h)
opened_drawn (Ok s) n b h e = (s, refl, cc)
opened_drawn (Err f) n b h e = absurd (let z : ◌≡◌ {A = ℕ} 0 1 = cc in omega arith)

drawn_fields : (S : Sealing) (c : Card) (i : ℕ) (b : List ℕ) (s : Sheet) → Draws s b (sheet_drawn S c i b) → (s.cell ≡ cell_at c i) × (s.edition ≡ edition_at c i)
drawn_fields S c i b s x =
    let o = opened_drawn (sheet_opened S c i (length b)) (size_of c i) b (heading s) x.answer in
    let y = sheet_fields S c i (length b) o.0 o.1 in
    (ap (λ (h : Heading). h.cell) (sym o.2) ∙ y.0, ap (λ (h : Heading). h.edition) (sym o.2) ∙ y.1)

pub find_tells : (S : Sealing) → FindTells S
find_tells S key bs sheets a cell o d x =
    let fields : (k : ℕ) → k < length sheets → ((get_or sheets k d).cell ≡ cell_at a.card k) × ((get_or sheets k d).edition ≡ edition_at a.card k) = λ k lt.
    let b = (get_or sheets k d).body in
    drawn_fields S a.card k b (get_or sheets k d) (a.gives k b d lt (le_refl (length b))) in
    found_same (length sheets) (cell_at a.card) (λ k. (get_or sheets k d).cell) (edition_at a.card) (λ k. (get_or sheets k d).edition) cell (λ k lt. (fields k lt).0) (λ k lt. (fields k lt).1) o (subst (λ n. Found n (cell_at a.card) (edition_at a.card) cell o) a.counts x)
