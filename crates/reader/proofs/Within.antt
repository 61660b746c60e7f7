-- What the ghost fields of a card give: each of its records lies within it.
use Rattle.std.proofs.Common.{◌≡◌, ℕ, suc, ◌+◌, ◌<◌, ◌≤◌, List, [], ◌∷◌, length, drop, Some, None, Option, IsSomeAnd, sym, refl, ap, ◌∙◌, subst, ⊎_elim, add-one, arith}
use Rattle.std.proofs.lemmas.List.{drop-drop, length-drop}
use Rattle.std.proofs.str.Laws.{order}
use Rattle.std.specs.Iterator.{Yields, SkipsThenYields}
use Rattle.cards.specs.Reader.{place_of, length_of}
use Rattle.cards.proofs.Places.{place_low, place_within}
use Rattle.reader.specs.declared.card.Card.{Card}
use Rattle.reader.specs.declared.records.Sheets.{Sheets}
use Rattle.reader.specs.declared.rest.Rest.{Rest}
use Rattle.reader.specs.Sheets.{GivesSheet}

abbrev pub place : Card → ℕ → ℕ
place c i = place_of c.width c.bytes.now i

within : (c : Card) (i : ℕ) → i < c.count → place c (suc i) ≤ length c.bytes.now
within c i h =
    place_within c.width c.bytes.now c.count i
    (c.runs (⊎_elim (λ some. some) (λ none. let z = c.none (omega arith) in absurd (omega arith)) (order 0 (length c.bytes.now))))
    (omega arith)

-- the rest of a card from record i on
pub record From (c : Card) (i : ℕ) (x : Rest) : Type 0 where
  pub number : x.number ≡ i
  pub place_is : x.place ≡ place c i
  pub bytes : x.bytes.now ≡ drop (place c i) c.bytes.now

module _ (c : Card) (i : ℕ) (x : Rest) (at : From c i x) where
  pub fits : i < c.count → 9 + length_of x.bytes.now + c.width ≤ length x.bytes.now
  fits h = subst (λ (xs : List ℕ). 9 + length_of xs + c.width ≤ length xs) (sym at.bytes) (omega (arith, within c i h, length-drop (place c i) c.bytes.now))

-- an iterator of the sheets holds a rest of its card
held : (s : Sheets) → From s.card.now s.rest.number s.rest
held s = record { number = refl; place_is = s.place; bytes = s.bytes }

pub held_fits : (s : Sheets) → s.rest.number < s.card.now.count → 9 + length_of s.rest.bytes.now + s.card.now.width ≤ length s.rest.bytes.now
held_fits s = fits s.card.now s.rest.number s.rest (held s)

-- and so is the rest after that
pub after_held : (s : Sheets) (y : Rest) (k : ℕ) → k ≡ 9 + length_of s.rest.bytes.now + s.card.now.width → y.bytes.now ≡ drop k s.rest.bytes.now → y.number ≡ s.rest.number + 1 → y.place ≡ s.rest.place + k → From s.card.now y.number y
after_held s y k e eb en ep =
    let c = s.card.now in
    let x = s.rest in
    let size : x.place + k ≡ place c y.number = ap (λ j. x.place + j) (e ∙ ap (λ (xs : List ℕ). 9 + length_of xs + c.width) s.bytes) ∙ ap (λ q. q + (9 + length_of (drop (place c x.number) c.bytes.now) + c.width)) s.place ∙ ap (place c) (sym (en ∙ add-one x.number)) in
    record {
      number = refl;
      place_is = ep ∙ size;
      bytes = eb ∙ ap (drop k) s.bytes ∙ drop-drop k (place c x.number) c.bytes.now ∙ ap (λ q. drop q c.bytes.now) (ap (λ q. q + k) (sym s.place) ∙ size);
    }

-- calls of next count on, over the same card
passed : (s : Sheets) (xs : List Rest) (t : Sheets) → Yields GivesSheet s xs t → (t.card.now ≡ s.card.now) × (t.rest.number ≡ s.rest.number + length xs)
passed s [] t y = (ap (λ (z : Sheets). z.card.now) (sym y), omega (arith, ap (λ (z : Sheets). z.rest.number) y))
passed s (x ∷ xs) t y = let on = passed y.0 xs t y.2 in (on.0 ∙ y.1.0, omega (arith, on.1, y.1.1.2))

-- nth gives the rest from sheet i on
pub nth_is : (c : Card) (i : ℕ) (s : Sheets) (r : Option Rest) (u : Sheets) → s.card.now ≡ c → s.rest.number ≡ 0 → i < c.count → SkipsThenYields GivesSheet s i r u → IsSomeAnd r (From c i)
nth_is c i s None u same first h ran =
    let t = ran.1.0 in
    let on = passed s ran.0 t ran.1.1 in
    absurd (omega (arith, on.1, first, ran.2, ran.1.2.1, ap (λ (d : Card). d.count) (on.0 ∙ same), h))
nth_is c i s (Some x) u same first h ran =
    let t = ran.1.0 in
    let on = passed s ran.0 t ran.1.1 in
    let n : t.rest.number ≡ i = omega (arith, on.1, first, ran.2) in
    subst (λ (d : Card). From d i x) (on.0 ∙ same) (subst (λ j. From t.card.now j x) n (subst (From t.card.now t.rest.number) (sym ran.1.2.1.0) (held t)))

pub header_long : (c : Card) (i : ℕ) → i < c.count → 13 ≤ length c.bytes.now
header_long c i h = omega (arith, within c i h, place_low c.width c.bytes.now (suc i))
