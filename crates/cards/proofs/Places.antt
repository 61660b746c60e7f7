-- Where the records of a checked card lie: they run to its last byte, and each sheet's tag agrees.
use Rattle.std.proofs.Common.{◌≡◌, ℕ, zero, suc, ◌+◌, ◌-◌, ◌<◌, ◌≤◌, List, [], ◌++◌, length, take, drop, Some, None, Ok, Err, Option, Result, sym, refl, ap, ◌∙◌, subst, ⊎_elim, arith}
use Rattle.std.proofs.lemmas.List.{length-drop, drop-drop}
use Rattle.std.proofs.lemmas.Bool.Decides.{nat_tests}
use Rattle.std.proofs.str.Laws.{order}
use Rattle.sealer.specs.Sealing.{Sealing}
use Rattle.cards.specs.Faults.{Fault, fault, and_then}
use Rattle.cards.specs.Format.{nonce, Sheet, a_sheet}
use Rattle.cards.specs.Reader.{Card, Record, sheet, last, parse, opened, unseal, read_record, walk, check, checked, check_bytes, place_of, sheet_at, sheet_opened, length_of, head_of, body_of, tag_of}
use Rattle.cards.proofs.Parsing.{Parsed, sheet_parsed, end_parsed}
use Rattle.cards.proofs.Records.{end_no_sheet, sheet_no_end}
use Rattle.cards.proofs.Walking.{cons_back, end_only, walk_refused, walk_sheet, walk_end}
use Rattle.cards.proofs.Reading.{header_passed, checked_back, passed_back}

-- ---- by the places alone

place_mono : (r : ℕ) (bs : List ℕ) (k d : ℕ) → place_of r bs k ≤ place_of r bs (d + k)
place_mono r bs k zero = let e : 0 + k ≡ k = omega arith in rw e (omega arith)
place_mono r bs k (suc d) = let e : suc d + k ≡ suc (d + k) = omega arith in rw e (omega (arith, place_mono r bs k d))

pub place_low : (r : ℕ) (bs : List ℕ) (i : ℕ) → 13 ≤ place_of r bs i
place_low r bs i = let e : i + 0 ≡ i = omega arith in subst (λ k. 13 ≤ place_of r bs k) e (place_mono r bs 0 i)

-- where the records of n sheets and the end record run to the last byte, each lies within
pub place_within : (r : ℕ) (bs : List ℕ) (n k : ℕ) → place_of r bs (suc n) ≡ length bs → k ≤ n → place_of r bs (suc k) ≤ length bs
place_within r bs n k w h =
    let e : (n - k) + suc k ≡ suc n = omega arith in
    let m : place_of r bs (suc k) ≤ place_of r bs (suc n) = subst (λ i. place_of r bs (suc k) ≤ place_of r bs i) e (place_mono r bs (suc k) (n - k)) in
    subst (λ z. place_of r bs (suc k) ≤ z) w m

-- ---- by the walk

module _ (S : Sealing) (key h : List ℕ) where
  -- what the body of record n opens to, where the rest of the card begins with it
  abbrev pub opening : ℕ → List ℕ → Option (List ℕ)
  opening n rest = S.opens key (nonce h n) (h ++ head_of rest) (body_of rest) (tag_of S.width rest)

  sheet_tried : (n : ℕ) (rest : List ℕ) (c e : ℕ) (b t : List ℕ) (s : Sheet) (f : Fault) (z : Option (List ℕ)) → Parsed S.width n 1 c e rest b t → S.opens key (nonce h n) (h ++ head_of rest) b t ≡ z → unseal z (λ m. Some (a_sheet c e m)) f ≡ Ok (Some s) → (m : List ℕ) × (opening n rest ≡ Some m)
  sheet_tried n rest c e b t s f (Some m) x op is =
      (m, ap (λ (y : List ℕ). S.opens key (nonce h n) (h ++ head_of rest) y (tag_of S.width rest)) x.body ∙ ap (S.opens key (nonce h n) (h ++ head_of rest) b) x.tag ∙ op)
  sheet_tried n rest c e b t s f None x op is = absurd (let z : ◌≡◌ {A = ℕ} 0 1 = cc in omega arith)

  -- a sheet that was read: its number is below 512, and its tag agrees
  sheet_from : (n p : ℕ) (rest : List ℕ) (s : Sheet) (x : Result Record Fault) → parse S.width n p rest ≡ x → and_then x (opened S key h n p (head_of rest)) ≡ Ok (Some s) → (n < 512) × ((m : List ℕ) × (opening n rest ≡ Some m))
  sheet_from n p rest s (Err f) e is = absurd (let z : ◌≡◌ {A = ℕ} 0 1 = cc in omega arith)
  sheet_from n p rest s (Ok (sheet c ed b t)) e is =
      let y = sheet_parsed S.width n p rest c ed b t e in
      (y.1, sheet_tried n rest c ed b t s (fault 6 1 n (p + 9 + length b)) (S.opens key (nonce h n) (h ++ head_of rest) b t) y.0 refl is)
  sheet_from n p rest s (Ok (last t)) e is = absurd (end_no_sheet (S.opens key (nonce h n) (h ++ head_of rest) [] t) s (fault 6 1 n (p + 9)) is)

  -- an end record that was read has no body
  end_from : (n p : ℕ) (rest : List ℕ) (x : Result Record Fault) → parse S.width n p rest ≡ x → and_then x (opened S key h n p (head_of rest)) ≡ Ok None → length_of rest ≡ 0
  end_from n p rest (Err f) e is = absurd (let z : ◌≡◌ {A = ℕ} 0 1 = cc in omega arith)
  end_from n p rest (Ok (sheet c ed b t)) e is = absurd (sheet_no_end (S.opens key (nonce h n) (h ++ head_of rest) b t) (λ m. a_sheet c ed m) (fault 6 1 n (p + 9 + length b)) is)
  end_from n p rest (Ok (last t)) e is = (end_parsed S.width n p rest t e).1

  module _ (bs : List ℕ) where
    abbrev pub place : ℕ → ℕ
    place i = place_of S.width bs i

    -- from record n on, sheets lie one after the other, with an end record to the last byte
    pub record Laid (n : ℕ) (xs : List Sheet) : Type 0 where
      pub runs : place (suc (n + length xs)) ≡ length bs
      pub opens : (i : ℕ) → n ≤ i → i < n + length xs → (m : List ℕ) × (opening i (drop (place i) bs) ≡ Some m)

    laid : (left n p : ℕ) (xs : List Sheet) (x : Result (Option Sheet) Fault) → n + left ≡ 512 → place n ≡ p → read_record S key h n p (drop p bs) ≡ x → walk S key h left n p (drop p bs) ≡ Ok xs → Laid n xs
    laid left n p xs (Err f) few at r is = absurd (let e = walk_refused S key h left n p (drop p bs) f r in let z : ◌≡◌ {A = ℕ} 0 1 = cc in omega arith)
    laid left n p xs (Ok None) few at r is =
        let y = end_only S.width n (p + (9 + S.width)) (drop p bs) xs (sym (walk_end S key h left n p (drop p bs) r) ∙ is) in
        let none : n + length xs ≡ n = ap (λ (z : List Sheet). n + length z) (sym y.1) ∙ omega arith in
        let empty = end_from n p (drop p bs) (parse S.width n p (drop p bs)) refl r in
        record {
          runs = ap (λ i. place (suc i)) none ∙ ap (λ q. q + (9 + length_of (drop q bs) + S.width)) at ∙ omega (arith, empty, length-drop p bs, y.0);
          opens = λ i low high. absurd (omega arith);
        }
    laid zero n p xs (Ok (Some s)) few at r is =
        absurd (let y = sheet_from n p (drop p bs) s (parse S.width n p (drop p bs)) refl r in omega (arith, y.0))
    laid (suc left) n p xs (Ok (Some s)) few at r is =
        let k = 9 + length_of (drop p bs) + S.width in
        let c = cons_back s (walk S key h left (suc n) (p + k) (drop k (drop p bs))) xs (sym (walk_sheet S key h left n p (drop p bs) s r) ∙ is) in
        let y = sheet_from n p (drop p bs) s (parse S.width n p (drop p bs)) refl r in
        let on : drop k (drop p bs) ≡ drop (p + k) bs = drop-drop k p bs in
        let next : place (suc n) ≡ p + k = ap (λ q. q + (9 + length_of (drop q bs) + S.width)) at in
        let ih = laid left (suc n) (p + k) c.0 (read_record S key h (suc n) (p + k) (drop (p + k) bs)) (omega arith) next refl (ap (walk S key h left (suc n) (p + k)) (sym on) ∙ c.1) in
        let same : suc n + length c.0 ≡ n + length xs = omega (arith, ap length c.2) in
        record {
          runs = ap (λ i. place (suc i)) (sym same) ∙ ih.runs;
          opens = λ i low high.
              ⊎_elim
              (λ later. ih.opens i later (omega arith))
              (λ first. let e : i ≡ n = omega arith in subst (λ j. (m : List ℕ) × (opening j (drop (place j) bs) ≡ Some m)) (sym e) (subst (λ q. (m : List ℕ) × (opening n (drop q bs) ≡ Some m)) (sym at) y.1))
              (order n i);
        }

-- ---- of a card that check passes

module _ (S : Sealing) (key bs : List ℕ) where
  pub record Lies (xs : List Sheet) : Type 0 where
    pub long : 13 ≤ length bs
    pub runs : place_of S.width bs (suc (length xs)) ≡ length bs
    pub opens : (i : ℕ) → i < length xs → (m : List ℕ) × (opening S key (take 13 bs) i (drop (place_of S.width bs i) bs) ≡ Some m)

  pub lies : (xs : List Sheet) → check_bytes S key bs ≡ Ok xs → Lies xs
  lies xs h =
      let x = header_passed S key bs xs h in
      let hd = take 13 bs in
      let y = laid S key hd bs 512 0 13 xs (read_record S key hd 0 13 (drop 13 bs)) refl refl refl x.walked in
      let none : 0 + length xs ≡ length xs = omega arith in
      record {
        long = x.long;
        runs = ap (λ i. place_of S.width bs (suc i)) (sym none) ∙ y.runs;
        opens = λ i lt. y.opens i (omega arith) (omega arith);
      }

  opened_not : (i p : ℕ) (rest h : List ℕ) (buffer : ℕ) (f : Fault) (z : Option (List ℕ)) (m : List ℕ) → z ≡ Some m → opening S key h i rest ≡ z → sheet_at S key h i p rest buffer ≡ Err f → f.number ≡ 6 → ⊥
  opened_not i p rest h buffer f (Some m') m e op is n = grind (arith, nat_tests)
  opened_not i p rest h buffer f None m e op is n = let z : ◌≡◌ {A = ℕ} 0 1 = cc in omega arith

  -- sheet never answers 6 on it, under the sealer that passed it
  pub never_six : (scratch : ℕ) (c : Card) → check S key scratch bs ≡ Ok c → (i buffer : ℕ) (f : Fault) → sheet_opened S c i buffer ≡ Err f → f.number ≡ 6 → ⊥
  never_six scratch c h i buffer f is n =
      let x = checked_back S key bs scratch c h in
      let y = passed_back S key bs c (check_bytes S key bs) x.1 in
      let l = lies y.0 y.1 in
      let p = place_of S.width bs i in
      let is' : sheet_opened S (checked S key bs y.0) i buffer ≡ Err f = ap (λ (d : Card). sheet_opened S d i buffer) y.2 ∙ is in
      let low : i < length y.0 = grind (arith, nat_tests) in
      let o = l.opens i low in
      opened_not i p (drop p bs) (take 13 bs) buffer f (opening S key (take 13 bs) i (drop p bs)) o.0 o.1 refl (grind (arith, nat_tests)) n
