-- A record's tag tried.
use Rattle.std.proofs.Common.{◌≡◌, ℕ, ◌+◌, ◌<◌, ◌≤◌, List, [], ◌++◌, length, Some, None, Ok, Err, Option, Result, sym, refl, ap, ◌∙◌, arith}
use Rattle.std.proofs.lemmas.List.Edits.{length-between}
use Rattle.sealer.specs.Sealing.{Sealing}
use Rattle.cards.specs.Faults.{Fault, fault, and_then}
use Rattle.cards.specs.Format.{Sheet, nonce, a_sheet}
use Rattle.cards.specs.Reader.{Record, sheet, last, parse, opened, unseal, read_record, length_of, head_of}
use Rattle.cards.proofs.Parsing.{sheet_parsed, end_parsed, body_length}
use Rattle.reader.specs.Said.{tried, sealed_body, sealed_tag}

pub record Lengths (r : ℕ) (rest b t : List ℕ) : Type 0 where
  pub whole : 9 + length_of rest + r ≤ length rest
  pub body : length b ≡ length_of rest
  pub short : length b ≤ 4096
  pub tag : length t ≡ r

sheet_lengths : (r n p : ℕ) (rest : List ℕ) (c e : ℕ) (b t : List ℕ) → parse r n p rest ≡ Ok (sheet c e b t) → Lengths r rest b t × (n < 512)
sheet_lengths r n p rest c e b t h =
    let x = sheet_parsed r n p rest c e b t h in
    let l : length b ≡ length_of rest = ap length (sym x.0.body) ∙ body_length r rest x.0.within in
    (record { whole = x.0.within; body = l; short = omega (arith, x.2); tag = ap length (sym x.0.tag) ∙ length-between rest (9 + length_of rest) (9 + length_of rest + r) x.0.within ∙ omega arith }, x.1)

end_lengths : (r n p : ℕ) (rest t : List ℕ) → parse r n p rest ≡ Ok (last t) → Lengths r rest [] t
end_lengths r n p rest t h =
    let x = end_parsed r n p rest t h in
    record { whole = x.0.within; body = sym x.1; short = omega arith; tag = ap length (sym x.0.tag) ∙ length-between rest (9 + length_of rest) (9 + length_of rest + r) x.0.within ∙ omega arith }

-- a record that was parsed
lengths : (r n p : ℕ) (rest : List ℕ) (x : Record) → parse r n p rest ≡ Ok x → Lengths r rest (sealed_body x) (sealed_tag x)
lengths r n p rest (sheet c e b t) is = (sheet_lengths r n p rest c e b t is).0
lengths r n p rest (last t) is = end_lengths r n p rest t is

pub sealed_lengths : (r n p : ℕ) (rest : List ℕ) (x : Record) (b t : List ℕ) → Ok x ≡ parse r n p rest → b ≡ sealed_body x → t ≡ sealed_tag x → (length b ≤ 65535) × (length t ≡ r)
sealed_lengths r n p rest x b t is eb et =
    let l = lengths r n p rest x (sym is) in
    (omega (arith, ap length eb, l.short), ap length et ∙ l.tag)

then_no : {X Y : Type 0} (z : Option (List ℕ)) (g : List ℕ → X) (f f' : Fault) (y : Y) → Err f' ≡ unseal {X = Unit {0}} z (λ _. tt) f → Err f' ≡ and_then (unseal z g f) (λ _. Ok y)
then_no (Some m) g f f' y e = absurd (let q : ◌≡◌ {A = ℕ} 0 1 = cc in omega arith)
then_no None g f f' y e = ap Err (cc)

then_ok : {X Y : Type 0} (z : Option (List ℕ)) (g : List ℕ → X) (f : Fault) (y : Y) → Ok tt ≡ unseal {X = Unit {0}} z (λ _. tt) f → Ok y ≡ and_then (unseal z g f) (λ _. Ok y)
then_ok (Some m) g f y e = refl
then_ok None g f y e = absurd (let q : ◌≡◌ {A = ℕ} 0 1 = cc in omega arith)

module _ (S : Sealing) (key h : List ℕ) (n p : ℕ) (rest : List ℕ) where
  -- the answer to trying body and tag
  abbrev answer : List ℕ → List ℕ → Result (Unit {0}) Fault
  answer b t = unseal (S.opens key (nonce h n) (h ++ head_of rest) b t) (λ _. tt) (fault 6 1 n (p + 9 + length b))

  no_body : (t : List ℕ) (a : Result (Unit {0}) Fault) → a ≡ answer [] t → a ≡ unseal (S.opens key (nonce h n) (h ++ head_of rest) [] t) (λ _. tt) (fault 6 1 n (p + 9))
  no_body t a o = let z : p + 9 + 0 ≡ p + 9 = omega arith in o ∙ ap (λ i. unseal (S.opens key (nonce h n) (h ++ head_of rest) [] t) (λ _. tt) (fault 6 1 n i)) z

  refused : (x : Record) (is : Ok x ≡ parse S.width n p rest) (f : Fault) → Err f ≡ answer (sealed_body x) (sealed_tag x) → Err f ≡ tried S key h n p rest
  refused (sheet c e b t) is f o =
      then_no (S.opens key (nonce h n) (h ++ head_of rest) b t) (λ m. Some (a_sheet c e m)) (fault 6 1 n (p + 9 + length b)) f (sheet c e b t) o
      ∙ ap (λ z. and_then z (λ x. and_then (opened S key h n p (head_of rest) x) (λ _. Ok x))) is
  refused (last t) is f o =
      then_no {X = Option Sheet} (S.opens key (nonce h n) (h ++ head_of rest) [] t) (λ m. None) (fault 6 1 n (p + 9)) f (last t) (no_body t (Err f) o)
      ∙ ap (λ z. and_then z (λ x. and_then (opened S key h n p (head_of rest) x) (λ _. Ok x))) is

  -- of a record that the program parsed
  pub refused_is : (x : Record) (b t : List ℕ) (r : ℕ) (f : Fault) → Ok x ≡ parse r n p rest → r ≡ S.width → b ≡ sealed_body x → t ≡ sealed_tag x → Err f ≡ answer b t → Err f ≡ tried S key h n p rest
  refused_is x b t r f is er eb et a =
      refused x (is ∙ ap (λ r. parse r n p rest) er) f (a ∙ ap (λ b. answer b t) eb ∙ ap (answer (sealed_body x)) et)

  accepted : (x : Record) (is : Ok x ≡ parse S.width n p rest) → Ok tt ≡ answer (sealed_body x) (sealed_tag x) → Ok x ≡ tried S key h n p rest
  accepted (sheet c e b t) is o =
      then_ok (S.opens key (nonce h n) (h ++ head_of rest) b t) (λ m. Some (a_sheet c e m)) (fault 6 1 n (p + 9 + length b)) (sheet c e b t) o
      ∙ ap (λ z. and_then z (λ x. and_then (opened S key h n p (head_of rest) x) (λ _. Ok x))) is
  accepted (last t) is o =
      then_ok {X = Option Sheet} (S.opens key (nonce h n) (h ++ head_of rest) [] t) (λ m. None) (fault 6 1 n (p + 9)) (last t) (no_body t (Ok tt) o)
      ∙ ap (λ z. and_then z (λ x. and_then (opened S key h n p (head_of rest) x) (λ _. Ok x))) is

  pub accepted_is : (x : Record) (b t : List ℕ) (r : ℕ) → Ok x ≡ parse r n p rest → r ≡ S.width → b ≡ sealed_body x → t ≡ sealed_tag x → Ok tt ≡ answer b t → Ok x ≡ tried S key h n p rest
  accepted_is x b t r is er eb et a =
      accepted x (is ∙ ap (λ r. parse r n p rest) er) (a ∙ ap (λ b. answer b t) eb ∙ ap (answer (sealed_body x)) et)

-- what a tried record is to the walk
tried_ok : (P : Result Record Fault) (O : Record → Result (Option Sheet) Fault) (x : Record) → and_then P (λ y. and_then (O y) (λ _. Ok y)) ≡ Ok x → (y : Option Sheet) × (P ≡ Ok x) × (O x ≡ Ok y)
tried_ok (Err f) O x e = absurd (let q : ◌≡◌ {A = ℕ} 0 1 = cc in omega arith)
tried_ok (Ok w) O x e = by (O w) refl e
  where
    by : (o : Result (Option Sheet) Fault) → O w ≡ o → and_then o (λ _. Ok w) ≡ Ok x → (y : Option Sheet) × (◌≡◌ {A = Result Record Fault} (Ok w) (Ok x)) × (O x ≡ Ok y)
    by (Ok y) i j = let same : w ≡ x = cc in (y, j, ap O (sym same) ∙ i)
    by (Err f) i j = absurd (let q : ◌≡◌ {A = ℕ} 0 1 = cc in omega arith)

tried_no : (P : Result Record Fault) (O : Record → Result (Option Sheet) Fault) (f : Fault) → and_then P (λ y. and_then (O y) (λ _. Ok y)) ≡ Err f → and_then P O ≡ Err f
tried_no (Err g) O f e = ap Err (cc)
tried_no (Ok w) O f e = by (O w) refl e
  where
    by : (o : Result (Option Sheet) Fault) → O w ≡ o → and_then o (λ _. Ok w) ≡ Err f → O w ≡ Err f
    by (Ok y) i j = absurd (let q : ◌≡◌ {A = ℕ} 0 1 = cc in omega arith)
    by (Err g) i j = i ∙ ap Err (cc)

unsealed : {X : Type 0} (z : Option (List ℕ)) (g : List ℕ → X) (f : Fault) (y : X) → unseal z g f ≡ Ok y → (m : List ℕ) × (g m ≡ y)
unsealed (Some m) g f y e = (m, cc)
unsealed None g f y e = absurd (let q : ◌≡◌ {A = ℕ} 0 1 = cc in omega arith)

module _ (S : Sealing) (key h : List ℕ) (n p : ℕ) (rest : List ℕ) where
  pub read_refused : (f : Fault) → Err f ≡ tried S key h n p rest → read_record S key h n p rest ≡ Err f
  read_refused f e = tried_no (parse S.width n p rest) (opened S key h n p (head_of rest)) f (sym e)

  read_sheet : (c e : ℕ) (b t : List ℕ) → Ok (sheet c e b t) ≡ tried S key h n p rest → (s : Sheet) × (read_record S key h n p rest ≡ Ok (Some s)) × (parse S.width n p rest ≡ Ok (sheet c e b t))
  read_sheet c e b t i =
      let O = opened S key h n p (head_of rest) in
      let x = tried_ok (parse S.width n p rest) O (sheet c e b t) (sym i) in
      let u = unsealed (S.opens key (nonce h n) (h ++ head_of rest) b t) (λ m. Some (a_sheet c e m)) (fault 6 1 n (p + 9 + length b)) x.0 x.2 in
      (a_sheet c e u.0, ap (λ z. and_then z O) x.1 ∙ x.2 ∙ ap Ok (sym u.1), x.1)

  read_end : (t : List ℕ) → Ok (last t) ≡ tried S key h n p rest → (read_record S key h n p rest ≡ Ok None) × (parse S.width n p rest ≡ Ok (last t))
  read_end t i =
      let O = opened S key h n p (head_of rest) in
      let x = tried_ok (parse S.width n p rest) O (last t) (sym i) in
      let u = unsealed {X = Option Sheet} (S.opens key (nonce h n) (h ++ head_of rest) [] t) (λ m. None) (fault 6 1 n (p + 9)) x.0 x.2 in
      (ap (λ z. and_then z O) x.1 ∙ x.2 ∙ ap Ok (sym u.1), x.1)

  -- the record that was read, to the walk
  pub walked_sheet : (c e : ℕ) (b t : List ℕ) → Ok (sheet c e b t) ≡ tried S key h n p rest → (n < 512) × Lengths S.width rest b t × ((s : Sheet) × (read_record S key h n p rest ≡ Ok (Some s)))
  walked_sheet c e b t i =
      let x = read_sheet c e b t i in
      let l = sheet_lengths S.width n p rest c e b t x.2 in
      (l.1, l.0, (x.0, x.1))

  pub walked_end : (t : List ℕ) → Ok (last t) ≡ tried S key h n p rest → Lengths S.width rest [] t × (read_record S key h n p rest ≡ Ok None)
  walked_end t i =
      let x = read_end t i in
      (end_lengths S.width n p rest t x.1, x.0)
