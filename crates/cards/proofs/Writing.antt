-- What the plain writer keeps from call to call.
use Rattle.std.proofs.Common.{◌≡◌, ℕ, suc, ◌+◌, ◌-◌, ◌<◌, ◌≤◌, true, cond, leb, List, [], ◌∷◌, ◌++◌, length, take, drop, Ok, Err, Result, sym, refl, ap, ◌∙◌, zero-add, arith}
use Rattle.std.specs.List.{AllByRecursion}
use Rattle.std.proofs.ByRecursion.{All-push}
use Rattle.std.proofs.lemmas.List.{append_assoc, append-nil, length-append, length-take-le, length-drop, length_push, take_at}
use Rattle.std.proofs.lemmas.Bool.Decides.{nat_tests}
use Rattle.sealer.specs.Sealing.{Sealing, Laws}
use Rattle.cards.specs.Format.{header, head, Sheet, sheet_record, end_record, records, card}
use Rattle.cards.specs.Plain.{Plain, overwrite, count, started, start, append_questions, append_answer, appended, close_questions, close_answer, closed_medium}
use Rattle.cards.specs.Faults.{Fault, fault}
use Rattle.cards.specs.Questions.{sheet_questions, goes_on, at_record}
use Rattle.cards.proofs.Asking.{questions_passed, passes_questions, went_on}
use Rattle.cards.proofs.Records.{Fit, sealed_length}

pub take_overwrite : (p : ℕ) (xs m : List ℕ) → p ≤ length m → take (p + length xs) (overwrite p xs m) ≡ take p m ++ xs
take_overwrite p xs m h =
    let d = drop (p + length xs) m in
    let l : length (take p m ++ xs) ≡ p + length xs = length-append (take p m) xs ∙ ap (λ i. i + length xs) (length-take-le p m h) in
    ap (take (p + length xs)) (sym (append_assoc (take p m) xs d)) ∙ take_at (take p m ++ xs) d (p + length xs) l

pub length_overwrite : (p : ℕ) (xs m : List ℕ) → p + length xs ≤ length m → length (overwrite p xs m) ≡ length m
length_overwrite p xs m h =
    let d = drop (p + length xs) m in
    let a = length-append (take p m) (xs ++ d) in
    let b = length-append xs d in
    let c = length-take-le p m (omega arith) in
    let e = length-drop (p + length xs) m in
    omega arith

-- what an accepted call says
pub record AppendPassed (r n p b m k : ℕ) : Type 0 where
  pub few : n < 512
  pub short : b ≤ 4096
  pub room : p + (9 + b + r) + (9 + r) ≤ m
  pub number : k ≡ n

pub append_passed : (r n p b m k : ℕ) → append_questions r n p b m ≡ Ok k → AppendPassed r n p b m k
append_passed r n p b m k h =
    let x = went_on (sheet_questions n b) (at_record n p) (cond (leb (p + (9 + b + r) + (9 + r)) m) (Ok n) (Err (fault 9 2 n p))) k h in
    let q = questions_passed n b x.0 in
    let e = x.1 in
    record { few = q.0; short = q.1; room = grind (arith, nat_tests); number = grind (arith, nat_tests) }

pub append_passes : (r n p b m : ℕ) → n < 512 → b ≤ 4096 → p + (9 + b + r) + (9 + r) ≤ m → append_questions r n p b m ≡ Ok n
append_passes r n p b m h i j =
    let t : leb (p + (9 + b + r) + (9 + r)) m ≡ true = grind (arith, nat_tests) in
    let room : Result ℕ Fault = cond (leb (p + (9 + b + r) + (9 + r)) m) (Ok n) (Err (fault 9 2 n p)) in
    ap (λ q. goes_on q (at_record n p) room) (passes_questions n b h i)
    ∙ ap (λ z. cond z (Ok n) (Err (fault 9 2 n p))) t

pub close_passed : (r n p m k : ℕ) → close_questions r n p m ≡ Ok k → k ≡ p + (9 + r)
close_passed r n p m k h = grind (arith, nat_tests)

pub close_passes : (r n p m : ℕ) → p + (9 + r) ≤ m → close_questions r n p m ≡ Ok (p + (9 + r))
close_passes r n p m h = grind (arith, nat_tests)

pub record StartPassed (S : Sealing) (k : List ℕ) (number : ℕ) (m : List ℕ) (w : Plain) : Type 0 where
  pub key : length k ≡ 16
  pub room : 22 + S.width ≤ length m
  pub is : started S k number m ≡ w

pub start_passed : (S : Sealing) (k : List ℕ) (number : ℕ) (m : List ℕ) (w : Plain) → start S k number m ≡ Ok w → StartPassed S k number m w
start_passed S k number m w h = record { key = grind (arith, nat_tests); room = grind (arith, nat_tests); is = grind (arith, nat_tests) }

pub start_passes : (S : Sealing) (k : List ℕ) (number : ℕ) (m : List ℕ) → length k ≡ 16 → 22 + S.width ≤ length m → start S k number m ≡ Ok (started S k number m)
start_passes S k number m hk hm = grind (arith, nat_tests)

module _ (S : Sealing) (L : Laws S) (key : List ℕ) (number : ℕ) where
  abbrev pub h : List ℕ
  h = header S.version number

  pub records_push : (n : ℕ) (xs : List Sheet) (s : Sheet) → records S key h n (xs ++ s ∷ []) ≡ records S key h n xs ++ sheet_record S key h (n + length xs) s
  records_push n [] s = append-nil (sheet_record S key h n s) ∙ ap (λ i. sheet_record S key h i s) (omega arith)
  records_push n (x ∷ xs) s =
      let e : suc n + length xs ≡ n + suc (length xs) = omega arith in
      ap (λ (z : List ℕ). sheet_record S key h n x ++ z) (records_push (suc n) xs s)
      ∙ sym (append_assoc (sheet_record S key h n x) (records S key h (suc n) xs) (sheet_record S key h (suc n + length xs) s))
      ∙ ap (λ i. (sheet_record S key h n x ++ records S key h (suc n) xs) ++ sheet_record S key h i s) e

  pub sheet_length : (n : ℕ) (s : Sheet) → length (sheet_record S key h n s) ≡ 9 + length s.body + S.width
  sheet_length n s = sealed_length S L key h n (head 1 s.cell s.edition (length s.body)) s.body ∙ omega arith

  pub end_length : (n : ℕ) → length (end_record S key h n) ≡ 9 + S.width
  end_length n = sealed_length S L key h n (head 2 n 0 0) [] ∙ omega arith

  -- the medium begins with the header and the records of the sheets that are kept, up to the place; there is room for an end record
  pub record Kept (w : Plain) : Type 0 where
    pub key_is : w.key ≡ key
    pub header_is : w.header ≡ h
    pub few : count w ≤ 512
    pub fit : AllByRecursion Fit w.sheets
    pub front : take w.place w.medium ≡ h ++ records S key h 0 w.sheets
    pub room : w.place + (9 + S.width) ≤ length w.medium

  pub started_kept : (m : List ℕ) → 22 + S.width ≤ length m → Kept (started S key number m)
  started_kept m hm =
      let l : length (h ++ drop 13 m) ≡ 13 + (length m - 13) = length-append h (drop 13 m) ∙ ap (λ i. 13 + i) (length-drop 13 m) in
      record { key_is = refl; header_is = refl; few = omega arith; fit = tt; front = take_at h (drop 13 m) 13 refl ∙ sym (append-nil h); room = omega arith }

  module _ (w : Plain) (kept : Kept w) where
    same_sheet : (s : Sheet) → sheet_record S w.key w.header (count w) s ≡ sheet_record S key h (count w) s
    same_sheet s = ap (λ (z : List ℕ). sheet_record S z w.header (count w) s) kept.key_is ∙ ap (λ (z : List ℕ). sheet_record S key z (count w) s) kept.header_is

    same_end : end_record S w.key w.header (count w) ≡ end_record S key h (count w)
    same_end = ap (λ (z : List ℕ). end_record S z w.header (count w)) kept.key_is ∙ ap (λ (z : List ℕ). end_record S key z (count w)) kept.header_is

    pub appended_length : (s : Sheet) → w.place + (9 + length s.body + S.width) ≤ length w.medium → length (appended S w s).medium ≡ length w.medium
    appended_length s hm =
        let rec = sheet_record S w.key w.header (count w) s in
        let l : length rec ≡ 9 + length s.body + S.width = ap length (same_sheet s) ∙ sheet_length (count w) s in
        length_overwrite w.place rec w.medium (omega arith)

    pub appended_kept : (s : Sheet) (k : ℕ) → s.cell < 4294967296 → s.edition < 65536 → append_answer S w s ≡ Ok k → Kept (appended S w s)
    appended_kept s k hc he is =
        let x = append_passed S.width (count w) w.place (length s.body) (length w.medium) k is in
        let rec = sheet_record S w.key w.header (count w) s in
        let l : length rec ≡ 9 + length s.body + S.width = ap length (same_sheet s) ∙ sheet_length (count w) s in
        let m = appended_length s (omega (arith, x.room)) in
        let zero_on : 0 + count w ≡ count w = zero-add (count w) in
        record {
          key_is = kept.key_is;
          header_is = kept.header_is;
          few = let z = length_push w.sheets s in omega (arith, x.few);
          fit = All-push Fit w.sheets s kept.fit (record { cell = hc; edition = he; body = x.short });
          front = ap (λ i. take (w.place + i) (appended S w s).medium) (sym l)
              ∙ take_overwrite w.place rec w.medium (omega (arith, x.room))
              ∙ ap (λ (z : List ℕ). z ++ rec) kept.front
              ∙ ap (λ (z : List ℕ). (h ++ records S key h 0 w.sheets) ++ z) (same_sheet s)
              ∙ append_assoc h (records S key h 0 w.sheets) (sheet_record S key h (count w) s)
              ∙ ap (λ i. h ++ (records S key h 0 w.sheets ++ sheet_record S key h i s)) (sym zero_on)
              ∙ ap (λ (z : List ℕ). h ++ z) (sym (records_push 0 w.sheets s));
          room = omega (arith, x.room);
        }

    pub closed_is : (n : ℕ) → close_answer S w ≡ Ok n → take n (closed_medium S w) ≡ card S key number w.sheets
    closed_is n is =
        let e = close_passed S.width (count w) w.place (length w.medium) n is in
        let rec = end_record S w.key w.header (count w) in
        let l : length rec ≡ 9 + S.width = ap length same_end ∙ end_length (count w) in
        let n_is : n ≡ w.place + length rec = omega arith in
        ap (λ i. take i (closed_medium S w)) n_is
        ∙ take_overwrite w.place rec w.medium (omega (arith, kept.room))
        ∙ ap (λ (z : List ℕ). z ++ rec) kept.front
        ∙ ap (λ (z : List ℕ). (h ++ records S key h 0 w.sheets) ++ z) same_end
        ∙ append_assoc h (records S key h 0 w.sheets) (end_record S key h (count w))
