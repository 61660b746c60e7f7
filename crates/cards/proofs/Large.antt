-- A walk that tests each body goes as one that opens it into a buffer with room.
use Rattle.std.proofs.Common.{◌≡◌, ℕ, zero, suc, ◌+◌, ◌≤◌, true, false, Bool, cond, eqb, leb, List, [], ◌∷◌, ◌++◌, length, take, drop, Some, None, Ok, Err, Option, Result, sym, refl, ap, ◌∙◌, arith}
use Rattle.std.specs.Str.{bytes_eq}
use Rattle.std.proofs.lemmas.List.{length-append, length-take-le, length-drop, take_at}
use Rattle.std.proofs.lemmas.List.Edits.{length-between}
use Rattle.std.proofs.lemmas.Bool.Decides.{nat_tests}
use Rattle.sealer.specs.Seal.{Opened, first_no, opened, opened_unless, judged}
use Rattle.sealer.specs.Sealing.{Sealing, Laws}
use Rattle.cards.specs.Claims.{if_opened, through_open, ChecksAsOpened}
use Rattle.cards.specs.Faults.{Fault, fault, and_then}
use Rattle.cards.specs.Format.{mark, nonce, be8, Sheet, a_sheet}
use Rattle.cards.specs.Reader.{Record, sheet, last, parse, opened as record_opened, unseal, read_record, follow, walk, check_bytes, checked, length_of, head_of, version_of}
use Rattle.cards.proofs.Parsing.{sheet_parsed, end_parsed, body_length}

no_questions : (r : ℕ) (k n d c o t : List ℕ) → length k ≡ 16 → length n ≡ 16 → length d ≡ 22 → length c ≤ 4096 → 4096 ≤ length o → length t ≡ r → first_no r (length c) k n d c o t ≡ None
no_questions r k n d c o t hk hn hd hc ho ht = grind (arith, nat_tests)

-- what open puts to the front of a buffer is the message
from_judged : (z : Option (List ℕ)) (n : ℕ) (rest : List ℕ) → ((m : List ℕ) → z ≡ Some m → length m ≡ n) → z ≡ if_opened (judged z n rest).answer (take n (judged z n rest).out)
from_judged (Some m) n rest h = ap Some (sym (take_at m rest n (h m refl)))
from_judged None n rest h = refl

long_nonce : (h : List ℕ) (n : ℕ) → length h ≡ 13 → length (nonce h n) ≡ 16
long_nonce h n e = length-append (drop 5 h) (be8 n) ∙ ap (λ i. i + 8) (length-drop 5 h) ∙ omega arith

long_data : (h rest : List ℕ) → length h ≡ 13 → 9 ≤ length rest → length (h ++ head_of rest) ≡ 22
long_data h rest e le = length-append h (head_of rest) ∙ ap (λ i. length h + i) (length-take-le 9 rest le) ∙ omega arith

module _ (S : Sealing) (L : Laws S) (held : List ℕ → List ℕ) (room : (n : List ℕ) → 4096 ≤ length (held n)) (key : List ℕ) (hk : length key ≡ 16) where
  abbrev T : Sealing
  T = through_open held S

  opens_same : (n d c t : List ℕ) → length n ≡ 16 → length d ≡ 22 → length c ≤ 4096 → length t ≡ S.width → S.opens key n d c t ≡ T.opens key n d c t
  opens_same n d c t hn hd hc ht =
      let none = no_questions S.width key n d c (held n) t hk hn hd hc (room n) ht in
      let z = S.opens key n d c t in
      let from : Opened → Option (List ℕ) = λ x. if_opened x.answer (take (length c) x.out) in
      from_judged z (length c) (drop (length c) (held n)) (λ m e. sym (L.ciphertext_length key n d m) ∙ ap length (L.only_sealed key n d c t m e).0)
      ∙ ap (λ f. from (opened_unless f (held n) (judged z (length c) (drop (length c) (held n))))) (sym none)

  module _ (h : List ℕ) (hh : length h ≡ 13) where
    parsed_same : (n p : ℕ) (rest : List ℕ) (x : Result Record Fault) → parse S.width n p rest ≡ x → and_then x (record_opened S key h n p (head_of rest)) ≡ and_then x (record_opened T key h n p (head_of rest))
    parsed_same n p rest (Err f) is = refl
    parsed_same n p rest (Ok (sheet c e b t)) is =
        let y = sheet_parsed S.width n p rest c e b t is in
        let lb : length b ≡ length_of rest = ap length (sym y.0.body) ∙ body_length S.width rest y.0.within in
        let lt : length t ≡ S.width = ap length (sym y.0.tag) ∙ length-between rest (9 + length_of rest) (9 + length_of rest + S.width) y.0.within ∙ omega arith in
        ap (λ z. unseal z (λ m. Some (a_sheet c e m)) (fault 6 1 n (p + 9 + length b)))
        (opens_same (nonce h n) (h ++ head_of rest) b t (long_nonce h n hh) (long_data h rest hh (omega (arith, y.0.within))) (omega (arith, y.2)) lt)
    parsed_same n p rest (Ok (last t)) is =
        let y = end_parsed S.width n p rest t is in
        let lt : length t ≡ S.width = ap length (sym y.0.tag) ∙ length-between rest (9 + length_of rest) (9 + length_of rest + S.width) y.0.within ∙ omega arith in
        ap (λ z. unseal z (λ m. None) (fault 6 1 n (p + 9)))
        (opens_same (nonce h n) (h ++ head_of rest) [] t (long_nonce h n hh) (long_data h rest hh (omega (arith, y.0.within))) (omega arith) lt)

    followed_same : (r n p : ℕ) (rest : List ℕ) (f g : ℕ → Result (List Sheet) Fault) (x : Result (Option Sheet) Fault) → ((k : ℕ) → f k ≡ g k) → and_then x (follow r n p rest f) ≡ and_then x (follow r n p rest g)
    followed_same r n p rest f g (Ok (Some s)) same = ap (λ z. and_then z (λ xs. Ok (s ∷ xs))) (same (9 + length_of rest + r))
    followed_same r n p rest f g (Ok None) same = refl
    followed_same r n p rest f g (Err e) same = refl

    walk_same : (left n p : ℕ) (rest : List ℕ) → walk S key h left n p rest ≡ walk T key h left n p rest
    unfolding walk
    walk_same zero n p rest = ap (λ x. and_then x (follow S.width n p rest (λ _. Err (fault 8 2 n p)))) (parsed_same n p rest (parse S.width n p rest) refl)
    walk_same (suc left) n p rest =
        ap (λ x. and_then x (follow S.width n p rest (λ k. walk S key h left (suc n) (p + k) (drop k rest)))) (parsed_same n p rest (parse S.width n p rest) refl)
        ∙ followed_same S.width n p rest (λ k. walk S key h left (suc n) (p + k) (drop k rest)) (λ k. walk T key h left (suc n) (p + k) (drop k rest)) (read_record T key h n p rest) (λ k. walk_same left (suc n) (p + k) (drop k rest))

  bytes_same : (bs : List ℕ) → check_bytes S key bs ≡ check_bytes T key bs
  bytes_same bs = by (leb 13 (length bs)) refl
    where
      by : (b : Bool) → leb 13 (length bs) ≡ b →
          cond b (cond (bytes_eq (take 3 bs) mark) (cond (eqb (version_of bs) S.version) (walk S key (take 13 bs) 512 0 13 (drop 13 bs)) (Err (fault 12 3 0 3))) (Err (fault 11 3 0 0))) (Err (fault 10 3 0 0))
          ≡ cond b (cond (bytes_eq (take 3 bs) mark) (cond (eqb (version_of bs) S.version) (walk T key (take 13 bs) 512 0 13 (drop 13 bs)) (Err (fault 12 3 0 3))) (Err (fault 11 3 0 0))) (Err (fault 10 3 0 0))
      by true is =
          let thirteen : 13 ≤ length bs = grind (arith, nat_tests) in
          ap (λ z. cond (bytes_eq (take 3 bs) mark) (cond (eqb (version_of bs) S.version) z (Err (fault 12 3 0 3))) (Err (fault 11 3 0 0)))
          (walk_same (take 13 bs) (length-take-le 13 bs thirteen) 512 0 13 (drop 13 bs))
      by false is = refl

pub checks_as_opened : (S : Sealing) → Laws S → ChecksAsOpened S
checks_as_opened S L key bs scratch held le room = by (eqb (length key) 16) refl
  where
    by : (b : Bool) → eqb (length key) 16 ≡ b →
        cond b (cond (leb 16 scratch) (and_then (check_bytes S key bs) (λ xs. Ok (checked S key bs xs))) (Err (fault 4 1 0 0))) (Err (fault 1 1 0 0))
        ≡ cond b (and_then (check_bytes (through_open held S) key bs) (λ xs. Ok (checked S key bs xs))) (Err (fault 1 1 0 0))
    by true is =
        let long : length key ≡ 16 = grind (arith, nat_tests) in
        let enough : leb 16 scratch ≡ true = grind (arith, nat_tests) in
        ap (λ z. cond z (and_then (check_bytes S key bs) (λ xs. Ok (checked S key bs xs))) (Err (fault 4 1 0 0))) enough
        ∙ ap (λ z. and_then z (λ xs. Ok (checked S key bs xs))) (bytes_same S L held room key long bs)
    by false is = refl
