-- A sealed record at the front of a list reads as its sheet, and a record that reads as a sheet is the sealed one.
use Rattle.std.proofs.Common.{◌≡◌, ℕ, ◌+◌, ◌<◌, ◌≤◌, List, [], ◌++◌, length, drop, Some, None, Ok, Err, Option, Result, sym, refl, ap, ◌∙◌, subst, arith}
use Rattle.std.proofs.lemmas.List.{append_assoc, nil_from_length, length-append}
use Rattle.sealer.specs.Sealing.{Sealing, Laws, Octets}
use Rattle.cards.specs.Faults.{Fault, fault, and_then}
use Rattle.cards.specs.Format.{head, nonce, Sheet, a_sheet, sealed, sheet_record, end_record}
use Rattle.cards.specs.Reader.{Record, sheet, last, parse, opened, unseal, read_record, kind_of, cell_of, edition_of, length_of, head_of, body_of, tag_of}
use Rattle.cards.proofs.Heads.{head_from}
use Rattle.cards.proofs.Parsing.{front, front_is, parse_written, parse_written_end, Parsed, sheet_parsed, end_parsed, parts, body_length, cell_small, edition_small, length_is, head_is, rest_is, body_is, tag_is, cell_is, edition_is}

-- a sheet that append takes
pub record Fit (s : Sheet) : Type 0 where
  pub cell : s.cell < 4294967296
  pub edition : s.edition < 65536
  pub body : length s.body ≤ 4096

-- a sheet is not an end, nor an end a sheet
pub end_no_sheet : (z : Option (List ℕ)) (s : Sheet) (f : Fault) → unseal {X = Option Sheet} z (λ m. None) f ≡ Ok (Some s) → ⊥
end_no_sheet (Some m) s f is = let z : ◌≡◌ {A = ℕ} 0 1 = cc in omega arith
end_no_sheet None s f is = let z : ◌≡◌ {A = ℕ} 0 1 = cc in omega arith

pub sheet_no_end : (z : Option (List ℕ)) (g : List ℕ → Sheet) (f : Fault) → unseal z (λ m. Some (g m)) f ≡ Ok None → ⊥
sheet_no_end (Some m) g f is = let z : ◌≡◌ {A = ℕ} 0 1 = cc in omega arith
sheet_no_end None g f is = let z : ◌≡◌ {A = ℕ} 0 1 = cc in omega arith

module _ (S : Sealing) (L : Laws S) (key h : List ℕ) where
  -- ciphertext and tag of record n
  abbrev pub text : ℕ → List ℕ → List ℕ → List ℕ
  text n hd m = S.ciphertext key (nonce h n) (h ++ hd) m

  abbrev pub tagged : ℕ → List ℕ → List ℕ → List ℕ
  tagged n hd m = S.tag key (nonce h n) (h ++ hd) m

  pub sealed_length : (n : ℕ) (hd m : List ℕ) → length (sealed S key h n hd m) ≡ length hd + (length m + S.width)
  sealed_length n hd m =
      length-append hd (text n hd m ++ tagged n hd m) ∙ ap (λ i. length hd + i) (length-append (text n hd m) (tagged n hd m) ∙ omega (arith, L.ciphertext_length key (nonce h n) (h ++ hd) m, L.tag_length key (nonce h n) (h ++ hd) m))

  sealed_split : (n : ℕ) (hd m rest : List ℕ) → sealed S key h n hd m ++ rest ≡ hd ++ (text n hd m ++ (tagged n hd m ++ rest))
  sealed_split n hd m rest = append_assoc hd (text n hd m ++ tagged n hd m) rest ∙ ap (λ (x : List ℕ). hd ++ x) (append_assoc (text n hd m) (tagged n hd m) rest)

  -- the list that begins with the record of a sheet
  module _ (n : ℕ) (s : Sheet) (rest : List ℕ) where
    abbrev hd : List ℕ
    hd = head 1 s.cell s.edition (length s.body)

    abbrev list : List ℕ
    list = front 1 s.cell s.edition (length s.body) (text n hd s.body) (tagged n hd s.body) rest

    long : length s.body ≡ length (text n hd s.body)
    long = sym (L.ciphertext_length key (nonce h n) (h ++ hd) s.body)

    wide : length (tagged n hd s.body) ≡ S.width
    wide = L.tag_length key (nonce h n) (h ++ hd) s.body

    pub written_is : sheet_record S key h n s ++ rest ≡ list
    written_is = sealed_split n hd s.body rest ∙ sym (front_is 1 s.cell s.edition (length s.body) (text n hd s.body) (tagged n hd s.body) rest)

    opens_it : (k : List ℕ) → k ≡ hd → S.opens key (nonce h n) (h ++ k) (text n hd s.body) (tagged n hd s.body) ≡ Some s.body
    opens_it k e = ap (λ (z : List ℕ). S.opens key (nonce h n) (h ++ z) (text n hd s.body) (tagged n hd s.body)) e ∙ L.opens_sealed key (nonce h n) (h ++ hd) s.body

    -- what the reader sees at its front
    pub record Seen (xs : List ℕ) : Type 0 where
      pub size : length_of xs ≡ length s.body
      pub cell : cell_of xs ≡ s.cell
      pub edition : edition_of xs ≡ s.edition
      pub opens : S.opens key (nonce h n) (h ++ head_of xs) (body_of xs) (tag_of S.width xs) ≡ Some s.body
      pub on : drop (9 + length s.body + S.width) xs ≡ rest

    seen_list : Fit s → Seen list
    seen_list f =
        let k = length s.body in
        let b = text n hd s.body in
        let t = tagged n hd s.body in
        let small : k < 65536 = omega (arith, f.body) in
        record {
          size = length_is 1 s.cell s.edition k b t rest small;
          cell = cell_is 1 s.cell s.edition k b t rest f.cell;
          edition = edition_is 1 s.cell s.edition k b t rest f.edition;
          opens = ap (λ (z : List ℕ). S.opens key (nonce h n) (h ++ head_of list) z (tag_of S.width list)) (body_is 1 s.cell s.edition k b t rest long small) ∙ ap (S.opens key (nonce h n) (h ++ head_of list) b) (tag_is 1 s.cell s.edition k b t rest long small S.width wide) ∙ opens_it (head_of list) (head_is 1 s.cell s.edition k b t rest);
          on = rest_is 1 s.cell s.edition k b t rest k S.width long wide;
        }

    pub seen : Fit s → Seen (sheet_record S key h n s ++ rest)
    seen f = subst Seen (sym written_is) (seen_list f)

    read_list : (p : ℕ) → Fit s → n < 512 → read_record S key h n p list ≡ Ok (Some s)
    read_list p f few =
        let x = parse_written S.width n p s.cell s.edition (length s.body) (text n hd s.body) (tagged n hd s.body) rest f.cell f.edition f.body few long wide in
        ap (λ z. and_then z (opened S key h n p (head_of list))) x
        ∙ ap (λ z. unseal z (λ m. Some (a_sheet s.cell s.edition m)) (fault 6 1 n (p + 9 + length (text n hd s.body)))) (opens_it (head_of list) (head_is 1 s.cell s.edition (length s.body) (text n hd s.body) (tagged n hd s.body) rest))

    pub read_written : (p : ℕ) → Fit s → n < 512 → read_record S key h n p (sheet_record S key h n s ++ rest) ≡ Ok (Some s)
    read_written p f few = ap (read_record S key h n p) written_is ∙ read_list p f few

  pub read_written_end : (n p : ℕ) (rest : List ℕ) → n ≤ 512 → read_record S key h n p (end_record S key h n ++ rest) ≡ Ok None
  read_written_end n p rest few =
      let hd = head 2 n 0 0 in
      let t = tagged n hd [] in
      let list = front 2 n 0 0 [] t rest in
      let none : text n hd [] ≡ [] = nil_from_length (text n hd []) (L.ciphertext_length key (nonce h n) (h ++ hd) []) in
      let is : end_record S key h n ++ rest ≡ list = sealed_split n hd [] rest ∙ ap (λ (x : List ℕ). hd ++ (x ++ (t ++ rest))) none ∙ sym (front_is 2 n 0 0 [] t rest) in
      let x = parse_written_end S.width n p t rest few (L.tag_length key (nonce h n) (h ++ hd) []) in
      let o : S.opens key (nonce h n) (h ++ head_of list) [] t ≡ Some [] = ap (λ (z : List ℕ). S.opens key (nonce h n) (h ++ z) [] t) (head_is 2 n 0 0 [] t rest) ∙ ap (λ (z : List ℕ). S.opens key (nonce h n) (h ++ hd) z t) (sym none) ∙ L.opens_sealed key (nonce h n) (h ++ hd) [] in
      ap (read_record S key h n p) is
      ∙ ap (λ z. and_then z (opened S key h n p (head_of list))) x
      ∙ ap (λ z. unseal {X = Option Sheet} z (λ m. None) (fault 6 1 n (p + 9))) o

  -- the converse
  pub record Back (n : ℕ) (rest : List ℕ) (s : Sheet) : Type 0 where
    pub fit : Fit s
    pub few : n < 512
    pub size : length_of rest ≡ length s.body
    pub is : rest ≡ sheet_record S key h n s ++ drop (9 + length_of rest + S.width) rest

  back_from : (n : ℕ) (rest : List ℕ) (c e : ℕ) (b t m : List ℕ) → Octets rest → Parsed S.width n 1 c e rest b t → n < 512 → length_of rest ≤ 4096 → S.opens key (nonce h n) (h ++ head_of rest) b t ≡ Some m → Back n rest (a_sheet c e m)
  back_from n rest c e b t m o x few short op =
      let l = length_of rest in
      let on = drop (9 + l + S.width) rest in
      let y = L.only_sealed key (nonce h n) (h ++ head_of rest) b t m op in
      let lm : l ≡ length m = sym (body_length S.width rest x.within) ∙ ap length x.body ∙ ap length (sym y.0) ∙ L.ciphertext_length key (nonce h n) (h ++ head_of rest) m in
      let whole = parts S.width rest o x.within in
      let hd : head (kind_of rest) (cell_of rest) (edition_of rest) l ≡ head 1 c e (length m) = cc (x.kind, x.cell, x.edition, lm) in
      let hd' : head_of rest ≡ head 1 c e (length m) = head_from rest o (omega (arith, x.within)) ∙ hd in
      let one = head 1 c e (length m) in
      let tb : body_of rest ≡ text n one m = x.body ∙ sym y.0 ∙ ap (λ (z : List ℕ). text n z m) hd' in
      let tt' : tag_of S.width rest ≡ tagged n one m = x.tag ∙ sym y.1 ∙ ap (λ (z : List ℕ). tagged n z m) hd' in
      record {
        fit = record {
          cell = subst (λ i. i < 4294967296) x.cell (cell_small rest o (omega (arith, x.within)));
          edition = subst (λ i. i < 65536) x.edition (edition_small rest o (omega (arith, x.within)));
          body = omega arith;
        };
        few = few;
        size = lm;
        is = whole
            ∙ ap (λ (z : List ℕ). z ++ (body_of rest ++ (tag_of S.width rest ++ on))) hd
            ∙ ap (λ (z : List ℕ). one ++ (z ++ (tag_of S.width rest ++ on))) tb
            ∙ ap (λ (z : List ℕ). one ++ (text n one m ++ (z ++ on))) tt'
            ∙ sym (sealed_split n one m on);
      }

  back_opened : (n : ℕ) (rest : List ℕ) (c e : ℕ) (b t : List ℕ) (s : Sheet) (f : Fault) (z : Option (List ℕ)) → Octets rest → Parsed S.width n 1 c e rest b t → n < 512 → length_of rest ≤ 4096 → S.opens key (nonce h n) (h ++ head_of rest) b t ≡ z → unseal z (λ m. Some (a_sheet c e m)) f ≡ Ok (Some s) → Back n rest s
  back_opened n rest c e b t s f (Some m) o x few short op is = subst (Back n rest) (cc) (back_from n rest c e b t m o x few short op)
  back_opened n rest c e b t s f None o x few short op is = absurd (let z : ◌≡◌ {A = ℕ} 0 1 = cc in omega arith)

  read_back : (n p : ℕ) (rest : List ℕ) (s : Sheet) (x : Result Record Fault) → Octets rest → parse S.width n p rest ≡ x → and_then x (opened S key h n p (head_of rest)) ≡ Ok (Some s) → Back n rest s
  read_back n p rest s (Err f) o e is = absurd (let z : ◌≡◌ {A = ℕ} 0 1 = cc in omega arith)
  read_back n p rest s (Ok (sheet c ed b t)) o e is =
      let y = sheet_parsed S.width n p rest c ed b t e in
      back_opened n rest c ed b t s (fault 6 1 n (p + 9 + length b)) (S.opens key (nonce h n) (h ++ head_of rest) b t) o y.0 y.1 y.2 refl is
  read_back n p rest s (Ok (last t)) o e is = absurd (end_no_sheet (S.opens key (nonce h n) (h ++ head_of rest) [] t) s (fault 6 1 n (p + 9)) is)

  -- a list at whose front a sheet is read begins with that sheet's record
  pub sheet_back : (n p : ℕ) (rest : List ℕ) (s : Sheet) → Octets rest → read_record S key h n p rest ≡ Ok (Some s) → Back n rest s
  sheet_back n p rest s o is = read_back n p rest s (parse S.width n p rest) o refl is

  end_opened : (n : ℕ) (rest t : List ℕ) (f : Fault) (z : Option (List ℕ)) → Octets rest → Parsed S.width n 2 n 0 rest (body_of rest) t → length_of rest ≡ 0 → S.opens key (nonce h n) (h ++ head_of rest) [] t ≡ z → unseal {X = Option Sheet} z (λ m. None) f ≡ Ok None → rest ≡ end_record S key h n ++ drop (9 + S.width) rest
  end_opened n rest t f None o x empty op is = absurd (let z : ◌≡◌ {A = ℕ} 0 1 = cc in omega arith)
  end_opened n rest t f (Some m) o x empty op is =
      let r = S.width in
      let on = drop (9 + r) rest in
      let y = L.only_sealed key (nonce h n) (h ++ head_of rest) [] t m op in
      let none : m ≡ [] = nil_from_length m (sym (L.ciphertext_length key (nonce h n) (h ++ head_of rest) m) ∙ ap length y.0) in
      let one = head 2 n 0 0 in
      let hd : head (kind_of rest) (cell_of rest) (edition_of rest) (length_of rest) ≡ one = cc (x.kind, x.cell, x.edition, empty) in
      let hd' : head_of rest ≡ one = head_from rest o (omega (arith, x.within)) ∙ hd in
      let nb : body_of rest ≡ [] = nil_from_length (body_of rest) (body_length r rest x.within ∙ empty) in
      let tb : body_of rest ≡ text n one [] = nb ∙ sym (nil_from_length (text n one []) (L.ciphertext_length key (nonce h n) (h ++ one) [])) in
      let tg : tag_of r rest ≡ tagged n one [] = x.tag ∙ sym y.1 ∙ ap (λ (z : List ℕ). tagged n z m) hd' ∙ ap (tagged n one) none in
      let nine : 9 + length_of rest + r ≡ 9 + r = omega arith in
      parts r rest o x.within
      ∙ ap (λ i. head (kind_of rest) (cell_of rest) (edition_of rest) (length_of rest) ++ (body_of rest ++ (tag_of r rest ++ drop i rest))) nine
      ∙ ap (λ (z : List ℕ). z ++ (body_of rest ++ (tag_of r rest ++ on))) hd
      ∙ ap (λ (z : List ℕ). one ++ (z ++ (tag_of r rest ++ on))) tb
      ∙ ap (λ (z : List ℕ). one ++ (text n one [] ++ (z ++ on))) tg
      ∙ sym (sealed_split n one [] on)

  read_end_back : (n p : ℕ) (rest : List ℕ) (x : Result Record Fault) → Octets rest → parse S.width n p rest ≡ x → and_then x (opened S key h n p (head_of rest)) ≡ Ok None → rest ≡ end_record S key h n ++ drop (9 + S.width) rest
  read_end_back n p rest (Err f) o e is = absurd (let z : ◌≡◌ {A = ℕ} 0 1 = cc in omega arith)
  read_end_back n p rest (Ok (sheet c ed b t)) o e is = absurd (sheet_no_end (S.opens key (nonce h n) (h ++ head_of rest) b t) (λ m. a_sheet c ed m) (fault 6 1 n (p + 9 + length b)) is)
  read_end_back n p rest (Ok (last t)) o e is =
      let y = end_parsed S.width n p rest t e in
      end_opened n rest t (fault 6 1 n (p + 9)) (S.opens key (nonce h n) (h ++ head_of rest) [] t) o y.0 y.1 refl is

  pub end_back : (n p : ℕ) (rest : List ℕ) → Octets rest → read_record S key h n p rest ≡ Ok None → rest ≡ end_record S key h n ++ drop (9 + S.width) rest
  end_back n p rest o is = read_end_back n p rest (parse S.width n p rest) o refl is
