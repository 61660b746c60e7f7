-- A card reads as its sheets, and bytes that read as sheets are their card.
use Rattle.std.proofs.Common.{◌≡◌, ℕ, zero, suc, ◌+◌, ◌^◌, ◌<◌, ◌≤◌, true, cond, eqb, ltb, leb, List, [], ◌∷◌, ◌++◌, length, get_or, take, drop, replicate, Ok, Err, Result, sym, refl, ap, ◌∙◌, subst, zero-add, add-one, arith, lit≤}
use Rattle.std.specs.List.{AllByRecursion}
use Rattle.std.specs.Str.{bytes_eq}
use Rattle.std.proofs.ByRecursion.{All-drop, All-get_or}
use Rattle.std.proofs.lemmas.List.{length-append, drop-drop, drop_more, drop_at, take_at, take-append-drop, ext_get_or, length-replicate}
use Rattle.std.proofs.lemmas.Bool.Decides.{nat_tests}
use Rattle.sealer.specs.Sealing.{Sealing, Laws, Octets}
use Rattle.cards.specs.Faults.{Fault, fault, and_then}
use Rattle.cards.specs.Format.{header, mark, nonce, Sheet, a_sheet, end_record, records, card}
use Rattle.cards.specs.Reader.{Card, checked, check, check_bytes, walk, place_of, sheet_at, Heading, heading, Drawn, drawn, size_of, sheet_opened, sheet_drawn, unseal, cell_of, edition_of, length_of, head_of, body_of, tag_of, version_of}
use Rattle.cards.specs.Claims.{Draws, Reads, ReadsOnce}
use Rattle.cards.proofs.Numbers.{two_bytes}
use Rattle.cards.proofs.Heads.{header_from}
use Rattle.cards.proofs.Records.{Fit, Seen, seen}
use Rattle.cards.proofs.Walking.{tail_from, tail_is, walk_written, walk_passed}

-- sheets by their numbers, in bytes that begin with h
module _ (S : Sealing) (L : Laws S) (key h : List ℕ) (xs : List Sheet) (hl : length h ≡ 13) (fit : AllByRecursion Fit xs) where
  abbrev bytes : List ℕ
  bytes = h ++ tail_from S key h 0 xs

  abbrev place : ℕ → ℕ
  place i = place_of S.width bytes i

  at_sheet : (i : ℕ) (d : Sheet) → i < length xs → drop (place i) bytes ≡ tail_from S key h i (drop i xs) → Seen S L key h i (get_or xs i d) (tail_from S key h (suc i) (drop (suc i) xs)) (drop (place i) bytes)
  at_sheet i d lt e =
      let s = get_or xs i d in
      let on = drop (suc i) xs in
      let next : drop i xs ≡ s ∷ on = drop_more xs i d lt ∙ ap (λ k. s ∷ drop k xs) (add-one i) in
      subst (Seen S L key h i s (tail_from S key h (suc i) on)) (sym (e ∙ ap (tail_from S key h i) next)) (seen S L key h i s (tail_from S key h (suc i) on) (All-get_or Fit xs i d lt fit))

  at_record : (d : Sheet) (i : ℕ) → i ≤ length xs → drop (place i) bytes ≡ tail_from S key h i (drop i xs)
  at_record d zero le = drop_at h (tail_from S key h 0 xs) 13 hl
  at_record d (suc i) le =
      let here = at_sheet i d le (at_record d i (omega arith)) in
      let p = place i in
      let k = 9 + length (get_or xs i d).body + S.width in
      ap (λ j. drop (p + (9 + j + S.width)) bytes) here.size ∙ sym (drop-drop k p bytes) ∙ here.on

  sheet_read : (i buffer : ℕ) (d : Sheet) (k : List ℕ) → k ≡ h → i < length xs → length (get_or xs i d).body ≤ buffer → sheet_at S key k i (place i) (drop (place i) bytes) buffer ≡ Ok (get_or xs i d)
  sheet_read i buffer d k e lt le =
      let here = at_sheet i d lt (at_record d i (omega arith)) in
      let rest = drop (place i) bytes in
      let s = get_or xs i d in
      let t : leb (length_of rest) buffer ≡ true = let z : length_of rest ≡ length s.body = here.size in grind (arith, nat_tests) in
      ap (λ (z : List ℕ). sheet_at S key z i (place i) rest buffer) e
      ∙ ap (λ z. cond z (unseal (S.opens key (nonce h i) (h ++ head_of rest) (body_of rest) (tag_of S.width rest)) (λ m. a_sheet (cell_of rest) (edition_of rest) m) (fault 6 1 i (place i + 9))) (Err (fault 4 1 i (place i + 9)))) t
      ∙ ap (λ z. unseal z (λ m. a_sheet (cell_of rest) (edition_of rest) m) (fault 6 1 i (place i + 9))) here.opens
      ∙ ap (λ c. Ok (a_sheet c (edition_of rest) s.body)) here.cell
      ∙ ap (λ c. Ok (a_sheet s.cell c s.body)) here.edition

  pub answer_read : (i buffer : ℕ) (d : Sheet) → i < length xs → length (get_or xs i d).body ≤ buffer → sheet_opened S (checked S key bytes xs) i buffer ≡ Ok (get_or xs i d)
  answer_read i buffer d lt le =
      let same : (n : ℕ) → eqb n n ≡ true = λ n. grind (arith, nat_tests) in
      let t1 = same S.version in
      let t2 = same S.width in
      let t3 : ltb i (length xs) ≡ true = grind (arith, nat_tests) in
      rw (t1, t2, t3) (sheet_read i buffer d (take 13 bytes) (take_at h (tail_from S key h 0 xs) 13 hl) lt le)

-- a sheet that is opened is drawn
pub draws_opened : (s : Sheet) (n : ℕ) (buffer : List ℕ) (o : Result Sheet Fault) → o ≡ Ok s → Draws s buffer (drawn o n buffer)
draws_opened s n buffer o e = record {
  answer = ap (λ z. (drawn z n buffer).answer) e;
  buffer = ap (λ z. (drawn z n buffer).buffer) e;
}

-- two sheets that one buffer is drawn alike with are one
same_sheet : (x y : Sheet) (rest : List ℕ) → ◌≡◌ {A = Result Heading Fault} (Ok (heading x)) (Ok (heading y)) → x.body ++ drop (length x.body) rest ≡ y.body ++ drop (length y.body) rest → x ≡ y
same_sheet x y rest h b =
    let heads : heading x ≡ heading y = cc in
    let size : length x.body ≡ length y.body = ap (λ (z : Heading). z.size) heads in
    let body : x.body ≡ y.body =
    sym (take_at x.body (drop (length x.body) rest) (length x.body) refl)
    ∙ ap (take (length x.body)) b
    ∙ take_at y.body (drop (length y.body) rest) (length x.body) (sym size) in
    ap (λ c. a_sheet c x.edition x.body) (ap (λ (z : Heading). z.cell) heads)
    ∙ ap (λ e. a_sheet y.cell e x.body) (ap (λ (z : Heading). z.edition) heads)
    ∙ ap (a_sheet y.cell y.edition) body

module _ (S : Sealing) (L : Laws S) (key : List ℕ) where
  abbrev head13 : ℕ → List ℕ
  head13 number = header S.version number

  abbrev whole : ℕ → List Sheet → List ℕ
  whole number xs = head13 number ++ tail_from S key (head13 number) 0 xs

  pub card_is : (number : ℕ) (xs : List Sheet) → card S key number xs ≡ whole number xs
  card_is number xs =
      let h = head13 number in
      ap (λ i. h ++ (records S key h 0 xs ++ end_record S key h i)) (sym (zero-add (length xs))) ∙ ap (λ (z : List ℕ). h ++ z) (tail_is S key h 0 xs)

  bytes_passed : (number : ℕ) (xs : List Sheet) → AllByRecursion Fit xs → length xs ≤ 512 → check_bytes S key (whole number xs) ≡ Ok xs
  bytes_passed number xs fit few =
      let h = head13 number in
      let v = S.version in
      let l : length (whole number xs) ≡ 13 + length (tail_from S key h 0 xs) = length-append h (tail_from S key h 0 xs) in
      let t1 : leb 13 (length (whole number xs)) ≡ true = grind (arith, nat_tests) in
      let same : version_of (whole number xs) ≡ v = two_bytes v L.version_small in
      let t2 : eqb (version_of (whole number xs)) v ≡ true = grind (arith, nat_tests) in
      ap (λ z. cond z (cond (eqb (version_of (whole number xs)) v) (walk S key h 512 0 13 (tail_from S key h 0 xs)) (Err (fault 12 3 0 3))) (Err (fault 10 3 0 0))) t1
      ∙ ap (λ z. cond z (walk S key h 512 0 13 (tail_from S key h 0 xs)) (Err (fault 12 3 0 3))) t2
      ∙ walk_written S key h L xs 512 0 13 fit refl few

  check_passed : (bs : List ℕ) (xs : List Sheet) (scratch : ℕ) → length key ≡ 16 → 16 ≤ scratch → check_bytes S key bs ≡ Ok xs → check S key scratch bs ≡ Ok (checked S key bs xs)
  check_passed bs xs scratch hk hs is =
      let t1 : eqb (length key) 16 ≡ true = grind (arith, nat_tests) in
      let t2 : leb 16 scratch ≡ true = grind (arith, nat_tests) in
      ap (λ z. cond z (cond (leb 16 scratch) (and_then (check_bytes S key bs) (λ ys. Ok (checked S key bs ys))) (Err (fault 4 1 0 0))) (Err (fault 1 1 0 0))) t1
      ∙ ap (λ z. cond z (and_then (check_bytes S key bs) (λ ys. Ok (checked S key bs ys))) (Err (fault 4 1 0 0))) t2
      ∙ ap (λ z. and_then z (λ ys. Ok (checked S key bs ys))) is

  pub whole_reads : (number : ℕ) (xs : List Sheet) → length key ≡ 16 → AllByRecursion Fit xs → length xs ≤ 512 → Reads S key (whole number xs) xs
  whole_reads number xs hk fit few = record {
    card = checked S key (whole number xs) xs;
    passes = λ scratch hs. check_passed (whole number xs) xs scratch hk hs (bytes_passed number xs fit few);
    counts = refl;
    gives = λ i buffer d lt le. draws_opened (get_or xs i d) (size_of (checked S key (whole number xs) xs) i) buffer _ (answer_read S L key (head13 number) xs refl fit i (length buffer) d lt le);
  }

  pub card_reads : (number : ℕ) (xs : List Sheet) → length key ≡ 16 → AllByRecursion Fit xs → length xs ≤ 512 → Reads S key (card S key number xs) xs
  card_reads number xs hk fit few = subst (λ (z : List ℕ). Reads S key z xs) (sym (card_is number xs)) (whole_reads number xs hk fit few)

-- under one key no bytes read as two lists
pub reads_once : (S : Sealing) → ReadsOnce S
reads_once S key bs xs ys a b =
    let same : a.card ≡ b.card = let p = a.passes 16 (lit≤ tt) in let q = b.passes 16 (lit≤ tt) in cc (p, q) in
    let long : length xs ≡ length ys = sym a.counts ∙ ap (λ (c : Card). c.count) same ∙ b.counts in
    ext_get_or (a_sheet 0 0 []) xs ys long (λ i lt.
    let d = a_sheet 0 0 [] in
    let x = get_or xs i d in
    let y = get_or ys i d in
    let room = replicate (length x.body + length y.body) 0 in
    let l : length room ≡ length x.body + length y.body = length-replicate (length x.body + length y.body) 0 in
    let hx : length x.body ≤ length room = omega (arith, l) in
    let hy : length y.body ≤ length room = omega (arith, l) in
    let p = a.gives i room d lt hx in
    let q = b.gives i room d (omega arith) hy in
    let e : sheet_drawn S a.card i room ≡ sheet_drawn S b.card i room = ap (λ (c : Card). sheet_drawn S c i room) same in
    same_sheet x y room (sym p.answer ∙ ap (λ (z : Drawn). z.answer) e ∙ q.answer) (sym p.buffer ∙ ap (λ (z : Drawn). z.buffer) e ∙ q.buffer))

-- bytes that check passes
module _ (S : Sealing) (key : List ℕ) where
  pub record HeaderPassed (bs : List ℕ) (xs : List Sheet) : Type 0 where
    pub long : 13 ≤ length bs
    pub marked : bytes_eq (take 3 bs) mark ≡ true
    pub version : version_of bs ≡ S.version
    pub walked : walk S key (take 13 bs) 512 0 13 (drop 13 bs) ≡ Ok xs

  pub header_passed : (bs : List ℕ) (xs : List Sheet) → check_bytes S key bs ≡ Ok xs → HeaderPassed bs xs
  header_passed bs xs h = record { long = grind (arith, nat_tests); marked = grind (arith, nat_tests, bytes_eq (take 3 bs) mark); version = grind (arith, nat_tests); walked = grind (arith, nat_tests) }

  pub checked_back : (bs : List ℕ) (scratch : ℕ) (c : Card) → check S key scratch bs ≡ Ok c → (length key ≡ 16) × (and_then (check_bytes S key bs) (λ xs. Ok (checked S key bs xs)) ≡ Ok c)
  checked_back bs scratch c h = (grind (arith, nat_tests), grind (arith, nat_tests))

  pub passed_back : (bs : List ℕ) (c : Card) (z : Result (List Sheet) Fault) → and_then z (λ xs. Ok (checked S key bs xs)) ≡ Ok c → (xs : List Sheet) × (z ≡ Ok xs) × (checked S key bs xs ≡ c)
  passed_back bs c (Ok xs) h = (xs, refl, cc)
  passed_back bs c (Err f) h = absurd (let z : ◌≡◌ {A = ℕ} 0 1 = cc in omega arith)

module _ (S : Sealing) (L : Laws S) (key : List ℕ) where
  pub record FromCard (bytes : List ℕ) (xs : List Sheet) : Type 0 where
    pub number : ℕ
    pub small : number < 2 ^ 64
    pub fit : AllByRecursion Fit xs
    pub few : length xs ≤ 512
    pub is : bytes ≡ card S key number xs

  pub from_bytes : (bs : List ℕ) (xs : List Sheet) → Octets bs → check_bytes S key bs ≡ Ok xs → FromCard bs xs
  from_bytes bs xs o h =
      let x = header_passed S key bs xs h in
      let y = header_from S.version bs o x.long x.marked x.version in
      let hd = header S.version y.number in
      let w = subst (λ (z : List ℕ). walk S key z 512 0 13 (drop 13 bs) ≡ Ok xs) y.is x.walked in
      let z = walk_passed S key hd L 512 0 13 (drop 13 bs) xs refl (All-drop (λ x. x < 256) 13 bs o) w in
      record {
        number = y.number;
        small = y.small;
        fit = z.fit;
        few = z.few;
        is = sym (take-append-drop 13 bs) ∙ ap (λ (t : List ℕ). t ++ drop 13 bs) y.is ∙ ap (λ (t : List ℕ). hd ++ t) z.is ∙ sym (card_is S L key y.number xs);
      }

  -- bytes that check passes read as what it passed
  pub passed_reads : (bs : List ℕ) (xs : List Sheet) → length key ≡ 16 → Octets bs → check_bytes S key bs ≡ Ok xs → Reads S key bs xs
  passed_reads bs xs hk o h =
      let f = from_bytes bs xs o h in
      subst (λ (z : List ℕ). Reads S key z xs) (sym f.is) (card_reads S L key f.number xs hk f.fit f.few)

  pub reads_card : (bs : List ℕ) (sheets : List Sheet) → Octets bs → Reads S key bs sheets → FromCard bs sheets
  reads_card bs sheets o a =
      let x = checked_back S key bs 16 a.card (a.passes 16 (lit≤ tt)) in
      let y = passed_back S key bs a.card (check_bytes S key bs) x.1 in
      subst (FromCard bs) (reads_once S key bs y.0 sheets (passed_reads bs y.0 x.0 o y.1) a) (from_bytes bs y.0 o y.1)
