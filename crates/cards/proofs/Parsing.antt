-- A record at the front of a list: what is written is parsed, and what is parsed was written.
use Rattle.std.proofs.Common.{◌≡◌, ℕ, ◌+◌, ◌-◌, ◌<◌, ◌≤◌, true, false, eqb, ltb, leb, List, [], ◌++◌, length, get_or, take, drop, Ok, sym, refl, ap, ◌∙◌, arith}
use Rattle.std.specs.List.{between}
use Rattle.std.proofs.lemmas.List.{length-append, take_at, drop_at, drop-drop, take-append-drop}
use Rattle.std.proofs.lemmas.List.Edits.{length-between}
use Rattle.std.proofs.ByRecursion.{All-get_or}
use Rattle.std.proofs.lemmas.Bool.Decides.{nat_tests}
use Rattle.sealer.specs.Sealing.{Octets}
use Rattle.cards.specs.Format.{head}
use Rattle.cards.specs.Reader.{sheet, last, parse, kind_of, cell_of, edition_of, length_of, head_of, body_of, tag_of}
use Rattle.cards.proofs.Numbers.{two_bytes, four_bytes}
use Rattle.cards.proofs.Heads.{head_from}

-- a record in its parts, and what follows it
module _ (kind c e k : ℕ) (b t rest : List ℕ) where
  pub front : List ℕ
  front = head kind c e k ++ (b ++ (t ++ rest))

  pub front_is : front ≡ head kind c e k ++ (b ++ (t ++ rest))
  unfolding front
  front_is = refl

  size : length front ≡ 9 + (length b + (length t + length rest))
  unfolding front
  size = let p = length-append b (t ++ rest) in let q = length-append t rest in omega arith

  kind_is : kind_of front ≡ kind
  unfolding front
  kind_is = refl

  pub cell_is : c < 4294967296 → cell_of front ≡ c
  unfolding front
  cell_is h = four_bytes c h

  pub edition_is : e < 65536 → edition_of front ≡ e
  unfolding front
  edition_is h = two_bytes e h

  pub length_is : k < 65536 → length_of front ≡ k
  unfolding front
  length_is h = two_bytes k h

  pub head_is : head_of front ≡ head kind c e k
  unfolding front
  head_is = refl

  nine : drop 9 front ≡ b ++ (t ++ rest)
  unfolding front
  nine = refl

  body_at : (i : ℕ) → i ≡ length b → between 9 (9 + i) front ≡ b
  body_at i h =
      let n : 9 + i - 9 ≡ length b = omega arith in
      ap (λ j. take j (drop 9 front)) n ∙ ap (take (length b)) nine ∙ take_at b (t ++ rest) (length b) refl

  past : (i : ℕ) → i ≡ length b → drop (9 + i) front ≡ t ++ rest
  past i h = sym (drop-drop i 9 front) ∙ ap (drop i) nine ∙ drop_at b (t ++ rest) i (sym h)

  tag_at : (i r : ℕ) → i ≡ length b → length t ≡ r → between (9 + i) (9 + i + r) front ≡ t
  tag_at i r h q =
      let n : 9 + i + r - (9 + i) ≡ r = omega arith in
      ap (λ j. take j (drop (9 + i) front)) n ∙ ap (take r) (past i h) ∙ take_at t rest r q

  pub rest_is : (i r : ℕ) → i ≡ length b → length t ≡ r → drop (9 + i + r) front ≡ rest
  rest_is i r h q = sym (drop-drop r (9 + i) front) ∙ ap (drop r) (past i h) ∙ drop_at t rest r q

  module _ (hk : k ≡ length b) (hs : k < 65536) where
    pub body_is : body_of front ≡ b
    body_is = body_at (length_of front) (length_is hs ∙ hk)

    pub tag_is : (r : ℕ) → length t ≡ r → tag_of r front ≡ t
    tag_is r ht = tag_at (length_of front) r (length_is hs ∙ hk) ht

    pub size_is : (r : ℕ) → length t ≡ r → length front ≡ 9 + k + r + length rest
    size_is r ht = let z = size in omega (arith, hk, ht)

pub parse_written : (r n p c e k : ℕ) (b t rest : List ℕ) → c < 4294967296 → e < 65536 → k ≤ 4096 → n < 512 → k ≡ length b → length t ≡ r → parse r n p (front 1 c e k b t rest) ≡ Ok (sheet c e b t)
parse_written r n p c e k b t rest hc he hb hn hk ht =
    let xs = front 1 c e k b t rest in
    let lb : length_of xs ≡ k = length_is 1 c e k b t rest (omega arith) in
    let sz = size_is 1 c e k b t rest hk (omega arith) r ht in
    let t1 : ltb (length xs) 9 ≡ false = grind (arith, nat_tests) in
    let t2 : eqb (kind_of xs) 1 ≡ true = ap (λ i. eqb i 1) (kind_is 1 c e k b t rest) in
    let t3 : ltb n 512 ≡ true = grind (arith, nat_tests) in
    let t4 : leb (length_of xs) 4096 ≡ true = grind (arith, nat_tests) in
    let t5 : leb (9 + length_of xs + r) (length xs) ≡ true = grind (arith, nat_tests) in
    rw (t1, t2, t3, t4, t5, cell_is 1 c e k b t rest hc, edition_is 1 c e k b t rest he, body_is 1 c e k b t rest hk (omega arith), tag_is 1 c e k b t rest hk (omega arith) r ht)

pub parse_written_end : (r n p : ℕ) (t rest : List ℕ) → n ≤ 512 → length t ≡ r → parse r n p (front 2 n 0 0 [] t rest) ≡ Ok (last t)
parse_written_end r n p t rest hn ht =
    let xs = front 2 n 0 0 [] t rest in
    let lb : length_of xs ≡ 0 = length_is 2 n 0 0 [] t rest (omega arith) in
    let sz = size_is 2 n 0 0 [] t rest refl (omega arith) r ht in
    let t1 : ltb (length xs) 9 ≡ false = grind (arith, nat_tests) in
    let t2 : eqb (kind_of xs) 1 ≡ false = ap (λ i. eqb i 1) (kind_is 2 n 0 0 [] t rest) in
    let t3 : eqb (kind_of xs) 2 ≡ true = ap (λ i. eqb i 2) (kind_is 2 n 0 0 [] t rest) in
    let c1 : cell_of xs ≡ n = cell_is 2 n 0 0 [] t rest (omega arith) in
    let c2 : edition_of xs ≡ 0 = edition_is 2 n 0 0 [] t rest (omega arith) in
    let t4 : eqb (cell_of xs) n ≡ true = grind (arith, nat_tests) in
    let t5 : eqb (edition_of xs) 0 ≡ true = grind (arith, nat_tests) in
    let t6 : eqb (length_of xs) 0 ≡ true = grind (arith, nat_tests) in
    let t7 : leb (9 + length_of xs + r) (length xs) ≡ true = grind (arith, nat_tests) in
    rw (t1, t2, t3, t4, t5, t6, t7, tag_is 2 n 0 0 [] t rest refl (omega arith) r ht)

-- what a parsed record says of the list
pub record Parsed (r n k c e : ℕ) (rest b t : List ℕ) : Type 0 where
  pub kind : kind_of rest ≡ k
  pub cell : cell_of rest ≡ c
  pub edition : edition_of rest ≡ e
  pub body : body_of rest ≡ b
  pub tag : tag_of r rest ≡ t
  pub within : 9 + length_of rest + r ≤ length rest

pub sheet_parsed : (r n p : ℕ) (rest : List ℕ) (c e : ℕ) (b t : List ℕ) → parse r n p rest ≡ Ok (sheet c e b t) → Parsed r n 1 c e rest b t × (n < 512) × (length_of rest ≤ 4096)
sheet_parsed r n p rest c e b t h =
    (record { kind = grind (arith, nat_tests); cell = grind (arith, nat_tests); edition = grind (arith, nat_tests); body = grind (arith, nat_tests); tag = grind (arith, nat_tests); within = grind (arith, nat_tests) }, grind (arith, nat_tests), grind (arith, nat_tests))

pub end_parsed : (r n p : ℕ) (rest t : List ℕ) → parse r n p rest ≡ Ok (last t) → Parsed r n 2 n 0 rest (body_of rest) t × (length_of rest ≡ 0)
end_parsed r n p rest t h =
    (record { kind = grind (arith, nat_tests); cell = grind (arith, nat_tests); edition = grind (arith, nat_tests); body = refl; tag = grind (arith, nat_tests); within = grind (arith, nat_tests) }, grind (arith, nat_tests))

-- the list is head, body, tag and what follows
pub parts : (r : ℕ) (rest : List ℕ) → Octets rest → 9 + length_of rest + r ≤ length rest → rest ≡ head (kind_of rest) (cell_of rest) (edition_of rest) (length_of rest) ++ (body_of rest ++ (tag_of r rest ++ drop (9 + length_of rest + r) rest))
parts r rest o h =
    let l = length_of rest in
    let n1 : 9 + l - 9 ≡ l = omega arith in
    let n2 : 9 + l + r - (9 + l) ≡ r = omega arith in
    let t1 : tag_of r rest ++ drop (9 + l + r) rest ≡ drop (9 + l) rest = ap (λ i. take i (drop (9 + l) rest) ++ drop (9 + l + r) rest) n2 ∙ ap (λ (x : List ℕ). take r (drop (9 + l) rest) ++ x) (sym (drop-drop r (9 + l) rest)) ∙ take-append-drop r (drop (9 + l) rest) in
    let b1 : body_of rest ++ drop (9 + l) rest ≡ drop 9 rest = ap (λ i. take i (drop 9 rest) ++ drop (9 + l) rest) n1 ∙ ap (λ (x : List ℕ). take l (drop 9 rest) ++ x) (sym (drop-drop l 9 rest)) ∙ take-append-drop l (drop 9 rest) in
    sym (ap (λ (x : List ℕ). head (kind_of rest) (cell_of rest) (edition_of rest) l ++ (body_of rest ++ x)) t1
    ∙ ap (λ (x : List ℕ). head (kind_of rest) (cell_of rest) (edition_of rest) l ++ x) b1
    ∙ ap (λ (x : List ℕ). x ++ drop 9 rest) (sym (head_from rest o (omega arith)))
    ∙ take-append-drop 9 rest)

pub body_length : (r : ℕ) (rest : List ℕ) → 9 + length_of rest + r ≤ length rest → length (body_of rest) ≡ length_of rest
body_length r rest h = length-between rest 9 (9 + length_of rest) (omega arith) ∙ omega arith

-- fields of octets
pub cell_small : (rest : List ℕ) → Octets rest → 9 ≤ length rest → cell_of rest < 4294967296
cell_small rest o h =
    let x : (i : ℕ) → i < length rest → get_or rest i 0 < 256 = λ i k. All-get_or (λ x. x < 256) rest i 0 k o in
    omega (arith, x 1 (omega arith), x 2 (omega arith), x 3 (omega arith), x 4 (omega arith))

pub edition_small : (rest : List ℕ) → Octets rest → 9 ≤ length rest → edition_of rest < 65536
edition_small rest o h =
    let x : (i : ℕ) → i < length rest → get_or rest i 0 < 256 = λ i k. All-get_or (λ x. x < 256) rest i 0 k o in
    omega (arith, x 5 (omega arith), x 6 (omega arith))
