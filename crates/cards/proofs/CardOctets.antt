-- A card is made of bytes.
use Rattle.std.proofs.Common.{ℕ, suc, ◌/◌, ◌%◌, ◌<◌, List, [], ◌∷◌, ◌++◌, length, drop, refl, arith}
use Rattle.std.specs.List.{AllByRecursion}
use Rattle.std.proofs.ByRecursion.{All-append, All-drop}
use Rattle.permutations.specs.Permutation.{Bytes}
use Rattle.sealer.specs.Sealing.{Sealing, Laws, Octets}
use Rattle.cards.specs.Format.{be2, be4, be8, mark, header, head, nonce, sealed, Sheet, sheet_record, end_record, records, card}

low : (n : ℕ) → n % 256 < 256
low n = omega arith

both : (xs ys : List ℕ) → Octets xs → Octets ys → Octets (xs ++ ys)
both = All-append (λ x. x < 256)

be2_octets : (n : ℕ) → Octets (be2 n)
be2_octets n = (low (n / 256), (low n, tt))

be4_octets : (n : ℕ) → Octets (be4 n)
be4_octets n = (low (n / 16777216), (low (n / 65536), (low (n / 256), (low n, tt))))

be8_octets : (n : ℕ) → Octets (be8 n)
be8_octets n = (low (n / 72057594037927936), (low (n / 281474976710656), (low (n / 1099511627776), (low (n / 4294967296), be4_octets n))))

header_octets : (v number : ℕ) → Octets (header v number)
header_octets v number = both mark (be2 v ++ be8 number) (omega arith, (omega arith, (omega arith, tt))) (both (be2 v) (be8 number) (be2_octets v) (be8_octets number))

head_octets : (k c e l : ℕ) → k < 256 → Octets (head k c e l)
head_octets k c e l h = (h, both (be4 c) (be2 e ++ be2 l) (be4_octets c) (both (be2 e) (be2 l) (be2_octets e) (be2_octets l)))

module _ (S : Sealing) (L : Laws S) (key : List ℕ) (hk : Bytes 16 key) (number : ℕ) where
  abbrev h : List ℕ
  h = header S.version number

  h_octets : Octets h
  h_octets = header_octets S.version number

  nonce_bytes : (n : ℕ) → Bytes 16 (nonce h n)
  nonce_bytes n = record { size = refl; small = both (drop 5 h) (be8 n) (All-drop (λ x. x < 256) 5 h h_octets) (be8_octets n) }

  sealed_octets : (n : ℕ) (hd m : List ℕ) → Octets hd → Octets m → Octets (sealed S key h n hd m)
  sealed_octets n hd m oh om =
      let d = both h hd h_octets oh in
      both hd (S.ciphertext key (nonce h n) (h ++ hd) m ++ S.tag key (nonce h n) (h ++ hd) m) oh
      (both (S.ciphertext key (nonce h n) (h ++ hd) m) (S.tag key (nonce h n) (h ++ hd) m) (L.ciphertext_octets key (nonce h n) (h ++ hd) m hk (nonce_bytes n) d om) (L.tag_octets key (nonce h n) (h ++ hd) m hk (nonce_bytes n) d om))

  records_octets : (n : ℕ) (xs : List Sheet) → AllByRecursion (λ s. Octets s.body) xs → Octets (records S key h n xs)
  records_octets n [] w = tt
  records_octets n (s ∷ xs) w =
      both (sheet_record S key h n s) (records S key h (suc n) xs) (sealed_octets n (head 1 s.cell s.edition (length s.body)) s.body (head_octets 1 s.cell s.edition (length s.body) (omega arith)) w.0) (records_octets (suc n) xs w.1)

  pub card_octets : (xs : List Sheet) → AllByRecursion (λ s. Octets s.body) xs → Octets (card S key number xs)
  card_octets xs w =
      both h (records S key h 0 xs ++ end_record S key h (length xs)) h_octets
      (both (records S key h 0 xs) (end_record S key h (length xs)) (records_octets 0 xs w) (sealed_octets (length xs) (head 2 (length xs) 0 0) [] (head_octets 2 (length xs) 0 0 (omega arith)) tt))
