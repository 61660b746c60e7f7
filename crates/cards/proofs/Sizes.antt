-- How many bytes a card has.
use Rattle.std.proofs.Common.{◌≡◌, ℕ, suc, ◌+◌, List, [], ◌∷◌, ◌++◌, length, ap, ◌∙◌, arith}
use Rattle.std.proofs.lemmas.List.{length-append}
use Rattle.sealer.specs.Sealing.{Sealing, Laws}
use Rattle.cards.specs.Claims.{SizesTold}
use Rattle.cards.specs.Format.{header, Sheet, sheet_record, end_record, records, records_bytes, card, card_bytes}
use Rattle.cards.proofs.Reading.{reads_card}
use Rattle.cards.proofs.Writing.{sheet_length, end_length}

module _ (S : Sealing) (L : Laws S) (key : List ℕ) (number : ℕ) where
  length-records : (n : ℕ) (xs : List Sheet) → length (records S key (header S.version number) n xs) ≡ records_bytes S.width xs
  length-records n [] = omega arith
  length-records n (s ∷ xs) =
      length-append (sheet_record S key (header S.version number) n s) (records S key (header S.version number) (suc n) xs)
      ∙ omega (arith, sheet_length S L key number n s, length-records (suc n) xs)

  -- a card of these sheets has so many bytes
  pub length-card : (xs : List Sheet) → length (card S key number xs) ≡ card_bytes S.width xs
  length-card xs =
      let rs = records S key (header S.version number) 0 xs in
      let end = end_record S key (header S.version number) (length xs) in
      length-append (header S.version number) (rs ++ end)
      ∙ omega (arith, length-append rs end, length-records 0 xs, end_length S L key number (length xs))

pub sizes_told : (S : Sealing) → Laws S → SizesTold S
sizes_told S L key bytes sheets o a =
    let x = reads_card S L key bytes sheets o a in
    ap length x.is ∙ length-card S L key x.number sheets
