-- A card that check passes, and its lines.
use Rattle.std.proofs.Common.{◌≡◌, ℕ, ◌<◌, ◌≤◌, true, eqb, List, ◌++◌, length, get_or, Ok, Err, Result, sym, refl, ap, ◌∙◌, arith, le_refl}
use Rattle.std.proofs.ByRecursion.{All-get_or}
use Rattle.std.proofs.lemmas.Bool.Decides.{nat_tests}
use Rattle.sealer.specs.Sealing.{Sealing, Laws, Octets}
use Rattle.cards.specs.Faults.{Fault, and_then}
use Rattle.cards.specs.Format.{Sheet}
use Rattle.cards.specs.Reader.{Card, check, check_bytes, checked, filled, heading, sheet_drawn}
use Rattle.cards.proofs.Reading.{from_bytes, passed_reads}
use Rattle.cards.proofs.Records.{Fit}
use Rattle.reader.specs.Cards.{passes}
use Rattle.reader.specs.Heads.{a_head, headed}
use Rattle.reader.specs.declared.SheetHead.{SheetHead}
use Rattle.lister.proofs.Lines.{line, nothing}
use Rattle.sealers.specs.Names.{cipher_of, sealer_of}
use Rattle.sealers.specs.declared.SealerName.{SealerName}
use Rattle.lister.specs.declared.listing.Header.{Header}
use Rattle.lister.specs.Printed.{under, by_version, header_asked, card_listed, sheet_line, sheet_lines, card_line, listed, Holds}

module _ (S : Sealing) (key bs : List ℕ) (hk : length key ≡ 16) where
  goes_on : check S key 16 bs ≡ and_then (check_bytes S key bs) (λ xs. Ok (checked S key bs xs))
  goes_on =
      let t : eqb (length key) 16 ≡ true = grind (arith, nat_tests) in
      rw t refl

  refusal : (o : Result (List Sheet) Fault) (f : Fault) → Err f ≡ passes (and_then o (λ xs. Ok (checked S key bs xs))) → o ≡ Err f
  refusal (Ok xs) f e = absurd (let z : ◌≡◌ {A = ℕ} 0 1 = cc in omega arith)
  refusal (Err f') f e = ap Err (cc)

  pub listed_refused : (number : ℕ) (f : Fault) → Err f ≡ passes (check S key 16 bs) → listed S key number bs ≡ Err f
  unfolding listed
  listed_refused number f e = ap (λ o. and_then o (λ xs. Ok (card_line number S.version (length xs) ++ sheet_lines 0 xs))) (refusal (check_bytes S key bs) f (e ∙ ap passes goes_on))

  passed : (o : Result (List Sheet) Fault) → Ok tt ≡ passes (and_then o (λ xs. Ok (checked S key bs xs))) → (xs : List Sheet) × (o ≡ Ok xs)
  passed (Ok xs) e = (xs, refl)
  passed (Err f) e = absurd (let z : ◌≡◌ {A = ℕ} 0 1 = cc in omega arith)

  pub record Listed (number : ℕ) : Type 0 where
    pub sheets : List Sheet
    pub text : listed S key number bs ≡ Ok (card_line number S.version (length sheets) ++ sheet_lines 0 sheets)
    pub card : filled (check S key 16 bs) ≡ checked S key bs sheets
    pub holds : Holds S (checked S key bs sheets) sheets

  pub listed_passed : Laws S → Octets bs → (number : ℕ) → Ok tt ≡ passes (check S key 16 bs) → Listed number
  unfolding listed
  listed_passed L o number e =
      let x = passed (check_bytes S key bs) (e ∙ ap passes goes_on) in
      let xs = x.0 in
      let f = from_bytes S L key bs xs o x.1 in
      let r = passed_reads S L key bs xs hk o x.1 in
      let is : check S key 16 bs ≡ Ok (checked S key bs xs) = goes_on ∙ ap (λ z. and_then z (λ ys. Ok (checked S key bs ys))) x.1 in
      let same : r.card ≡ checked S key bs xs = let p = r.passes 16 (le_refl 16) in cc (p, is) in
      record {
        sheets = xs;
        text = ap (λ z. and_then z (λ ys. Ok (card_line number S.version (length ys) ++ sheet_lines 0 ys))) x.1;
        card = ap filled is;
        holds = record {
          counts = refl;
          gives = λ i buffer d lt full.
              let short = (All-get_or Fit xs i d lt f.fit).body in
              let fits : length (get_or xs i d).body ≤ length buffer = omega (arith, short, full) in
              ap (λ (c : Card). (sheet_drawn S c i buffer).answer) (sym same) ∙ (r.gives i buffer d lt fits).answer;
        };
      }

-- what sheet answers of a card whose sheets are these
shows : (S : Sealing) (c : Card) (i : ℕ) (b : List ℕ) (xs : List Sheet) → Holds S c xs → i < length xs → length b ≡ 4096
    → headed (sheet_drawn S c i b).answer ≡ headed (Ok (heading (get_or xs i nothing)))
shows S c i b xs h lt full = ap headed (h.gives i b nothing lt full)

-- the line of what sheet answers
pub line_is : (S : Sealing) (c : Card) (i : ℕ) (b : List ℕ) (xs : List Sheet) (h : SheetHead) → Holds S c xs → i < length xs → length b ≡ 4096 → Ok h ≡ headed (sheet_drawn S c i b).answer
    → sheet_line i h.cell h.edition h.«length» ≡ line i (get_or xs i nothing)
line_is S c i b xs h holds lt full e =
    let is : Ok h ≡ headed (Ok (heading (get_or xs i nothing))) = e ∙ shows S c i b xs holds lt full in
    let same : h ≡ a_head (get_or xs i nothing).cell (get_or xs i nothing).edition (length (get_or xs i nothing).body) = cc in
    ap (λ (x : SheetHead). sheet_line i x.cell x.edition x.«length») same

pub never_refused : (S : Sealing) (c : Card) (i : ℕ) (b : List ℕ) (xs : List Sheet) (f : Fault) → Holds S c xs → i < length xs → length b ≡ 4096 → Err f ≡ headed (sheet_drawn S c i b).answer → ⊥
never_refused S c i b xs f h lt full e = let q = e ∙ shows S c i b xs h lt full in let z : ◌≡◌ {A = ℕ} 0 1 = cc in omega arith

-- a card under the sealer that its version names
pub listed_under : (key bs : List ℕ) (h : Header) (s s' : SealerName) → Ok h ≡ header_asked bs → Ok s ≡ sealer_of h.version → s ≡ s' → listed (cipher_of s') key h.number bs ≡ card_listed key bs
listed_under key bs h s s' eh es e =
    ap (λ z. under z key h.number bs) (ap Ok (sym e) ∙ es)
    ∙ ap (λ z. and_then z (by_version key bs)) eh
