-- The first bytes of a list, read as a header or a head.
use Rattle.std.proofs.Common.{◌≡◌, ℕ, ◌+◌, ◌*◌, ◌^◌, ◌<◌, ◌≤◌, true, List, [], ◌∷◌, ◌++◌, length, take, sym, ap, ◌∙◌, arith}
use Rattle.std.specs.Str.{bytes_eq}
use Rattle.std.proofs.lemmas.Bool.Decides.{nat_tests}
use Rattle.sealer.specs.Sealing.{Octets}
use Rattle.cards.specs.Format.{be2, be8, mark, head, header}
use Rattle.cards.specs.Reader.{kind_of, cell_of, edition_of, length_of, version_of}
use Rattle.cards.proofs.Numbers.{be2_from, be4_from, be8_from, eight}

-- the fields of nine bytes make them up again
pub head_from : (xs : List ℕ) → Octets xs → 9 ≤ length xs → take 9 xs ≡ head (kind_of xs) (cell_of xs) (edition_of xs) (length_of xs)
head_from [] o h = absurd (omega arith)
head_from (k ∷ []) o h = absurd (omega arith)
head_from (k ∷ a ∷ []) o h = absurd (omega arith)
head_from (k ∷ a ∷ b ∷ []) o h = absurd (omega arith)
head_from (k ∷ a ∷ b ∷ c ∷ []) o h = absurd (omega arith)
head_from (k ∷ a ∷ b ∷ c ∷ d ∷ []) o h = absurd (omega arith)
head_from (k ∷ a ∷ b ∷ c ∷ d ∷ e ∷ []) o h = absurd (omega arith)
head_from (k ∷ a ∷ b ∷ c ∷ d ∷ e ∷ f ∷ []) o h = absurd (omega arith)
head_from (k ∷ a ∷ b ∷ c ∷ d ∷ e ∷ f ∷ l ∷ []) o h = absurd (omega arith)
head_from (k ∷ a ∷ b ∷ c ∷ d ∷ e ∷ f ∷ l ∷ m ∷ xs) o h =
    let x = be4_from a b c d o.1.0 o.1.1.0 o.1.1.1.0 o.1.1.1.1.0 in
    let y = be2_from e f o.1.1.1.1.1.0 o.1.1.1.1.1.1.0 in
    let z = be2_from l m o.1.1.1.1.1.1.1.0 o.1.1.1.1.1.1.1.1.0 in
    sym (ap (λ (t : List ℕ). k ∷ (t ++ (be2 (e * 256 + f) ++ be2 (l * 256 + m)))) x ∙ ap (λ (t : List ℕ). k ∷ a ∷ b ∷ c ∷ d ∷ (t ++ be2 (l * 256 + m))) y ∙ ap (λ (t : List ℕ). k ∷ a ∷ b ∷ c ∷ d ∷ e ∷ f ∷ t) z)

-- thirteen bytes with the mark and the version are a header, of the card number that stands there
pub record Headed (v : ℕ) (xs : List ℕ) : Type 0 where
  pub number : ℕ
  pub small : number < 2 ^ 64
  pub is : take 13 xs ≡ header v number

same_mark : (a b c : ℕ) → bytes_eq (a ∷ b ∷ c ∷ []) mark ≡ true → (a ≡ 0x53) × (b ≡ 0x45) × (c ≡ 0x41)
same_mark a b c h = (grind (arith, nat_tests), grind (arith, nat_tests), grind (arith, nat_tests))

pub header_from : (v : ℕ) (xs : List ℕ) → Octets xs → 13 ≤ length xs → bytes_eq (take 3 xs) mark ≡ true → version_of xs ≡ v → Headed v xs
header_from v [] o h k e = absurd (omega arith)
header_from v (m ∷ []) o h k e = absurd (omega arith)
header_from v (m ∷ n ∷ []) o h k e = absurd (omega arith)
header_from v (m ∷ n ∷ l ∷ []) o h k e = absurd (omega arith)
header_from v (m ∷ n ∷ l ∷ s ∷ []) o h k e = absurd (omega arith)
header_from v (m ∷ n ∷ l ∷ s ∷ t ∷ []) o h k e = absurd (omega arith)
header_from v (m ∷ n ∷ l ∷ s ∷ t ∷ a ∷ []) o h k e = absurd (omega arith)
header_from v (m ∷ n ∷ l ∷ s ∷ t ∷ a ∷ b ∷ []) o h k e = absurd (omega arith)
header_from v (m ∷ n ∷ l ∷ s ∷ t ∷ a ∷ b ∷ c ∷ []) o h k e = absurd (omega arith)
header_from v (m ∷ n ∷ l ∷ s ∷ t ∷ a ∷ b ∷ c ∷ d ∷ []) o h k e = absurd (omega arith)
header_from v (m ∷ n ∷ l ∷ s ∷ t ∷ a ∷ b ∷ c ∷ d ∷ f ∷ []) o h k e = absurd (omega arith)
header_from v (m ∷ n ∷ l ∷ s ∷ t ∷ a ∷ b ∷ c ∷ d ∷ f ∷ g ∷ []) o h k e = absurd (omega arith)
header_from v (m ∷ n ∷ l ∷ s ∷ t ∷ a ∷ b ∷ c ∷ d ∷ f ∷ g ∷ i ∷ []) o h k e = absurd (omega arith)
header_from v (m ∷ n ∷ l ∷ s ∷ t ∷ a ∷ b ∷ c ∷ d ∷ f ∷ g ∷ i ∷ j ∷ xs) o h k e =
    let q = o.1.1.1 in
    let r = q.1.1 in
    let x = be8_from a b c d f g i j r.0 r.1.0 r.1.1.0 r.1.1.1.0 r.1.1.1.1.0 r.1.1.1.1.1.0 r.1.1.1.1.1.1.0 r.1.1.1.1.1.1.1.0 in
    let y : be2 v ≡ s ∷ t ∷ [] = ap be2 (sym e) ∙ be2_from s t q.0 q.1.0 in
    let z = same_mark m n l k in
    let z0 : m ≡ 0x53 = z.0 in
    let z1 : n ≡ 0x45 = z.1 in
    let z2 : l ≡ 0x41 = z.2 in
    record {
      number = eight a b c d f g i j;
      small = x.1;
      is = rw (z0, z1, z2) (sym (ap (λ (u : List ℕ). mark ++ (u ++ be8 (eight a b c d f g i j))) y ∙ ap (λ (u : List ℕ). mark ++ (s ∷ t ∷ u)) x.0));
    }
