-- Texts that are written in parts, and the part of a source that is read.
use Rattle.std.proofs.Common.{◌≡◌, ℕ, ◌<◌, ◌≤◌, true, false, List, [], ◌++◌, length, take, Some, None, IfSome, Ok, Err, Option, Result, sym, refl, ap, ◌∙◌, subst, arith, append-nil, length-take-le, take_all, nat_le, inl, inr}
use Rattle.std.proofs.lemmas.Bool.{cases_lt}
use Rattle.std.proofs.lemmas.Bool.Decides.{nat_tests}
use Rattle.std.specs.Io.KnownBytes.{Appends}
use Rattle.std.proofs.KnownBytes.{Appends-trans}
use Rattle.streams.specs.Fronts.{ReadsFront, LosesFront, AppendsFront}
use Rattle.streams.proofs.Known.{fronts_more}
use Rattle.cards.specs.Faults.{Fault, fault}
use Rattle.lister.specs.declared.listing.Unlisted.{Unlisted}
use Rattle.lister.specs.declared.listing.Unlisted.TheVariants.{Refused, Unwritten}
use Rattle.lister.specs.Printed.{listing_text, text_of, Prints}

-- a text of two parts, the first of which is written
pub prints_after : (r : Result (Unit {0}) Unlisted) (a b c : Option (List ℕ)) (front rest : List ℕ) (o : Result (List ℕ) Fault)
    → o ≡ Ok (front ++ rest) → Appends a b front → Prints r b c (Ok rest) → Prints r a c o
prints_after (Ok _) a b c front rest o is h p =
    let same : p.0 ≡ rest = let e = p.1 in cc in
    (front ++ rest, is, Appends-trans a b c front rest h (subst (Appends b c) same p.2))
prints_after (Err (Unwritten e)) a b c front rest o is h p =
    let same : p.0 ≡ rest = let e = p.1 in cc in
    (front ++ rest, is, fronts_more a b c (front ++ rest) front rest [] (ap (λ (l : List ℕ). front ++ l) (sym (append-nil rest))) h (subst (AppendsFront b c) same p.2))
prints_after (Err (Refused f)) a b c front rest o is h p = absurd (let e = p.0 in let z : ◌≡◌ {A = ℕ} 0 1 = cc in omega arith)

-- an input that is too long says so, however long it is
too_long : (ys : List ℕ) → 65552 < length ys → listing_text ys ≡ text_of (Err (fault 3 1 0 0))
too_long ys lt =
    let enough : nat_le 16 (length ys) ≡ true = grind (arith, nat_tests) in
    let over : nat_le (length ys) 65552 ≡ false = grind (arith, nat_tests) in
    rw (enough, over) refl

-- so nothing is lost by reading one byte more than an input may have, and no further
pub read_enough : (k : ℕ) (xs : List ℕ) → 65552 < k → listing_text (take k xs) ≡ listing_text xs
read_enough k xs lt = elim (cases_lt k (length xs)) [
  | inl more ↦ too_long (take k xs) (let e : length (take k xs) ≡ k = length-take-le k xs (omega arith) in omega arith) ∙ sym (too_long xs (omega arith))
  | inr less ↦ ap listing_text (take_all k xs less)
]

-- what was written of the part that was read
pub of_read : (o o' : Option (List ℕ)) (k : ℕ) (bs : List ℕ) (P : List ℕ → Type 0) → 65552 < k → ReadsFront k o o' bs → P (listing_text bs) → IfSome o (λ xs. P (listing_text xs))
of_read None o' k bs P lt h p = tt
of_read (Some xs) o' k bs P lt h p = subst P (ap listing_text h.0 ∙ read_enough k xs lt) p

pub loses_read : (o o' : Option (List ℕ)) (k : ℕ) (bs : List ℕ) → k ≤ 65553 → ReadsFront k o o' bs → LosesFront 65553 o o'
loses_read None o' k bs le h = tt
loses_read (Some xs) o' k bs le h = (k, le, h.1)
