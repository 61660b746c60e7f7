-- A word by its bytes. Assumes nothing.
use Rattle.std.proofs.Common.{◌≡◌, ℕ, suc, Bool, true, false, eqb, ◌&&◌, List, [], ◌∷◌, length, get_or, sym, refl, ap, ◌∙◌, arith}
use Rattle.std.proofs.lemmas.Bool.{ne_eqb}
use Rattle.std.proofs.lemmas.Bool.Decides.{nat_tests}
use Rattle.std.specs.Str.{bytes_eq}

-- whether the bytes of p stand in s, from index i on
abbrev pub has : List ℕ → ℕ → List ℕ → Bool
has s i [] = true
has s i (c ∷ p) = eqb (get_or s i 0) c && has s (suc i) p

has_later : (x : ℕ) (s : List ℕ) (i : ℕ) (p : List ℕ) → has s i p ≡ has (x ∷ s) (suc i) p
has_later x s i [] = refl
has_later x s i (c ∷ p) = ap (λ t. eqb (get_or s i 0) c && t) (has_later x s (suc i) p)

exchanged : (a b c : Bool) → (a && (b && c)) ≡ (b && (a && c))
exchanged true b c = refl
exchanged false true c = refl
exchanged false false c = refl

pub by_bytes : (s p : List ℕ) → bytes_eq s p ≡ (eqb (length s) (length p) && has s 0 p)
by_bytes [] [] = refl
by_bytes [] (c ∷ p) = sym (ap (λ t. t && has [] 0 (c ∷ p)) (ne_eqb 0 (length (c ∷ p)) (λ e. omega (arith, e))))
by_bytes (x ∷ s) [] = sym (ap (λ t. t && true) (ne_eqb (length (x ∷ s)) 0 (λ e. omega (arith, e))))
by_bytes (x ∷ s) (c ∷ p) =
    let longer : eqb (length s) (length p) ≡ eqb (length (x ∷ s)) (length (c ∷ p)) = grind (arith, nat_tests) in
    ap (λ t. eqb x c && t) (by_bytes s p ∙ ap (λ t. eqb (length s) (length p) && t) (has_later x s 0 p))
    ∙ exchanged (eqb x c) (eqb (length s) (length p)) (has (x ∷ s) 1 p)
    ∙ ap (λ t. t && (eqb x c && has (x ∷ s) 1 p)) longer
