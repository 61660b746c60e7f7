-- Bytes of ASCII, written part by part. Assumes nothing.
use Rattle.std.proofs.Common.{◌≡◌, ℕ, zero, suc, ◌+◌, ◌<◌, ◌≤◌, List, [], ◌∷◌, ◌++◌, length, take, drop, replicate, sym, arith, subst, length-drop}
use borrow.Rule.Slice.PartMut.{put_mid}
use Rattle.std.specs.List.{AllByRecursion}
use Rattle.std.specs.Str.{IsAscii}
use Rattle.std.proofs.ByRecursion.{All-append, All-take, All-drop}
use Rattle.std.proofs.lemmas.List.{drop_all}
use Rattle.std.proofs.lemmas.Slice.{take-put_mid}

abbrev pub Ascii : List ℕ → Type 0
Ascii = AllByRecursion (λ b. b < 128)

pub ascii_replicate : (n b : ℕ) → b < 128 → Ascii (replicate n b)
ascii_replicate zero b h = tt
ascii_replicate (suc n) b h = (h, ascii_replicate n b h)

pub ascii_put_mid : (a k : ℕ) (xs ys : List ℕ) → Ascii xs → Ascii ys → Ascii (put_mid a k xs ys)
ascii_put_mid a k xs ys h j =
    let P : ℕ → Type 0 = λ b. b < 128 in
    All-append P (take a xs) (ys ++ drop k (drop a xs)) (All-take P a xs h) (All-append P ys (drop k (drop a xs)) j (All-drop P k (drop a xs) (All-drop P a xs h)))

-- a part more at the front
pub ascii_more : (a k n : ℕ) (xs ys : List ℕ) → n ≡ a + length ys → a ≤ length xs → Ascii (take a xs) → Ascii ys → Ascii (take n (put_mid a k xs ys))
ascii_more a k n xs ys end inside h j = subst Ascii (sym (take-put_mid a k xs ys n end inside)) (All-append (λ b. b < 128) (take a xs) ys h j)

-- the last part
pub ascii_last : (a k : ℕ) (xs ys : List ℕ) → length xs ≤ a + k → Ascii (take a xs) → Ascii ys → Ascii (put_mid a k xs ys)
ascii_last a k xs ys end h j =
    let P : ℕ → Type 0 = λ b. b < 128 in
    let none : drop k (drop a xs) ≡ [] = drop_all k (drop a xs) (omega (arith, length-drop a xs)) in
    subst (λ z. Ascii (take a xs ++ (ys ++ z))) (sym none) (All-append P (take a xs) (ys ++ []) h (All-append P ys [] j tt))

pub is_ascii : (xs : List ℕ) → Ascii xs → IsAscii xs
is_ascii [] h i = omega arith
is_ascii (x ∷ xs) h zero = h.0
is_ascii (x ∷ xs) h (suc i) = is_ascii xs h.1 i
