-- What is stored is loaded again. Assumes nothing.
use Rattle.std.specs.Prelude.{◌≡◌, ℕ, zero, suc, ◌+◌, ◌-◌, ◌*◌, ◌/◌, ◌%◌, ◌^◌, ◌<◌, ◌≤◌, List, [], ◌∷◌, ◌++◌, length, take, drop, replicate, slice_index, refl}
use Rattle.std.proofs.Common.{zero-add, take_all, sym, ap, ap₂, subst, ◌∙◌, append-nil, append_assoc, mod-lt, mod-eq_of_lt, mul_assoc, mul-suc, mul-zero, suc-mul, zero-mul, mul_comm, mul-le-mul_left, div-one, arith, length-append, length-take, length-drop, take-append-drop, take_at, drop_at, drop-drop, add-one}
use Rattle.std.proofs.Math.Nat.{pow-succ', one-le-pow, mod-one, mul-add-div_right, mul-add-mod_self_right}
use Rattle.std.proofs.Math.Arith.{digits_lt, digits_div, mod-mul}
use Rattle.std.specs.List.{AllByRecursion}
use Rattle.std.proofs.ByRecursion.{All-append, All-take, All-drop}
use borrow.Rule.Slice.PartMut.{put_mid}
use Rattle.std.proofs.lemmas.Slice.{take-put_mid}
use Rattle.std.proofs.lemmas.List.{nil_from_length, take-replicate, take_more, drop_all}
use Rattle.permutations.specs.Bytes.{load, store, loads, stores}

abbrev pub Byte : ℕ → Type 0
Byte x = x < 256

pub length_store : (n x : ℕ) → length (store n x) ≡ n
unfolding store
length_store zero x = refl
length_store (suc n) x = ap suc (length_store n x)

pub store_bytes : (n x : ℕ) → AllByRecursion Byte (store n x)
unfolding store
store_bytes zero x = tt
store_bytes (suc n) x = (mod-lt (x / 256 ^ n) (omega arith), store_bytes n x)

pow_256_pos : (n : ℕ) → 0 < 256 ^ n
pow_256_pos n = one-le-pow n 256 (omega arith)

pub load_store : (n x : ℕ) → load (store n x) ≡ x % 256 ^ n
unfolding load store
load_store zero x = sym (mod-one x)
load_store (suc n) x =
    ap₂ (λ k y. x / 256 ^ n % 256 * 256 ^ k + y) (length_store n x) (load_store n x)
    ∙ sym (mod-mul x {m = 256} {c = 256 ^ n} (omega arith) (pow_256_pos n))
    ∙ ap (λ z. x % z) (sym (pow-succ' 256 n))

pub load_lt : (bs : List ℕ) → AllByRecursion Byte bs → load bs < 256 ^ length bs
unfolding load
load_lt [] h = omega arith
load_lt (b ∷ bs) h = subst (λ z. load (b ∷ bs) < z) (sym (pow-succ' 256 (length bs))) (digits_lt h.0 (load_lt bs h.1))

-- the high part of x does not matter
store_low : (n q x : ℕ) → store n (q * 256 ^ n + x) ≡ store n x
unfolding store
store_low zero q x = refl
store_low (suc n) q x =
    let e : q * 256 ^ suc n + x ≡ q * 256 * 256 ^ n + x = ap (λ z. q * z + x) (pow-succ' 256 n) ∙ ap (λ z. z + x) (sym (mul_assoc q 256 (256 ^ n))) in
    ap (store (suc n)) e
    ∙ ap₂ (λ h (t : List ℕ). h % 256 ∷ t) (mul-add-div_right (pow_256_pos n) (q * 256) x) (store_low n (q * 256) x)
    ∙ ap (λ h. h ∷ store n x) (mul-add-mod_self_right q 256 (x / 256 ^ n))

pub store_load : (bs : List ℕ) → AllByRecursion Byte bs → store (length bs) (load bs) ≡ bs
unfolding load store
store_load [] h = refl
store_load (b ∷ bs) h =
    ap₂ (λ x (t : List ℕ). x % 256 ∷ t) (digits_div b (load_lt bs h.1)) (store_low (length bs) b (load bs) ∙ store_load bs h.1)
    ∙ ap (λ x. x ∷ bs) (mod-eq_of_lt h.0)

-- ---- several words

pub length_stores : (w : ℕ) (xs : List ℕ) → length (stores w xs) ≡ w * length xs
unfolding stores
length_stores w [] = sym (mul-zero w)
length_stores w (x ∷ xs) = length-append (store w x) (stores w xs) ∙ ap₂ (λ a b. a + b) (length_store w x) (length_stores w xs) ∙ omega (arith, mul-suc w (length xs))

pub stores_bytes : (w : ℕ) (xs : List ℕ) → AllByRecursion Byte (stores w xs)
unfolding stores
stores_bytes w [] = tt
stores_bytes w (x ∷ xs) = All-append Byte (store w x) (stores w xs) (store_bytes w x) (stores_bytes w xs)

pub length_loads : (w n : ℕ) (s : List ℕ) → length (loads w n s) ≡ n
unfolding loads
length_loads w zero s = refl
length_loads w (suc n) s = ap suc (length_loads w n (drop w s))

pub loads_stores : (w : ℕ) (xs : List ℕ) → AllByRecursion (λ x. x < 256 ^ w) xs → loads w (length xs) (stores w xs) ≡ xs
unfolding loads stores
loads_stores w [] h = refl
loads_stores w (x ∷ xs) h =
    ap₂ (λ (a b : List ℕ). load a ∷ loads w (length xs) b) (take_at (store w x) (stores w xs) w (length_store w x)) (drop_at (store w x) (stores w xs) w (length_store w x))
    ∙ ap₂ (λ a b. a ∷ b) (load_store w x ∙ mod-eq_of_lt h.0) (loads_stores w xs h.1)

front : (w n : ℕ) (s : List ℕ) → length s ≡ w * suc n → length (take w s) ≡ w
front w n s e = length-take w s ∙ omega (arith, mul-suc w n)

rest : (w n : ℕ) (s : List ℕ) → length s ≡ w * suc n → length (drop w s) ≡ w * n
rest w n s e = length-drop w s ∙ omega (arith, mul-suc w n)

pub loads_lt : (w n : ℕ) (s : List ℕ) → length s ≡ w * n → AllByRecursion Byte s → AllByRecursion (λ x. x < 256 ^ w) (loads w n s)
unfolding loads
loads_lt w zero s e h = tt
loads_lt w (suc n) s e h =
    (subst (λ z. load (take w s) < 256 ^ z) (front w n s e) (load_lt (take w s) (All-take Byte w s h)), loads_lt w n (drop w s) (rest w n s e) (All-drop Byte w s h))

pub stores_loads : (w n : ℕ) (s : List ℕ) → length s ≡ w * n → AllByRecursion Byte s → stores w (loads w n s) ≡ s
unfolding loads stores
stores_loads w zero s e h = sym (nil_from_length s (e ∙ mul-zero w))
stores_loads w (suc n) s e h =
    let one : store w (load (take w s)) ≡ take w s = subst (λ z. store z (load (take w s)) ≡ take w s) (front w n s e) (store_load (take w s) (All-take Byte w s h)) in
    ap₂ (λ a b. a ++ b) one (stores_loads w n (drop w s) (rest w n s e) (All-drop Byte w s h)) ∙ take-append-drop w s

-- ---- as the code has it

pub load_3 : (p : List ℕ) → length p ≡ 3 → load p ≡ slice_index p 0 * 65536 + slice_index p 1 * 256 + slice_index p 2
unfolding load
load_3 [] e = absurd (omega arith)
load_3 (a ∷ []) e = absurd (omega arith)
load_3 (a ∷ b ∷ []) e = absurd (omega arith)
load_3 (a ∷ b ∷ c ∷ []) e = omega arith
load_3 (a ∷ b ∷ c ∷ d ∷ p) e = absurd (omega arith)

pub load_4 : (p : List ℕ) → length p ≡ 4 → load p ≡ slice_index p 0 * 16777216 + slice_index p 1 * 65536 + slice_index p 2 * 256 + slice_index p 3
unfolding load
load_4 [] e = absurd (omega arith)
load_4 (a ∷ p) e =
    let n : length p ≡ 3 = omega arith in
    ap₂ (λ k z. a * 256 ^ k + z) n (load_3 p n) ∙ omega arith

pub store_3 : (x : ℕ) → x / 65536 % 256 ∷ x / 256 % 256 ∷ x % 256 ∷ [] ≡ store 3 x
unfolding store
store_3 x = ap (λ z. x / 65536 % 256 ∷ x / 256 % 256 ∷ z % 256 ∷ []) (sym (div-one x))

pub store_4 : (x : ℕ) → x / 16777216 % 256 ∷ x / 65536 % 256 ∷ x / 256 % 256 ∷ x % 256 ∷ [] ≡ store 4 x
unfolding store
store_4 x = ap (λ z. x / 16777216 % 256 ∷ z) (store_3 x)

load_zeros : (n : ℕ) (bs : List ℕ) → load (replicate n 0 ++ bs) ≡ load bs
unfolding load
load_zeros zero bs = refl
load_zeros (suc n) bs = ap₂ (λ a b. a + b) (zero-mul (256 ^ length (replicate n 0 ++ bs))) (load_zeros n bs) ∙ zero-add (load bs)

-- the bytes of a word at the end of four
pub load_end : (n : ℕ) (bs : List ℕ) → n ≤ 4 → load (put_mid (4 - n) (4 - (4 - n)) (0 ∷ 0 ∷ 0 ∷ 0 ∷ []) bs) ≡ load bs
load_end n bs h =
    let k : ℕ = 4 - n in
    let z : List ℕ = 0 ∷ 0 ∷ 0 ∷ 0 ∷ [] in
    ap₂ (λ a b. load (a ++ (bs ++ b))) (take-replicate k 4 0 (omega arith)) (drop_all (4 - k) (drop k z) (omega (arith, length-drop k z)))
    ∙ load_zeros k (bs ++ [])
    ∙ ap load (append-nil bs)

drop_store : (k n m x : ℕ) → m ≡ k + n → drop k (store m x) ≡ store n x
unfolding store
drop_store zero n m x e = ap (λ z. store z x) (e ∙ zero-add n)
drop_store (suc k) n zero x e = absurd (omega arith)
drop_store (suc k) n (suc m) x e = drop_store k n m x (omega arith)

-- the last n of four bytes
pub store_end : (n x : ℕ) → n ≤ 4 → take (4 - (4 - n)) (drop (4 - n) (x / 16777216 % 256 ∷ x / 65536 % 256 ∷ x / 256 % 256 ∷ x % 256 ∷ [])) ≡ store n x
store_end n x h =
    let k : ℕ = 4 - n in
    ap (λ z. take (4 - k) (drop k z)) (store_4 x)
    ∙ ap (take (4 - k)) (drop_store k n 4 x (omega arith))
    ∙ take_all (4 - k) (store n x) (omega (arith, length_store n x))

pub part_length : (i w : ℕ) → (i + 1) * w - i * w ≡ w
part_length i w = let e : (i + 1) * w ≡ i * w + w = ap (λ z. z * w) (add-one i) ∙ suc-mul i w in omega arith

pub part_end : (i w n l : ℕ) → i < n → l ≡ w * n → i * w + w ≤ l
part_end i w n l h e = omega (arith, mul-le-mul_left w h, mul-suc w i, mul_comm i w)

pub loads_at : (w n i : ℕ) (s : List ℕ) → i < n → slice_index (loads w n s) i ≡ load (take w (drop (i * w) s))
unfolding loads
loads_at w zero i s h = absurd (omega arith)
loads_at w (suc n) zero s h = ap (λ k. load (take w (drop k s))) (sym (zero-mul w))
loads_at w (suc n) (suc i) s h =
    loads_at w n i (drop w s) (omega arith)
    ∙ ap (λ z. load (take w z)) (drop-drop (i * w) w s)
    ∙ ap (λ k. load (take w (drop k s))) (omega (arith, suc-mul i w))

pub stores_push : (w : ℕ) (xs : List ℕ) (x : ℕ) → stores w (xs ++ (x ∷ [])) ≡ stores w xs ++ store w x
unfolding stores
stores_push w [] x = append-nil (store w x)
stores_push w (y ∷ xs) x = ap (λ z. store w y ++ z) (stores_push w xs x) ∙ sym (append_assoc (store w y) (stores w xs) (store w x))

-- one word more is stored
pub stores_more : (w n i k : ℕ) (xs out ys : List ℕ) → n ≡ w → i < length xs → i * w + w ≤ length out
    → take (i * w) out ≡ stores w (take i xs) → ys ≡ store w (slice_index xs i)
    → take ((i + 1) * w) (put_mid (i * n) k out ys) ≡ stores w (take (i + 1) xs)
stores_more w n i k xs out ys n_is h room front last =
    let a : i * n ≡ i * w = ap (λ z. i * z) n_is in
    let b : length ys ≡ w = ap length last ∙ length_store w (slice_index xs i) in
    let e : (i + 1) * w ≡ i * w + w = ap (λ z. z * w) (add-one i) ∙ suc-mul i w in
    take-put_mid (i * n) k out ys ((i + 1) * w) (omega arith) (omega arith)
    ∙ ap₂ (λ z t. take z out ++ t) a last
    ∙ ap (λ z. z ++ store w (slice_index xs i)) front
    ∙ sym (stores_push w (take i xs) (slice_index xs i))
    ∙ ap (stores w) (sym (take_more xs i 0 h))
