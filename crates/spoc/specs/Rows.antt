-- Laws of put, pick and xors. Assumes nothing.
use Rattle.std.specs.Prelude.{◌≡◌, ℕ, zero, suc, ◌<◌, ◌≤◌, ◌≢◌, List, [], ◌∷◌, ◌++◌, length, set, replicate, bit_xor, slice_index, slice_index_or, slice_set, refl}
use Rattle.std.proofs.Common.{sym, ap, ◌∙◌, arith, le_of_suc-le-suc}
use Rattle.std.specs.Int.Bits.{xor_zero_r}
use Rattle.std.proofs.lemmas.List.{length-set, get_or-set_same, get_or-set_other, ext_get_or, length-map, get_or-map}
use Rattle.permutations.specs.Bytes.{xors}
use Rattle.permutations.specs.Xors.{length_xors}
use Rattle.spoc.specs.Feed.{put, pick}

pub suc_inj : (a b : ℕ) → suc a ≡ suc b → a ≡ b
suc_inj a b e = omega arith

-- ---- put

pub length_put : (ps vs s : List ℕ) → length (put ps vs s) ≡ length s
length_put [] vs s = refl
length_put (p ∷ ps) [] s = refl
length_put (p ∷ ps) (v ∷ vs) s = length_put ps vs (slice_set s p v) ∙ length-set s p v

pub put_push : (ps vs : List ℕ) (p v : ℕ) (s : List ℕ) → length ps ≡ length vs → put (ps ++ p ∷ []) (vs ++ v ∷ []) s ≡ slice_set (put ps vs s) p v
put_push [] [] p v s e = refl
put_push [] (w ∷ vs) p v s e = absurd (omega arith)
put_push (o ∷ ps) [] p v s e = absurd (omega arith)
put_push (o ∷ ps) (w ∷ vs) p v s e = put_push ps vs p v (slice_set s o w) (suc_inj (length ps) (length vs) e)

pub get_or_put_other : (ps vs s : List ℕ) (p d : ℕ) → ((i : ℕ) → i < length ps → p ≢ slice_index ps i) → slice_index_or (put ps vs s) p d ≡ slice_index_or s p d
get_or_put_other [] vs s p d h = refl
get_or_put_other (o ∷ ps) [] s p d h = refl
get_or_put_other (o ∷ ps) (v ∷ vs) s p d h =
    get_or_put_other ps vs (slice_set s o v) p d (λ i l. h (suc i) (omega arith)) ∙ get_or-set_other s o p v d (h 0 (omega arith))

-- what put leaves at its places, which differ
pub get_or_put : (ps vs s : List ℕ) (i : ℕ) → length ps ≡ length vs → i < length ps
    → ((j : ℕ) → j < length ps → slice_index ps j < length s)
    → ((j k : ℕ) → j < length ps → k < length ps → slice_index ps j ≡ slice_index ps k → j ≡ k)
    → slice_index (put ps vs s) (slice_index ps i) ≡ slice_index vs i
get_or_put [] vs s i e h low apart = absurd (omega arith)
get_or_put (p ∷ ps) [] s i e h low apart = absurd (omega arith)
get_or_put (p ∷ ps) (v ∷ vs) s zero e h low apart =
    get_or_put_other ps vs (slice_set s p v) p 0 (λ j l same. let z = apart 0 (suc j) (omega arith) (omega arith) same in omega (arith, z))
    ∙ get_or-set_same s p v 0 (low 0 (omega arith))
get_or_put (p ∷ ps) (v ∷ vs) s (suc i) e h low apart =
    get_or_put ps vs (slice_set s p v) i (omega arith) (omega arith)
    (λ j l. rw (length-set s p v) (low (suc j) (omega arith)))
    (λ j k l m same. let z = apart (suc j) (suc k) (omega arith) (omega arith) same in omega (arith, z))

-- ---- xors

pub length_xors_le : (s t : List ℕ) → length s ≤ length t → length (xors s t) ≡ length s
length_xors_le s t h = length_xors s t ∙ omega arith

pub xors_at : (s m : List ℕ) (p : ℕ) → p < length s → p < length m → slice_index (xors s m) p ≡ bit_xor (slice_index s p) (slice_index m p)
unfolding xors
xors_at [] m p h k = absurd (omega arith)
xors_at (x ∷ s) [] p h k = absurd (omega arith)
xors_at (x ∷ s) (y ∷ m) zero h k = refl
xors_at (x ∷ s) (y ∷ m) (suc p) h k = xors_at s m p (le_of_suc-le-suc h) (le_of_suc-le-suc k)

pub xors_set : (s m : List ℕ) (p v : ℕ) → p < length m → xors s (slice_set m p v) ≡ slice_set (xors s m) p (bit_xor (slice_index s p) v)
unfolding xors
xors_set [] m p v h = refl
xors_set (x ∷ s) [] p v h = absurd (omega arith)
xors_set (x ∷ s) (y ∷ m) zero v h = refl
xors_set (x ∷ s) (y ∷ m) (suc p) v h = ap (λ t. bit_xor x y ∷ t) (xors_set s m p v (le_of_suc-le-suc h))

-- what stands where the mask has nothing
get_or_xors_clear : (s m : List ℕ) (p : ℕ) → p < length m → slice_index m p ≡ 0 → slice_index (xors s m) p ≡ slice_index s p
unfolding xors
get_or_xors_clear [] m p h z = refl
get_or_xors_clear (x ∷ s) [] p h z = absurd (omega arith)
get_or_xors_clear (x ∷ s) (y ∷ m) zero h z = ap (bit_xor x) z ∙ xor_zero_r x
get_or_xors_clear (x ∷ s) (y ∷ m) (suc p) h z = get_or_xors_clear s m p (le_of_suc-le-suc h) z

-- at a place where the mask has nothing yet, a byte xored into the state is that byte in the mask
pub xors_place : (s m : List ℕ) (p v : ℕ) → p < length m → slice_index m p ≡ 0 → slice_set (xors s m) p (bit_xor (slice_index (xors s m) p) v) ≡ xors s (slice_set m p v)
xors_place s m p v h z = ap (λ y. set (xors s m) p (bit_xor y v)) (get_or_xors_clear s m p h z) ∙ sym (xors_set s m p v h)

pub get_or_zeros : (b p : ℕ) → ◌≡◌ {A = ℕ} (slice_index (replicate b 0) p) 0
get_or_zeros zero p = refl
get_or_zeros (suc b) zero = refl
get_or_zeros (suc b) (suc p) = get_or_zeros b p

pub xors_zeros : (s : List ℕ) (b : ℕ) → length s ≤ b → xors s (replicate b 0) ≡ s
unfolding xors
xors_zeros [] b h = refl
xors_zeros (x ∷ s) zero h = absurd (omega arith)
xors_zeros (x ∷ s) (suc b) h = ap (λ y. y ∷ xors s (replicate b 0)) (xor_zero_r x) ∙ ap (λ t. x ∷ t) (xors_zeros s b (le_of_suc-le-suc h))

-- ---- pick

pub length_pick : (ps t : List ℕ) → length (pick ps t) ≡ length ps
length_pick ps t = length-map ps (λ p. slice_index t p)

pub pick_at : (ps t : List ℕ) (k : ℕ) → k < length ps → slice_index (pick ps t) k ≡ slice_index t (slice_index ps k)
pick_at ps t k h = get_or-map (λ p. slice_index t p) ps k 0 0 h

-- what a loop over the places makes
pub pick_is : (o ps t : List ℕ) → length o ≡ length ps → ((k : ℕ) → k < length ps → slice_index o k ≡ slice_index t (slice_index ps k)) → o ≡ pick ps t
pick_is o ps t e h = ext_get_or 0 o (pick ps t) (e ∙ sym (length_pick ps t)) (λ k j. h k (omega arith) ∙ sym (pick_at ps t k (omega arith)))

pub xors_pick : (o s ps t : List ℕ) → length o ≡ length s → length s ≤ length ps
    → ((k : ℕ) → k < length s → slice_index o k ≡ bit_xor (slice_index s k) (slice_index t (slice_index ps k))) → o ≡ xors s (pick ps t)
xors_pick o s ps t e l h =
    let n = length_pick ps t in
    ext_get_or 0 o (xors s (pick ps t)) (e ∙ sym (length_xors_le s (pick ps t) (omega arith)))
    (λ k j. h k (omega arith) ∙ sym (xors_at s (pick ps t) k (omega arith) (omega arith) ∙ ap (bit_xor (slice_index s k)) (pick_at ps t k (omega arith))))
