-- Cutting into blocks, and the rows of masks that they give. Assumes nothing.
use Rattle.std.proofs.Common.{◌≡◌, ℕ, zero, suc, ◌+◌, ◌*◌, ◌-◌, ◌<◌, ◌≤◌, min, Bool, true, false, ◌&&◌, eqb, List, [], ◌∷◌, ◌++◌, map, length, take, drop, set, sym, refl, ap, ◌∙◌, ap₂, ⊎_elim, append_assoc, append-nil, arith}
use borrow.Rule.Slice.PartMut.{put_mid}
use lib.Bits.{bit_xor}
use Rattle.std.specs.List.{flat_map, AllByRecursion}
use Rattle.std.proofs.lemmas.List.{take-append-drop, length-append, length-take, length-drop, take_at, drop_at, take_all, drop_all, nil_from_length, set-set, get_or-set_same, length-replicate}
use Rattle.std.proofs.lemmas.Slice.{take-put_mid}
use Rattle.std.proofs.lemmas.Bool.{cases_lt, ne_eqb, eq-eqb}
use Rattle.permutations.specs.Bytes.{xors}
use Rattle.permutations.specs.Permutation.{Perm}
use Rattle.spoc.specs.Feed.{cut, blocks, put, zero_mask, padded, control, mask_with, mask, masks, control_place, flagged, ended, run, ciphers, pick}
use Rattle.spoc.specs.Suite.{Plan, Sound}
use Rattle.spoc.specs.Turns.{ended_if, control_byte}
use Rattle.spoc.specs.Rows.{length_put}
use Rattle.spoc.proofs.Masks.{rate_inside, length_rated}

-- ---- the blocks of a list

cut_nil : (r n : ℕ) → cut r n [] ≡ []
cut_nil r zero = refl
cut_nil r (suc n) = refl

cut_enough : (r n m : ℕ) (s : List ℕ) → 1 ≤ r → length s ≤ n → length s ≤ m → cut r n s ≡ cut r m s
cut_enough r zero m [] l h k = sym (cut_nil r m)
cut_enough r zero m (x ∷ s) l h k = absurd (omega arith)
cut_enough r (suc n) zero [] l h k = refl
cut_enough r (suc n) zero (x ∷ s) l h k = absurd (omega arith)
cut_enough r (suc n) (suc m) [] l h k = refl
cut_enough r (suc n) (suc m) (x ∷ s) l h k =
    let e = length-drop r (x ∷ s) in
    ap (λ t. take r (x ∷ s) ∷ t) (cut_enough r n m (drop r (x ∷ s)) l (omega (arith, e)) (omega (arith, e)))

front : (r : ℕ) (x y : List ℕ) → length x ≡ min r (length (x ++ y)) → (take r (x ++ y) ≡ x) × (drop r (x ++ y) ≡ y)
front r x y e =
    let n = length-append x y in
    ⊎_elim
    (λ h. let none : y ≡ [] = nil_from_length y (omega (arith, n)) in
    (take_all r (x ++ y) (omega arith) ∙ ap (λ t. x ++ t) none ∙ append-nil x, drop_all r (x ++ y) (omega arith) ∙ sym none))
    (λ h. let full : length x ≡ r = omega (arith, n) in (take_at x y r full, drop_at x y r full))
    (cases_lt (length (x ++ y)) r)

-- the first block, and the blocks of the rest
pub blocks_more : (r : ℕ) (x y : List ℕ) → 1 ≤ r → 0 < length (x ++ y) → length x ≡ min r (length (x ++ y)) → blocks r (x ++ y) ≡ x ∷ blocks r y
blocks_more r [] y l h e = absurd (omega arith)
blocks_more r (a ∷ x) y l h e =
    let f = front r (a ∷ x) y e in
    rw (f.0, f.1) (ap (λ t. (a ∷ x) ∷ t) (cut_enough r (length (x ++ y)) (length y) y l (omega (arith, length-append x y)) (omega arith)))

-- the blocks joined are the list again
pub cut_joined : (r n : ℕ) (s : List ℕ) → 1 ≤ r → length s ≤ n → flat_map (λ (x : List ℕ). x) (cut r n s) ≡ s
cut_joined r zero [] l h = refl
cut_joined r zero (x ∷ s) l h = absurd (omega arith)
cut_joined r (suc n) [] l h = refl
cut_joined r (suc n) (x ∷ s) l h =
    ap (λ t. take r (x ∷ s) ++ t) (cut_joined r n (drop r (x ∷ s)) l (omega (arith, length-drop r (x ∷ s)))) ∙ take-append-drop r (x ∷ s)

pub blocks_same : (r : ℕ) (s t : List ℕ) → 1 ≤ r → blocks r s ≡ blocks r t → s ≡ t
blocks_same r s t l e =
    sym (cut_joined r (length s) s l (omega arith)) ∙ ap (flat_map (λ (x : List ℕ). x)) e ∙ cut_joined r (length t) t l (omega arith)

-- no block is longer than r
pub cut_fits : (r n : ℕ) (s : List ℕ) → AllByRecursion (λ x. length x ≤ r) (cut r n s)
cut_fits r zero s = tt
cut_fits r (suc n) [] = tt
cut_fits r (suc n) (x ∷ s) = (omega (arith, length-take r (x ∷ s)), cut_fits r n (drop r (x ∷ s)))

-- ---- a block off the front

-- the first block of `rest` is x, and t is left
pub record First (r : ℕ) (rest x t : List ℕ) : Type 0 where
  pub is : rest ≡ x ++ t
  pub wide : length x ≡ min r (length rest)
  pub some : 0 < length rest

-- chunks of r0 bytes, which is r, say so
pub first_chunk : (r r0 : ℕ) (rest x t : List ℕ) → r0 ≡ r → (rest ≡ x ++ t) × (length x ≡ min r0 (length rest)) × (0 < length rest) → First r rest x t
first_chunk r r0 rest x t e k = record { is = k.0; wide = rw e at k.1; some = k.2 }

-- it is block i of a list of n bytes
module _ (r n i : ℕ) (rest x t : List ℕ) (k : First r rest x t) (left : length rest ≡ n - i * r) where
  parts : length rest ≡ length x + length t
  parts = ap length k.is ∙ length-append x t

  pub next_left : length t ≡ n - (i + 1) * r
  next_left = omega (arith, parts, k.wide)

  -- it is the last exactly when nothing is left
  last_is : eqb (i * r + length x) n ≡ eqb (length t) 0
  last_is =
      ⊎_elim
      (λ h. ne_eqb (i * r + length x) n (λ e. omega (arith, parts)) ∙ sym (ne_eqb (length t) 0 (λ e. omega arith)))
      (λ h. eq-eqb (i * r + length x) n (omega (arith, parts, k.some)) ∙ sym (eq-eqb (length t) 0 (omega arith)))
      (cases_lt 0 (length t))

  -- where it begins and ends
  pub begins : n - length rest ≡ i * r
  begins = omega (arith, left, k.some)

  pub goes_to : n - length t ≡ i * r + length x
  goes_to = omega (arith, parts, left, k.some)

  -- its control byte, as code tells it with r1 and r2 for the rate
  pub control_is : (c : ℕ) (e : Bool) (r1 r2 cb : ℕ) → r1 ≡ r → r2 ≡ r → cb ≡ control_byte r2 c x (e && eqb (i * r1 + length x) n)
      → cb ≡ control_byte r c x (e && eqb (length t) 0)
  control_is c e r1 r2 cb e1 e2 is = is ∙ ap₂ (λ m l. control_byte m c x (e && eqb (i * l + length x) n)) e2 e1 ∙ ap (λ b. control_byte r c x (e && b)) last_is

-- ---- a turn of a loop over the blocks

module _ (p : Perm) (q : Plan) (laws : Sound p q) where
  pub flagged_mask : (c : ℕ) (x : List ℕ) → flagged q (mask_with p q c x) ≡ mask_with p q (bit_xor c 128) x
  flagged_mask c x =
      let m : List ℕ = put q.masked_places (padded q.rate x) (zero_mask p) in
      let inside : control_place q < length m = omega (arith, length_put q.masked_places (padded q.rate x) (zero_mask p), length-replicate {A = ℕ} p.size 0, rate_inside p q laws 0 laws.rate_low) in
      set-set m (control_place q) c _ ∙ ap (λ v. set m (control_place q) (bit_xor v 128)) (get_or-set_same m (control_place q) c 0 inside)

  -- the masks of what begins with the block x, in a row that ends with the feed if e says so
  ended_first : (e : Bool) (c : ℕ) (x y : List ℕ) → ended_if e q (mask p q c x ∷ masks p q c y) ≡ mask_with p q (control_byte q.rate c x (e && eqb (length y) 0)) x ∷ ended_if e q (masks p q c y)
  ended_first true c x [] = ap (λ m. m ∷ []) (flagged_mask (control q.rate c x) x)
  ended_first true c x (a ∷ y) =
      ap (λ t. mask_with p q (control_byte q.rate c x t) x ∷ ended q (masks p q c (a ∷ y))) (sym (ne_eqb (suc (length y)) 0 (λ e. omega arith)))
  ended_first false c x y = refl

  -- the first block of `rest` is x, whose control byte is cb
  module _ (c : ℕ) (e : Bool) (rest x t : List ℕ) (cb : ℕ) (k : First q.rate rest x t) (ec : cb ≡ control_byte q.rate c x (e && eqb (length t) 0)) where
    pub turn_fits : length x ≤ q.rate
    turn_fits = omega (arith, k.wide)

    pub turn_blocks : blocks q.rate rest ≡ x ∷ blocks q.rate t
    turn_blocks = ap (blocks q.rate) k.is ∙ blocks_more q.rate x t laws.rate_low (rw k.is at k.some) (rw k.is at k.wide)

    -- the state s becomes s', and the same end is ahead
    pub turn : (s s' end : List ℕ) → s' ≡ p.forward (xors s (mask_with p q cb x)) → run p s (ended_if e q (masks p q c rest)) ≡ end
        → run p s' (ended_if e q (masks p q c t)) ≡ end
    turn s s' end e' inv =
        ap (λ z. run p z (ended_if e q (masks p q c t))) (e' ∙ ap (λ n. p.forward (xors s (mask_with p q n x))) ec)
        ∙ sym (ap (λ bs. run p s (ended_if e q (map (mask p q c) bs))) turn_blocks ∙ ap (run p s) (ended_first e c x t))
        ∙ inv

  -- a turn of the loop over a message: `at` bytes of out are written, and the next, up to `to`, are x's ciphertext
  module _ (rest x t : List ℕ) (cb : ℕ) (k : First q.rate rest x t) (ec : cb ≡ control_byte q.rate 64 x (eqb (length t) 0)) where
    pub cipher_turn : (s s' end out part : List ℕ) (at to : ℕ) → to ≡ at + length x → s' ≡ p.forward (xors s (mask_with p q cb x))
        → part ≡ xors x (pick q.rate_places s) → at ≤ length out
        → take at out ++ ciphers p q s (blocks q.rate rest) (ended q (masks p q 64 rest)) ≡ end
        → take to (put_mid at (to - at) out part) ++ ciphers p q s' (blocks q.rate t) (ended q (masks p q 64 t)) ≡ end
    cipher_turn s s' end out part at to et e' ep room inv =
        let fits : length x ≤ q.rate = turn_fits 64 true rest x t cb k ec in
        let cutting = turn_blocks 64 true rest x t cb k ec in
        let key : List ℕ = pick q.rate_places s in
        let lp : length part ≡ length x = ap length ep ∙ length_rated p q laws x s fits in
        let tail : List ℕ → List ℕ = λ z. ciphers p q z (blocks q.rate t) (ended q (masks p q 64 t)) in
        let next : List ℕ = p.forward (xors s (mask_with p q (control_byte q.rate 64 x (eqb (length t) 0)) x)) in
        let more : ciphers p q s (blocks q.rate rest) (ended q (masks p q 64 rest)) ≡ xors x key ++ tail next =
        ap (λ bs. ciphers p q s bs (ended q (map (mask p q 64) bs))) cutting ∙ ap (ciphers p q s (x ∷ blocks q.rate t)) (ended_first true 64 x t) in
        ap (λ z. z ++ tail s') (take-put_mid at (to - at) out part to (omega arith) room)
        ∙ append_assoc (take at out) part (tail s')
        ∙ ap (λ z. take at out ++ (z ++ tail s')) ep
        ∙ ap (λ z. take at out ++ (xors x key ++ tail z)) (e' ∙ ap (λ n. p.forward (xors s (mask_with p q n x))) ec)
        ∙ ap (λ z. take at out ++ z) (sym more)
        ∙ inv
