-- A feed tells its data and its message. Assumes nothing.
use Rattle.std.proofs.Common.{◌≡◌, ℕ, zero, suc, ◌+◌, ◌<◌, ◌≤◌, true, false, cond, ltb, ◌⊎◌, List, [], ◌∷◌, ◌++◌, map, length, get_or, take, drop, set, replicate, sym, refl, ap, ◌∙◌, inl, inr, ⊎_elim, le_of_suc-le-suc, arith}
use lib.Bits.{bit_xor}
use Rattle.std.specs.List.{AllByRecursion}
use Rattle.std.proofs.lemmas.List.{set-set, set-get_or, set_past, get_or-set_same, get_or-set_other, get_or-take, get_or_at, length-replicate, ext_get_or}
use Rattle.std.proofs.lemmas.Bool.{cases_lt, lt-ltb, le-ltb}
use Rattle.permutations.specs.Permutation.{Perm}
use Rattle.permutations.specs.Xors.{xor_off}
use Rattle.spoc.specs.Claims.{FeedsDistinct}
use Rattle.spoc.specs.Feed.{blocks, put, zero_mask, padded, control, mask, masks, control_place, flagged, ended}
use Rattle.spoc.specs.Suite.{Plan, Sound}
use Rattle.spoc.specs.Rows.{length_put, get_or_put, get_or_zeros}
use Rattle.spoc.proofs.Masks.{rate_inside, masked_inside, masked_apart, rate_not_masked, length_padded, pad_full}
use Rattle.spoc.proofs.Blocks.{blocks_same, cut_fits}

cons_head : {X : Type 0} (d x y : X) (xs ys : List X) → x ∷ xs ≡ y ∷ ys → x ≡ y
cons_head d x y xs ys e = ap (λ l. get_or l 0 d) e

cons_tail : {X : Type 0} (x y : X) (xs ys : List X) → x ∷ xs ≡ y ∷ ys → xs ≡ ys
cons_tail x y xs ys e = ap (drop 1) e

-- ---- a short block is told from its padding

no_zeros : (r n : ℕ) (y : List ℕ) → length y < r → take r (replicate n 0) ≡ take r (y ++ 128 ∷ replicate n 0) → ⊥
no_zeros r n y h e =
    let k : ℕ = length y in
    let left : ◌≡◌ {A = ℕ} (get_or (take r (replicate n 0)) k 0) 0 = get_or-take r (replicate n 0) k 0 h ∙ get_or_zeros n k in
    let right : get_or (take r (y ++ 128 ∷ replicate n 0)) k 0 ≡ 128 = get_or-take r (y ++ 128 ∷ replicate n 0) k 0 h ∙ get_or_at y 128 (replicate n 0) 0 k refl in
    let bad : ◌≡◌ {A = ℕ} 0 128 = sym left ∙ ap (λ l. get_or l k 0) e ∙ right in
    omega arith

pad_short : (r n : ℕ) (x y : List ℕ) → length x < r → length y < r → take r (x ++ 128 ∷ replicate n 0) ≡ take r (y ++ 128 ∷ replicate n 0) → x ≡ y
pad_short zero n x y h k e = absurd (omega arith)
pad_short (suc r) n [] [] h k e = refl
pad_short (suc r) n [] (b ∷ y) h k e = absurd (no_zeros r n y (le_of_suc-le-suc k) (cons_tail 128 b _ _ e))
pad_short (suc r) n (a ∷ x) [] h k e = absurd (no_zeros r n x (le_of_suc-le-suc h) (sym (cons_tail a 128 _ _ e)))
pad_short (suc r) n (a ∷ x) (b ∷ y) h k e =
    ap (λ c. c ∷ x) (cons_head 0 a b _ _ e) ∙ ap (λ t. b ∷ t) (pad_short r n x y (le_of_suc-le-suc h) (le_of_suc-le-suc k) (cons_tail a b _ _ e))

-- ---- flagging the last mask is undone by itself

module _ (q : Plan) where
  flagged_twice : (m : List ℕ) → flagged q (flagged q m) ≡ m
  flagged_twice m =
      let p : ℕ = control_place q in
      ⊎_elim
      (λ h. set-set m p _ _ ∙ ap (λ v. set m p (bit_xor v 128)) (get_or-set_same m p _ 0 h) ∙ ap (set m p) (xor_off (get_or m p 0) 128) ∙ set-get_or m p 0)
      (λ h. ap (flagged q) (set_past m p _ h) ∙ set_past m p _ h)
      (cases_lt p (length m))

  ended_twice : (ms : List (List ℕ)) → ended q (ended q ms) ≡ ms
  ended_twice [] = refl
  ended_twice (m ∷ []) = ap (λ n. n ∷ []) (flagged_twice m)
  ended_twice (m ∷ n ∷ []) = ap (λ o. m ∷ o ∷ []) (flagged_twice n)
  ended_twice (m ∷ n ∷ o ∷ ms) = ap (λ ns. m ∷ ns) (ended_twice (n ∷ o ∷ ms))

-- ---- a mask tells its block, and whether that is data or message

module _ (p : Perm) (q : Plan) (laws : Sound p q) where
  length_inner : (x : List ℕ) → length (put q.masked_places (padded q.rate x) (zero_mask p)) ≡ p.size
  length_inner x = length_put q.masked_places (padded q.rate x) (zero_mask p) ∙ length-replicate p.size 0

  control_of : (c : ℕ) (x : List ℕ) → get_or (mask p q c x) (control_place q) 0 ≡ control q.rate c x
  control_of c x = get_or-set_same (put q.masked_places (padded q.rate x) (zero_mask p)) (control_place q) _ 0 (omega (arith, length_inner x, rate_inside p q laws 0 laws.rate_low))

  byte_of : (c : ℕ) (x : List ℕ) (i : ℕ) → i < q.rate → get_or (mask p q c x) (get_or q.masked_places i 0) 0 ≡ get_or (padded q.rate x) i 0
  byte_of c x i h =
      get_or-set_other (put q.masked_places (padded q.rate x) (zero_mask p)) (control_place q) (get_or q.masked_places i 0) _ 0
      (λ e. rate_not_masked p q laws 0 i laws.rate_low h (sym e))
      ∙ get_or_put q.masked_places (padded q.rate x) (zero_mask p) i (laws.masked_count ∙ sym (length_padded p q laws x)) (omega (arith, laws.masked_count))
      (λ j l. rw (length-replicate {A = ℕ} p.size 0) (masked_inside p q laws j (omega (arith, laws.masked_count))))
      (λ j k l m. masked_apart p q laws j k (omega (arith, laws.masked_count)) (omega (arith, laws.masked_count)))

  padded_same : (c : ℕ) (x y : List ℕ) → mask p q c x ≡ mask p q c y → padded q.rate x ≡ padded q.rate y
  padded_same c x y e =
      ext_get_or 0 (padded q.rate x) (padded q.rate y) (length_padded p q laws x ∙ sym (length_padded p q laws y))
      (λ i h. let l : i < q.rate = omega (arith, length_padded p q laws x) in
      sym (byte_of c x i l) ∙ ap (λ m. get_or m (get_or q.masked_places i 0) 0) e ∙ byte_of c y i l)

  control_same : (c : ℕ) (x y : List ℕ) → mask p q c x ≡ mask p q c y → control q.rate c x ≡ control q.rate c y
  control_same c x y e = sym (control_of c x) ∙ ap (λ m. get_or m (control_place q) 0) e ∙ control_of c y

  mask_same : (c : ℕ) (x y : List ℕ) → length x ≤ q.rate → length y ≤ q.rate → mask p q c x ≡ mask p q c y → x ≡ y
  mask_same c x y h k e =
      let r : ℕ = q.rate in
      let ctl : cond (ltb (length x) r) (c + 16) c ≡ cond (ltb (length y) r) (c + 16) c = control_same c x y e in
      ⊎_elim
      (λ sx. ⊎_elim
      (λ sy. pad_short r r x y sx sy (padded_same c x y e))
      (λ fy. absurd (let bad : c + 16 ≡ c = rw (lt-ltb (length x) r sx, le-ltb (length y) r fy) at ctl in omega arith))
      (cases_lt (length y) r))
      (λ fx. ⊎_elim
      (λ sy. absurd (let bad : c ≡ c + 16 = rw (le-ltb (length x) r fx, lt-ltb (length y) r sy) at ctl in omega arith))
      (λ fy. sym (pad_full r x (omega arith)) ∙ padded_same c x y e ∙ pad_full r y (omega arith))
      (cases_lt (length y) r))
      (cases_lt (length x) r)

  control_range : (c : ℕ) (x : List ℕ) → (control q.rate c x ≡ c) ⊎ (control q.rate c x ≡ c + 16)
  control_range c x = elim (ltb (length x) q.rate) as (λ t. (cond t (c + 16) c ≡ c) ⊎ (cond t (c + 16) c ≡ c + 16)) [ true ↦ inr refl | false ↦ inl refl ]

  kinds : (x y : List ℕ) → mask p q 32 x ≡ mask p q 64 y → ⊥
  kinds x y e =
      let same : control q.rate 32 x ≡ control q.rate 64 y = sym (control_of 32 x) ∙ ap (λ m. get_or m (control_place q) 0) e ∙ control_of 64 y in
      ⊎_elim
      (λ i. ⊎_elim (λ j. omega arith) (λ j. omega arith) (control_range 64 y))
      (λ i. ⊎_elim (λ j. omega arith) (λ j. omega arith) (control_range 64 y))
      (control_range 32 x)

  -- ---- row by row

  abbrev Fits : List (List ℕ) → Type 0
  Fits xs = AllByRecursion (λ x. length x ≤ q.rate) xs

  messages : (xs ys : List (List ℕ)) → Fits xs → Fits ys → map (mask p q 64) xs ≡ map (mask p q 64) ys → xs ≡ ys
  messages [] [] h k e = refl
  messages [] (y ∷ ys) h k e = absurd (let n : ◌≡◌ {A = ℕ} 0 _ = ap length e in omega arith)
  messages (x ∷ xs) [] h k e = absurd (let n : ◌≡◌ {A = ℕ} _ 0 = ap length e in omega arith)
  messages (x ∷ xs) (y ∷ ys) h k e =
      ap (λ z. z ∷ xs) (mask_same 64 x y h.0 k.0 (cons_head [] _ _ _ _ e)) ∙ ap (λ zs. y ∷ zs) (messages xs ys h.1 k.1 (cons_tail _ _ _ _ e))

  rows : (xs ys us vs : List (List ℕ)) → Fits xs → Fits ys → Fits us → Fits vs
      → map (mask p q 32) xs ++ map (mask p q 64) us ≡ map (mask p q 32) ys ++ map (mask p q 64) vs → (xs ≡ ys) × (us ≡ vs)
  rows [] [] us vs hx hy hu hv e = (refl, messages us vs hu hv e)
  rows [] (y ∷ ys) [] vs hx hy hu hv e = absurd (let n : ◌≡◌ {A = ℕ} 0 _ = ap length e in omega arith)
  rows [] (y ∷ ys) (u ∷ us) vs hx hy hu hv e = absurd (kinds y u (sym (cons_head [] _ _ _ _ e)))
  rows (x ∷ xs) [] us [] hx hy hu hv e = absurd (let n : ◌≡◌ {A = ℕ} _ 0 = ap length e in omega arith)
  rows (x ∷ xs) [] us (v ∷ vs) hx hy hu hv e = absurd (kinds x v (cons_head [] _ _ _ _ e))
  rows (x ∷ xs) (y ∷ ys) us vs hx hy hu hv e =
      let rest = rows xs ys us vs hx.1 hy.1 hu hv (cons_tail _ _ _ _ e) in
      (ap (λ z. z ∷ xs) (mask_same 32 x y hx.0 hy.0 (cons_head [] _ _ _ _ e)) ∙ ap (λ zs. y ∷ zs) rest.0, rest.1)

  pub feeds_distinct : FeedsDistinct p q
  feeds_distinct d m e n same =
      let r : ℕ = q.rate in
      let whole : zero_mask p ∷ masks p q 32 d ++ masks p q 64 m ≡ zero_mask p ∷ masks p q 32 e ++ masks p q 64 n = sym (ended_twice q _) ∙ ap (ended q) same ∙ ended_twice q _ in
      let parts = rows (blocks r d) (blocks r e) (blocks r m) (blocks r n) (cut_fits r (length d) d) (cut_fits r (length e) e) (cut_fits r (length m) m) (cut_fits r (length n) n) (cons_tail _ _ _ _ whole) in
      (blocks_same r d e laws.rate_low parts.0, blocks_same r m n laws.rate_low parts.1)
