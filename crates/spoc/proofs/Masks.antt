-- What the suite rule says of the places, and one more byte of a mask. Assumes nothing.
use Rattle.std.proofs.Common.{◌≡◌, ℕ, zero, suc, ◌+◌, ◌<◌, ◌≤◌, Bool, true, false, cond, ◌≢◌, List, [], ◌∷◌, ◌++◌, length, get_or, take, set, replicate, sym, refl, ap, ◌∙◌, arith}
use lib.Bits.{bit_xor}
use Rattle.std.proofs.lemmas.List.{length-append, length-take-le, length-replicate, take_more, take_all, get_or-take, get_or_append_left, get_or-append-add, take_at, get_or-set_other, set-get_or}
use Rattle.permutations.specs.Bytes.{xors}
use Rattle.permutations.specs.Permutation.{Perm}
use Rattle.spoc.specs.Feed.{put, pick, zero_mask, padded, mask_with, control_place}
use Rattle.spoc.specs.Suite.{Plan, Sound, places}
use Rattle.spoc.specs.Turns.{first_mask}
use Rattle.spoc.specs.Rows.{length_put, put_push, get_or_put_other, length_xors_le, length_pick, xors_place, get_or_zeros, xors_zeros, xors_set}

-- ---- padding

pub pad_full : (r : ℕ) (x : List ℕ) → length x ≡ r → padded r x ≡ x
pad_full r x e = take_at x (128 ∷ replicate r 0) r e

-- zeros put where zeros stand
put_zeros : (ps s : List ℕ) (r n : ℕ) → ((i : ℕ) → i < length ps → get_or s (get_or ps i 0) 0 ≡ 0) → put ps (take r (replicate n 0)) s ≡ s
put_zeros [] s r n clear = refl
put_zeros (p ∷ ps) s zero n clear = refl
put_zeros (p ∷ ps) s (suc r) zero clear = refl
put_zeros (p ∷ ps) s (suc r) (suc n) clear =
    let same : set s p 0 ≡ s = ap (set s p) (sym (clear 0 (omega arith))) ∙ set-get_or s p 0 in
    ap (put ps (take r (replicate n 0))) same ∙ put_zeros ps s r n (λ i l. clear (suc i) (omega arith))

-- a padded block is the block and 80 after it, at places that differ and where zeros stand
put_padded : (ps x s : List ℕ) (r n : ℕ) → length ps ≡ r → length x < r
    → ((i j : ℕ) → i < length ps → j < length ps → get_or ps i 0 ≡ get_or ps j 0 → i ≡ j) → ((i : ℕ) → i < length ps → get_or s (get_or ps i 0) 0 ≡ 0)
    → put ps (take r (x ++ 128 ∷ replicate n 0)) s ≡ set (put ps x s) (get_or ps (length x) 0) 128
put_padded [] x s r n e h apart clear = absurd (omega arith)
put_padded (p ∷ ps) x s zero n e h apart clear = absurd (omega arith)
put_padded (p ∷ ps) [] s (suc r) n e h apart clear =
    put_zeros ps (set s p 128) r n
    (λ i l. get_or-set_other s p (get_or ps i 0) 128 0 (λ z. let same = apart (suc i) 0 (omega arith) (omega arith) z in omega (arith, same)) ∙ clear (suc i) (omega arith))
put_padded (p ∷ ps) (a ∷ x) s (suc r) n e h apart clear =
    put_padded ps x (set s p a) r n (omega arith) (omega arith)
    (λ i j k l z. let same = apart (suc i) (suc j) (omega arith) (omega arith) z in omega (arith, same))
    (λ i l. get_or-set_other s p (get_or ps i 0) a 0 (λ z. let same = apart (suc i) 0 (omega arith) (omega arith) z in omega (arith, same)) ∙ clear (suc i) (omega arith))

-- bytes for the first places alone
put_front : (ps vs s : List ℕ) → put (take (length vs) ps) vs s ≡ put ps vs s
put_front [] [] s = refl
put_front [] (v ∷ vs) s = refl
put_front (p ∷ ps) [] s = refl
put_front (p ∷ ps) (v ∷ vs) s = put_front ps vs (set s p v)

-- ---- as many places as a block has bytes

pub xors_front : (x ps s : List ℕ) → xors x (pick (take (length x) ps) s) ≡ xors x (pick ps s)
unfolding xors
xors_front [] ps s = refl
xors_front (a ∷ x) [] s = refl
xors_front (a ∷ x) (p ∷ ps) s = ap (λ t. bit_xor a (get_or s p 0) ∷ t) (xors_front x ps s)

-- ---- the places

module _ (p : Perm) (q : Plan) (laws : Sound p q) where
  count : length (places q) ≡ q.rate + q.rate
  count = length-append q.rate_places q.masked_places ∙ omega (arith, laws.rate_count, laws.masked_count)

  rate_at : (i : ℕ) → i < q.rate → get_or (places q) i 0 ≡ get_or q.rate_places i 0
  rate_at i h = get_or_append_left q.rate_places q.masked_places 0 i (omega (arith, laws.rate_count))

  masked_at : (i : ℕ) → get_or (places q) (q.rate + i) 0 ≡ get_or q.masked_places i 0
  masked_at i = ap (λ n. get_or (places q) (n + i) 0) (sym laws.rate_count) ∙ get_or-append-add q.rate_places q.masked_places i 0

  pub rate_inside : (i : ℕ) → i < q.rate → get_or q.rate_places i 0 < p.size
  rate_inside i h = rw (rate_at i h) at (laws.inside i (omega (arith, count)))

  pub masked_inside : (i : ℕ) → i < q.rate → get_or q.masked_places i 0 < p.size
  masked_inside i h = rw (masked_at i) at (laws.inside (q.rate + i) (omega (arith, count)))

  -- the place of a turn of a loop over the masked places of a state of b bytes
  pub masked_turn : (i o b : ℕ) → i < length q.masked_places → o ≡ get_or q.masked_places i 0 → b ≡ p.size → o < b
  masked_turn i o b h eo eb = let inside = masked_inside i (omega (arith, laws.masked_count)) in omega (arith, inside)

  pub masked_apart : (i j : ℕ) → i < q.rate → j < q.rate → get_or q.masked_places i 0 ≡ get_or q.masked_places j 0 → i ≡ j
  masked_apart i j h k e =
      let same = laws.apart (q.rate + i) (q.rate + j) (omega (arith, count)) (omega (arith, count)) (masked_at i ∙ e ∙ sym (masked_at j)) in
      omega (arith, same)

  pub rate_not_masked : (i j : ℕ) → i < q.rate → j < q.rate → get_or q.rate_places i 0 ≢ get_or q.masked_places j 0
  rate_not_masked i j h k e =
      let same = laws.apart i (q.rate + j) (omega (arith, count)) (omega (arith, count)) (rate_at i h ∙ e ∙ sym (masked_at j)) in
      omega (arith, same)

  -- a block is no longer than the rate places
  pub length_rated : (x s : List ℕ) → length x ≤ q.rate → length (xors x (pick q.rate_places s)) ≡ length x
  length_rated x s h = length_xors_le x (pick q.rate_places s) (omega (arith, length_pick q.rate_places s, laws.rate_count))

  -- a mask as far as its first i bytes are in it
  abbrev pub so_far : List ℕ → ℕ → List ℕ
  so_far vs i = put (take i q.masked_places) (take i vs) (zero_mask p)

  length_so_far : (vs : List ℕ) (i : ℕ) → length (so_far vs i) ≡ p.size
  length_so_far vs i = length_put (take i q.masked_places) (take i vs) (zero_mask p) ∙ length-replicate p.size 0

  absorb_next : (s vs : List ℕ) (i : ℕ) → length vs ≤ q.rate → i < length vs
      → set (xors s (so_far vs i)) (get_or q.masked_places i 0) (bit_xor (get_or (xors s (so_far vs i)) (get_or q.masked_places i 0) 0) (get_or vs i 0)) ≡ xors s (so_far vs (i + 1))
  absorb_next s vs i wide h =
      let mi : i < length q.masked_places = omega (arith, laws.masked_count) in
      let lp = length-take-le i q.masked_places (omega arith) in
      let lv = length-take-le i vs (omega arith) in
      let clear : get_or (so_far vs i) (get_or q.masked_places i 0) 0 ≡ 0 =
      get_or_put_other (take i q.masked_places) (take i vs) (zero_mask p) (get_or q.masked_places i 0) 0
      (λ j k e.
      let j< : j < i = omega (arith, lp) in
      let same = masked_apart i j (omega arith) (omega arith) (e ∙ get_or-take i q.masked_places j 0 j<) in
      omega (arith, same))
      ∙ get_or_zeros p.size (get_or q.masked_places i 0) in
      let pushed : so_far vs (i + 1) ≡ set (so_far vs i) (get_or q.masked_places i 0) (get_or vs i 0) =
      rw (take_more q.masked_places i 0 mi, take_more vs i 0 h) (put_push (take i q.masked_places) (take i vs) (get_or q.masked_places i 0) (get_or vs i 0) (zero_mask p) (lp ∙ sym lv)) in
      xors_place s (so_far vs i) (get_or q.masked_places i 0) (get_or vs i 0) (omega (arith, length_so_far vs i, masked_inside i (omega arith))) clear ∙ ap (xors s) (sym pushed)

  -- t is what s has become, and the place and the byte of index i, o and b, are next
  pub absorb_more : (s vs t : List ℕ) (i o b n : ℕ) → length vs ≤ q.rate → i < length vs → o ≡ get_or q.masked_places i 0 → b ≡ get_or vs i 0 → n ≡ i + 1
      → t ≡ xors s (so_far vs i) → set t o (bit_xor (get_or t o 0) b) ≡ xors s (so_far vs n)
  absorb_more s vs t i o b n wide h eo eb en et = rw (et, eo, eb, en) (absorb_next s vs i wide h)

  -- all of them in
  pub so_far_all : (vs : List ℕ) (i : ℕ) → i ≡ length vs → so_far vs i ≡ put q.masked_places vs (zero_mask p)
  so_far_all vs i e =
      ap (so_far vs) e
      ∙ ap (λ z. put (take (length vs) q.masked_places) z (zero_mask p)) (take_all (length vs) vs (omega arith))
      ∙ put_front q.masked_places vs (zero_mask p)

  -- 80 follows a short block, at the place o
  pub absorb_pad : (s x t : List ℕ) (o : ℕ) → length x < q.rate → o ≡ get_or q.masked_places (length x) 0 → t ≡ xors s (put q.masked_places x (zero_mask p))
      → set t o (bit_xor (get_or t o 0) 128) ≡ xors s (put q.masked_places (padded q.rate x) (zero_mask p))
  absorb_pad s x t o h eo et =
      let ps : List ℕ = q.masked_places in
      let n : ℕ = length x in
      let m : List ℕ = put ps x (zero_mask p) in
      let wide : length m ≡ p.size = length_put ps x (zero_mask p) ∙ length-replicate p.size 0 in
      let lp = length-take-le n ps (omega (arith, laws.masked_count)) in
      let clear : get_or m (get_or ps n 0) 0 ≡ 0 =
      ap (λ z. get_or z (get_or ps n 0) 0) (sym (put_front ps x (zero_mask p)))
      ∙ get_or_put_other (take n ps) x (zero_mask p) (get_or ps n 0) 0
      (λ j k e.
      let j< : j < n = omega (arith, lp) in
      let same = masked_apart n j (omega arith) (omega arith) (e ∙ get_or-take n ps j 0 j<) in
      omega (arith, same))
      ∙ get_or_zeros p.size (get_or ps n 0) in
      let pad : put ps (padded q.rate x) (zero_mask p) ≡ set m (get_or ps n 0) 128 =
      put_padded ps x (zero_mask p) q.rate q.rate laws.masked_count h
      (λ i j k l. masked_apart i j (omega (arith, laws.masked_count)) (omega (arith, laws.masked_count)))
      (λ i l. get_or_zeros p.size (get_or ps i 0)) in
      rw (et, eo) (xors_place s m (get_or ps n 0) 128 (omega (arith, wide, masked_inside n h)) clear ∙ ap (xors s) (sym pad))

  pub length_padded : (x : List ℕ) → length (padded q.rate x) ≡ q.rate
  length_padded x = length-take-le q.rate (x ++ 128 ∷ replicate q.rate 0) (simp (length-append, length-replicate) (omega arith))

  -- the control byte follows
  pub absorb_control : (s x t : List ℕ) (c : ℕ) → t ≡ xors s (put q.masked_places (padded q.rate x) (zero_mask p))
      → set t (control_place q) (bit_xor (get_or t (control_place q) 0) c) ≡ xors s (mask_with p q c x)
  absorb_control s x t c is =
      let m : List ℕ = put q.masked_places (padded q.rate x) (zero_mask p) in
      let wide : length m ≡ p.size = length_put q.masked_places (padded q.rate x) (zero_mask p) ∙ length-replicate p.size 0 in
      let clear : get_or m (control_place q) 0 ≡ 0 =
      get_or_put_other q.masked_places (padded q.rate x) (zero_mask p) (control_place q) 0
      (λ j k e. rate_not_masked 0 j laws.rate_low (omega (arith, laws.masked_count)) e)
      ∙ get_or_zeros p.size (control_place q) in
      ap (λ z. set z (control_place q) (bit_xor (get_or z (control_place q) 0) c)) is
      ∙ xors_place s m (control_place q) c (omega (arith, wide, rate_inside 0 laws.rate_low)) clear

  first_mask_is : (e : Bool) → first_mask p q e ≡ set (zero_mask p) (control_place q) (cond e 128 0)
  first_mask_is true = ap (λ v. set (zero_mask p) (control_place q) (bit_xor v 128)) (get_or_zeros p.size (control_place q))
  first_mask_is false = sym (set-get_or (zero_mask p) (control_place q) 0) ∙ ap (set (zero_mask p) (control_place q)) (get_or_zeros p.size (control_place q))

  -- 80 or nothing goes in at the control place of a state
  pub first_in : (s : List ℕ) (e : Bool) (c : ℕ) → length s ≡ p.size → c ≡ cond e 128 0
      → set s (control_place q) (bit_xor (get_or s (control_place q) 0) c) ≡ xors s (first_mask p q e)
  first_in s e c long is =
      let inside : control_place q < length (zero_mask p) = omega (arith, length-replicate {A = ℕ} p.size 0, rate_inside 0 laws.rate_low) in
      ap (λ t. set t (control_place q) (bit_xor (get_or s (control_place q) 0) c)) (sym (xors_zeros s p.size (omega arith)))
      ∙ sym (xors_set s (zero_mask p) (control_place q) c inside)
      ∙ ap (λ v. xors s (set (zero_mask p) (control_place q) v)) is
      ∙ ap (xors s) (sym (first_mask_is e))
