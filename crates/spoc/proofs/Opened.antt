-- The loop of open, and of both ways, turn by turn. Assumes nothing.
use Rattle.std.proofs.Common.{◌≡◌, ℕ, zero, suc, ◌+◌, ◌-◌, ◌<◌, ◌≤◌, min, true, cond, eqb, ltb, List, [], ◌∷◌, ◌++◌, map, length, take, drop, sym, refl, ap, ◌∙◌, append_assoc, arith}
use borrow.Rule.Slice.PartMut.{put_mid}
use lib.Bits.{bit_xor}
use Rattle.std.specs.List.{flat_map}
use Rattle.std.proofs.lemmas.List.{length-append, length-take, length-drop}
use Rattle.std.proofs.lemmas.Slice.{take-put_mid}
use Rattle.std.proofs.lemmas.Bool.{ne_eqb}
use Rattle.permutations.specs.Bytes.{xors}
use Rattle.permutations.specs.Permutation.{Perm}
use Rattle.spoc.specs.declared.mode.Way.{Way}
use Rattle.spoc.specs.declared.mode.Way.TheVariants.{Seal, Open}
use Rattle.spoc.specs.Feed.{cut, blocks, control, mask_with, mask, ended, run, pick, plains}
use Rattle.spoc.specs.Suite.{Plan, Sound}
use Rattle.spoc.specs.Turns.{control_byte, opened_masks, plain_of, masks_of, output_of}
use Rattle.spoc.proofs.Blocks.{First, blocks_more, flagged_mask, turn, turn_fits, turn_blocks, cipher_turn}
use Rattle.spoc.proofs.Masks.{length_rated}

module _ (p : Perm) (q : Plan) (laws : Sound p q) where
  control_len : (c : ℕ) (x y : List ℕ) → length x ≡ length y → control q.rate c x ≡ control q.rate c y
  control_len c x y e = ap (λ n. cond (ltb n q.rate) (c + 16) c) e

  -- y is a ciphertext block, x its message block, and t is what is left of the ciphertext
  module _ (s y t x : List ℕ) (e : x ≡ xors y (pick q.rate_places s)) (fits : length y ≤ q.rate) where
    as_long : length x ≡ length y
    as_long = ap length e ∙ length_rated p q laws y s fits

    plains_step : plains p q s (y ∷ blocks q.rate t) ≡ x ∷ plains p q (p.forward (xors s (mask_with p q (control_byte q.rate 64 y (eqb (length t) 0)) x))) (blocks q.rate t)
    plains_step = by_case t
      where
        by_case : (t : List ℕ) → plains p q s (y ∷ blocks q.rate t) ≡ x ∷ plains p q (p.forward (xors s (mask_with p q (control_byte q.rate 64 y (eqb (length t) 0)) x))) (blocks q.rate t)
        by_case [] = ap (λ z. z ∷ []) (sym e)
        by_case (a ∷ t) =
            let same : control q.rate 64 y ≡ control q.rate 64 x = control_len 64 y x (sym as_long) in
            rw (ne_eqb (suc (length t)) 0 (λ z. omega arith), same, e) refl

    masks_step : (ms : List (List ℕ)) → (length t ≡ 0 → ms ≡ []) → (0 < length t → 0 < length ms)
        → ended q (mask p q 64 x ∷ ms) ≡ mask_with p q (control_byte q.rate 64 y (eqb (length t) 0)) x ∷ ended q ms
    masks_step = by_case t
      where
        by_case : (t : List ℕ) (ms : List (List ℕ)) → (length t ≡ 0 → ms ≡ []) → (0 < length t → 0 < length ms)
            → ended q (mask p q 64 x ∷ ms) ≡ mask_with p q (control_byte q.rate 64 y (eqb (length t) 0)) x ∷ ended q ms
        by_case [] [] none some =
            ap (λ m. m ∷ []) (flagged_mask p q laws (control q.rate 64 x) x)
            ∙ ap (λ n. mask_with p q (bit_xor n 128) x ∷ []) (control_len 64 x y as_long)
        by_case [] (m ∷ ms) none some = absurd (let z : ◌≡◌ {A = ℕ} (suc (length ms)) 0 = ap length (none refl) in omega arith)
        by_case (a ∷ t) [] none some = absurd (let z : 0 < 0 = some (omega arith) in omega arith)
        by_case (a ∷ t) (m ∷ ms) none some =
            rw (ne_eqb (suc (length t)) 0 (λ z. omega arith)) (ap (λ n. mask_with p q n x ∷ ended q (m ∷ ms)) (control_len 64 x y as_long))

  none_left : (s t : List ℕ) → length t ≡ 0 → map (mask p q 64) (plains p q s (blocks q.rate t)) ≡ []
  none_left s [] h = refl
  none_left s (a ∷ t) h = absurd (omega arith)

  some_left : (s t : List ℕ) → 0 < length t → 0 < length (map (mask p q 64) (plains p q s (blocks q.rate t)))
  some_left s [] h = absurd (omega arith)
  some_left s (a ∷ t) h = omega arith

  -- a turn of the loop over a ciphertext: `at` bytes of out are written, and the next, up to `to`, are y's message block
  module _ (rest y t : List ℕ) (cb : ℕ) (k : First q.rate rest y t) (ec : cb ≡ control_byte q.rate 64 y (eqb (length t) 0)) where
    pub open_turn : (s s' end end' out part : List ℕ) (at to : ℕ) → to ≡ at + length y
        → part ≡ xors y (pick q.rate_places s) → s' ≡ p.forward (xors s (mask_with p q cb (xors y (pick q.rate_places s)))) → at ≤ length out
        → run p s (opened_masks p q s rest) ≡ end
        → take at out ++ flat_map (λ x. x) (plains p q s (blocks q.rate rest)) ≡ end'
        → (run p s' (opened_masks p q s' t) ≡ end)
        × (take to (put_mid at (to - at) out part) ++ flat_map (λ x. x) (plains p q s' (blocks q.rate t)) ≡ end')
    open_turn s s' end end' out part at to et ep e' room inv inv' =
        let fits : length y ≤ q.rate = turn_fits p q laws 64 true rest y t cb k ec in
        let byte : ℕ = control_byte q.rate 64 y (eqb (length t) 0) in
        let state : s' ≡ p.forward (xors s (mask_with p q byte part)) =
        e' ∙ ap (λ n. p.forward (xors s (mask_with p q n (xors y (pick q.rate_places s))))) ec ∙ ap (λ z. p.forward (xors s (mask_with p q byte z))) (sym ep) in
        let row : plains p q s (blocks q.rate rest) ≡ part ∷ plains p q s' (blocks q.rate t) =
        ap (plains p q s) (turn_blocks p q laws 64 true rest y t cb k ec) ∙ plains_step s y t part ep fits ∙ ap (λ z. part ∷ plains p q z (blocks q.rate t)) (sym state) in
        let ms : opened_masks p q s rest ≡ mask_with p q byte part ∷ opened_masks p q s' t =
        ap (λ xs. ended q (map (mask p q 64) xs)) row ∙ masks_step s y t part ep fits (map (mask p q 64) (plains p q s' (blocks q.rate t))) (none_left s' t) (some_left s' t) in
        let lp : length part ≡ length y = as_long s y t part ep fits in
        let written = take-put_mid at (to - at) out part to (omega arith) room in (
          ap (λ z. run p z (opened_masks p q s' t)) state ∙ ap (run p s) (sym ms) ∙ inv,
          ap (λ z. z ++ flat_map (λ x. x) (plains p q s' (blocks q.rate t))) written ∙ append_assoc (take at out) part _ ∙ ap (λ xs. take at out ++ flat_map (λ x. x) xs) (sym row) ∙ inv',
        )

  -- ---- both ways

  module _ (rest x t : List ℕ) (cb : ℕ) (k : First q.rate rest x t) (ec : cb ≡ control_byte q.rate 64 x (eqb (length t) 0)) where
    pub way_turn : (w : Way) (s s' end end' out part : List ℕ) (at to : ℕ) → to ≡ at + length x
        → part ≡ xors x (pick q.rate_places s) → s' ≡ p.forward (xors s (mask_with p q cb (plain_of w x (xors x (pick q.rate_places s))))) → at ≤ length out
        → run p s (masks_of w p q s rest) ≡ end
        → take at out ++ output_of w p q s rest ≡ end'
        → (run p s' (masks_of w p q s' t) ≡ end) × (take to (put_mid at (to - at) out part) ++ output_of w p q s' t ≡ end')
    way_turn Seal s s' end end' out part at to et ep e' room inv inv' =
        (turn p q laws 64 true rest x t cb k ec s s' end e' inv, cipher_turn p q laws rest x t cb k ec s s' end' out part at to et e' ep room inv')
    way_turn Open s s' end end' out part at to et ep e' room inv inv' = open_turn rest x t cb k ec s s' end end' out part at to et ep e' room inv inv'

  -- ---- the message blocks of a ciphertext

  pub length_plains : (n : ℕ) (s c : List ℕ) → length c ≤ n → length (flat_map (λ x. x) (plains p q s (cut q.rate n c))) ≡ length c
  length_plains zero s [] h = refl
  length_plains zero s (a ∷ c) h = absurd (omega arith)
  length_plains (suc n) s [] h = refl
  length_plains (suc n) s (a ∷ c) h =
      let r : ℕ = q.rate in
      let y : List ℕ = take r (a ∷ c) in
      let x : List ℕ = xors y (pick q.rate_places s) in
      let ly : length y ≡ min r (suc (length c)) = length-take r (a ∷ c) in
      let ih = length_plains n (p.forward (xors s (mask p q 64 x))) (drop r (a ∷ c)) (omega (arith, length-drop r (a ∷ c), laws.rate_low)) in
      length-append x _ ∙ omega (arith, ih, length_rated p q laws y s (omega arith), length-drop r (a ∷ c))

  -- they are the message's blocks
  pub blocks_plains : (n : ℕ) (s c : List ℕ) → length c ≤ n → blocks q.rate (flat_map (λ x. x) (plains p q s (cut q.rate n c))) ≡ plains p q s (cut q.rate n c)
  blocks_plains zero s c h = refl
  blocks_plains (suc n) s [] h = refl
  blocks_plains (suc n) s (a ∷ c) h =
      let r : ℕ = q.rate in
      let y : List ℕ = take r (a ∷ c) in
      let x : List ℕ = xors y (pick q.rate_places s) in
      let s' : List ℕ = p.forward (xors s (mask p q 64 x)) in
      let t : List ℕ = drop r (a ∷ c) in
      let small : length t ≤ n = omega (arith, length-drop r (a ∷ c), laws.rate_low) in
      let rest : List ℕ = flat_map (λ x. x) (plains p q s' (cut r n t)) in
      let lr : length rest ≡ length t = length_plains n s' t small in
      let ly : length y ≡ min r (suc (length c)) = length-take r (a ∷ c) in
      let lx : length x ≡ length y = length_rated p q laws y s (omega arith) in
      let whole : length (x ++ rest) ≡ suc (length c) = length-append x rest ∙ omega (arith, length-drop r (a ∷ c)) in
      blocks_more r x rest laws.rate_low (omega arith) (omega arith) ∙ ap (λ z. x ∷ z) (blocks_plains n s' t small)
