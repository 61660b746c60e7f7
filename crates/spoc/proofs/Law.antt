-- SpoC over every suite keeps the laws of a cipher: open undoes seal, and seal undoes open. Assumes nothing.
use Rattle.std.proofs.Common.{◌≡◌, ℕ, zero, suc, ◌+◌, ◌-◌, ◌<◌, ◌≤◌, min, Bool, true, false, cond, List, [], ◌∷◌, ◌++◌, map, length, take, drop, Some, None, sym, refl, ap, ◌∙◌, subst, append-nil, arith}
use Rattle.std.specs.List.{flat_map, AllByRecursion}
use Rattle.std.specs.Str.{bytes_eq}
use Rattle.std.proofs.lemmas.Slice.Eq.{bytes_eq-Decides}
use Rattle.std.proofs.lemmas.List.{length-append, length-take, length-drop, length-map}
use Rattle.permutations.specs.Bytes.{xors}
use Rattle.permutations.specs.Permutation.{Perm, Bijective}
use Rattle.permutations.specs.Xors.{xors_off}
use Rattle.spoc.specs.Claims.{Claims}
use Rattle.spoc.specs.Feed.{cut, blocks, zero_mask, mask, masks, ended, run, pick, ciphers, plains, tag, ciphertext, plaintext}
use Rattle.sealer.specs.Sealing.{Laws}
use Rattle.spoc.specs.Sealing.{spoc}
use Rattle.spoc.specs.Suite.{Plan, Sound, start}
use Rattle.spoc.proofs.Blocks.{blocks_more, cut_joined, cut_fits}
use Rattle.spoc.specs.Ends.{one_mask_tells, key_tells}
use Rattle.spoc.proofs.Feeds.{feeds_distinct}
use Rattle.spoc.proofs.Masks.{length_rated}
use Rattle.sealer.specs.Sealing.{Octets}
use Rattle.spoc.proofs.Octet.{ciphertext_octets, tag_octets, plaintext_octets}
use Rattle.spoc.proofs.Opened.{blocks_plains}
use Rattle.spoc.specs.Rows.{length_pick}
use Rattle.spoc.proofs.Sealed.{length_ended, text_is, unflagged}

abbrev all_of : List (List ℕ) → List ℕ
all_of xs = flat_map (λ x. x) xs

module _ (p : Perm) (q : Plan) (laws : Sound p q) where
  abbrev Fits : List (List ℕ) → Type 0
  Fits xs = AllByRecursion (λ x. length x ≤ q.rate) xs

  -- a block xored with the rate places twice
  rated_off : (x s : List ℕ) → length x ≤ q.rate → xors (xors x (pick q.rate_places s)) (pick q.rate_places s) ≡ x
  rated_off x s h = xors_off x (pick q.rate_places s) (omega (arith, length_pick q.rate_places s, laws.rate_count))

  length_ciphers : (xs ms : List (List ℕ)) (s : List ℕ) → Fits xs → length xs ≡ length ms → length (ciphers p q s xs ms) ≡ length (all_of xs)
  length_ciphers [] ms s h e = refl
  length_ciphers (x ∷ xs) [] s h e = absurd (omega arith)
  length_ciphers (x ∷ xs) (m ∷ ms) s h e =
      length-append (xors x (pick q.rate_places s)) (ciphers p q (p.forward (xors s m)) xs ms)
      ∙ omega (arith, length_rated p q laws x s h.0, length_ciphers xs ms (p.forward (xors s m)) h.1 (omega arith), length-append x (all_of xs))

  length_message_masks : (xs : List (List ℕ)) → length xs ≡ length (ended q (map (mask p q 64) xs))
  length_message_masks xs = sym (length_ended q (map (mask p q 64) xs) ∙ length-map xs (mask p q 64))

  -- ---- open undoes seal

  step_back : (s x : List ℕ) (xs : List (List ℕ)) → Fits xs → 0 < length x → length x ≡ min q.rate (length x + length (all_of xs))
      → ((s' : List ℕ) → plains p q s' (blocks q.rate (ciphers p q s' xs (ended q (map (mask p q 64) xs)))) ≡ xs)
      → plains p q s (blocks q.rate (ciphers p q s (x ∷ xs) (ended q (map (mask p q 64) (x ∷ xs))))) ≡ x ∷ xs
  step_back s x [] hs some wide ih =
      let c : List ℕ = xors x (pick q.rate_places s) in
      let lc : length c ≡ length x = length_rated p q laws x s (omega arith) in
      let n : length (c ++ []) ≡ length x = ap length (append-nil c) ∙ lc in
      ap (plains p q s) (blocks_more q.rate c [] laws.rate_low (omega arith) (omega arith)) ∙ ap (λ z. z ∷ []) (rated_off x s (omega arith))
  step_back s x (y ∷ ys) hs some wide ih =
      let c : List ℕ = xors x (pick q.rate_places s) in
      let s' : List ℕ = p.forward (xors s (mask p q 64 x)) in
      let rest : List ℕ = ciphers p q s' (y ∷ ys) (ended q (map (mask p q 64) (y ∷ ys))) in
      let lc : length c ≡ length x = length_rated p q laws x s (omega arith) in
      let lr : length rest ≡ length (all_of (y ∷ ys)) = length_ciphers (y ∷ ys) (ended q (map (mask p q 64) (y ∷ ys))) s' hs (length_message_masks (y ∷ ys)) in
      let n : length (c ++ rest) ≡ length c + length rest = length-append c rest in
      ap (plains p q s) (blocks_more q.rate c rest laws.rate_low (omega arith) (omega arith))
      ∙ ap (λ z. z ∷ plains p q (p.forward (xors s (mask p q 64 z))) (blocks q.rate rest)) (rated_off x s (omega arith))
      ∙ ap (λ z. x ∷ z) (ih s')

  back_again : (n : ℕ) (s m : List ℕ) → length m ≤ n → plains p q s (blocks q.rate (ciphers p q s (cut q.rate n m) (ended q (map (mask p q 64) (cut q.rate n m))))) ≡ cut q.rate n m
  back_again zero s m h = refl
  back_again (suc n) s [] h = refl
  back_again (suc n) s (a ∷ m) h =
      let r : ℕ = q.rate in
      let x : List ℕ = take r (a ∷ m) in
      let t : List ℕ = drop r (a ∷ m) in
      let lt : length x ≡ min r (suc (length m)) = length-take r (a ∷ m) in
      let ld : length t ≡ suc (length m) - r = length-drop r (a ∷ m) in
      let small : length t ≤ n = omega (arith, laws.rate_low) in
      let lj : length (all_of (cut r n t)) ≡ length t = ap length (cut_joined r n t laws.rate_low small) in
      step_back s x (cut r n t) (cut_fits r n t) (omega (arith, laws.rate_low)) (omega arith) (λ s'. back_again n s' t small)

  -- ---- seal undoes open

  forward_again : (ys : List (List ℕ)) (s : List ℕ) → Fits ys → ciphers p q s (plains p q s ys) (ended q (map (mask p q 64) (plains p q s ys))) ≡ all_of ys
  forward_again [] s h = refl
  forward_again (y ∷ []) s h = ap (λ (z : List ℕ). z ++ []) (rated_off y s h.0)
  forward_again (y ∷ z ∷ ys) s h =
      let t : List ℕ = p.forward (xors s (mask p q 64 (xors y (pick q.rate_places s)))) in
      ap (λ (w : List ℕ). w ++ ciphers p q t (plains p q t (z ∷ ys)) (ended q (map (mask p q 64) (plains p q t (z ∷ ys))))) (rated_off y s h.0)
      ∙ ap (λ (w : List ℕ). y ++ w) (forward_again (z ∷ ys) t h.1)

  -- ---- of whole messages

  -- the ciphertext from the state before the message
  text : (k n d m : List ℕ) → ciphertext p q k n d m ≡ ciphers p q (run p (start p q k n) (zero_mask p ∷ masks p q 32 d)) (blocks q.rate m) (ended q (masks p q 64 m))
  text k n d [] = refl
  text k n d (a ∷ m) =
      sym (text_is p q k n d (a ∷ m)) ∙ ap (λ z. ciphers p q z (blocks q.rate (a ∷ m)) (ended q (masks p q 64 (a ∷ m)))) (unflagged p q (start p q k n) d a m)

  pub text_length : (k n d m : List ℕ) → length (ciphertext p q k n d m) ≡ length m
  text_length k n d m =
      let bs = blocks q.rate m in
      ap length (text k n d m)
      ∙ length_ciphers bs (ended q (masks p q 64 m)) _ (cut_fits q.rate (length m) m) (length_message_masks bs)
      ∙ ap length (cut_joined q.rate (length m) m laws.rate_low (omega arith))

  pub opens_what_it_seals : (k n d m : List ℕ) → plaintext p q k n d (ciphertext p q k n d m) ≡ m
  opens_what_it_seals k n d m =
      let s : List ℕ = run p (start p q k n) (zero_mask p ∷ masks p q 32 d) in
      ap (λ c. all_of (plains p q s (blocks q.rate c))) (text k n d m)
      ∙ ap all_of (back_again (length m) s m (omega arith))
      ∙ cut_joined q.rate (length m) m laws.rate_low (omega arith)

  seals_what_it_opens : (k n d c : List ℕ) → ciphertext p q k n d (plaintext p q k n d c) ≡ c
  seals_what_it_opens k n d c =
      let s : List ℕ = run p (start p q k n) (zero_mask p ∷ masks p q 32 d) in
      text k n d (plaintext p q k n d c)
      ∙ ap (λ bs. ciphers p q s bs (ended q (map (mask p q 64) bs))) (blocks_plains p q laws (length c) s c (omega arith))
      ∙ forward_again (blocks q.rate c) s (cut_fits q.rate (length c) c)
      ∙ cut_joined q.rate (length c) c laws.rate_low (omega arith)

  only : (k n d c t m : List ℕ) (z : Bool) → bytes_eq (tag p q k n d (plaintext p q k n d c)) t ≡ z → cond z (Some (plaintext p q k n d c)) None ≡ Some m → (ciphertext p q k n d m ≡ c) × (tag p q k n d m ≡ t)
  only k n d c t m true same e =
      let is : plaintext p q k n d c ≡ m = cc in (
        ap (ciphertext p q k n d) (sym is) ∙ seals_what_it_opens k n d c,
        ap (tag p q k n d) (sym is) ∙ (bytes_eq-Decides (tag p q k n d (plaintext p q k n d c)) t).0 same,
      )
  only k n d c t m false same e = absurd (let z : ◌≡◌ {A = ℕ} 0 1 = cc in omega arith)

  given : (x m : List ℕ) (z : Bool) → cond z (Some x) None ≡ Some m → x ≡ m
  given x m true e = cc
  given x m false e = absurd (let z : ◌≡◌ {A = ℕ} 0 1 = cc in omega arith)

  pub spoc_laws : Bijective p → Laws (spoc p q)
  spoc_laws bij = record {
    version_small = laws.version_small;
    width_low = laws.rate_low;
    width_high = laws.rate_high;
    ciphertext_length = text_length;
    tag_length = λ k n d m. length_pick q.masked_places _ ∙ laws.masked_count;
    opens_sealed = λ k n d m.
        let t = tag p q k n d m in
        ap (λ (z : List ℕ). cond (bytes_eq (tag p q k n d z) t) (Some z) None) (opens_what_it_seals k n d m)
        ∙ ap (λ z. cond z (Some m) None) ((bytes_eq-Decides t t).1 refl);
    only_sealed = λ k n d c t m e. only k n d c t m (bytes_eq (tag p q k n d (plaintext p q k n d c)) t) refl e;
    ciphertext_octets = ciphertext_octets p bij q laws;
    opens_octets = λ k n d c t m hk hn hd hc e. subst Octets (given (plaintext p q k n d c) m (bytes_eq (tag p q k n d (plaintext p q k n d c)) t) e) (plaintext_octets p bij q laws k n d c hk hn hd hc);
    tag_octets = tag_octets p bij q laws;
  }

  pub spoc_claims : Bijective p → Claims p q
  spoc_claims bij = record {
    feeds_distinct = feeds_distinct p q laws;
    one_mask_tells = one_mask_tells p bij q;
    starts_are_states = laws.begin_bytes;
    key_tells = key_tells p bij q laws;
    laws = spoc_laws bij;
  }
