-- The feed as the code walks it, and what that makes of the ciphertext, the message and the end state. Assumes nothing.
use Rattle.std.proofs.Common.{◌≡◌, ℕ, suc, Bool, true, false, ◌&&◌, eqb, List, [], ◌∷◌, ◌++◌, map, length, take, drop, sym, refl, ap, ◌∙◌, append-nil, arith}
use Rattle.std.specs.List.{flat_map}
use Rattle.std.proofs.lemmas.List.{length-map, take_at, drop_at}
use Rattle.std.proofs.lemmas.Bool.{ne_eqb, and_right}
use Rattle.permutations.specs.Bytes.{xors}
use Rattle.permutations.specs.Permutation.{Perm}
use Rattle.spoc.specs.Feed.{blocks, zero_mask, mask, masks, ended, feed, run, ciphers, end_state, ciphertext, before, plains, plaintext}
use Rattle.spoc.specs.Suite.{Plan, Sound, start}
use Rattle.spoc.specs.Turns.{ended_if, first_mask, at_message, opened_masks}
use Rattle.spoc.specs.Ends.{run_append}
use Rattle.spoc.proofs.Opened.{length_plains, blocks_plains}

module _ (q : Plan) where
  ended_append : (ds : List (List ℕ)) (m : List ℕ) (ms : List (List ℕ)) → ended q (ds ++ m ∷ ms) ≡ ds ++ ended q (m ∷ ms)
  ended_append [] m ms = refl
  ended_append (d ∷ []) m ms = refl
  ended_append (d ∷ e ∷ ds) m ms = ap (λ z. d ∷ z) (ended_append (e ∷ ds) m ms)

  pub length_ended : (ms : List (List ℕ)) → length (ended q ms) ≡ length ms
  length_ended [] = refl
  length_ended (m ∷ []) = refl
  length_ended (m ∷ n ∷ ms) = ap suc (length_ended (n ∷ ms))

  length_ended_if : (e : Bool) (ms : List (List ℕ)) → length (ended_if e q ms) ≡ length ms
  length_ended_if true ms = length_ended ms
  length_ended_if false ms = refl

some : (x : ℕ) (s : List ℕ) → eqb (length (x ∷ s)) 0 ≡ false
some x s = ne_eqb (suc (length s)) 0 (λ e. omega arith)

module _ (p : Perm) (q : Plan) where
  -- the zero mask, the data's and the message's, of which the last is flagged
  feed_is : (d m : List ℕ) → feed p q d m ≡ first_mask p q (eqb (length d) 0 && eqb (length m) 0) ∷ (ended_if (eqb (length m) 0) q (masks p q 32 d) ++ ended q (masks p q 64 m))
  feed_is [] [] = refl
  feed_is (x ∷ d) [] =
      rw (some x d) (ap (λ z. zero_mask p ∷ ended q z) (append-nil (masks p q 32 (x ∷ d))) ∙ ap (λ z. zero_mask p ∷ z) (sym (append-nil (ended q (masks p q 32 (x ∷ d))))))
  feed_is [] (y ∷ m) = rw (some y m) refl
  feed_is (x ∷ d) (y ∷ m) = rw (some x d, some y m) (ended_append q (zero_mask p ∷ masks p q 32 (x ∷ d)) _ _)

  pub end_is : (s d m : List ℕ) → run p (at_message p q s d m) (ended q (masks p q 64 m)) ≡ end_state p q s d m
  end_is s d m =
      sym (run_append p (ended_if (eqb (length m) 0) q (masks p q 32 d)) (ended q (masks p q 64 m)) _)
      ∙ ap (run p s) (sym (feed_is d m))

  pub text_is : (k n d m : List ℕ) → ciphers p q (at_message p q (start p q k n) d m) (blocks q.rate m) (ended q (masks p q 64 m)) ≡ ciphertext p q k n d m
  text_is k n d m =
      let ds : List (List ℕ) = ended_if (eqb (length m) 0) q (masks p q 32 d) in
      let ms : List (List ℕ) = ended q (masks p q 64 m) in
      let first : List ℕ = first_mask p q (eqb (length d) 0 && eqb (length m) 0) in
      let long : length (first ∷ ds) ≡ before q d = ap suc (length_ended_if q (eqb (length m) 0) (masks p q 32 d) ∙ length-map (blocks q.rate d) (mask p q 32)) in
      let front : take (before q d) (feed p q d m) ≡ first ∷ ds = ap (take (before q d)) (feed_is d m) ∙ take_at (first ∷ ds) ms (before q d) long in
      let rest : drop (before q d) (feed p q d m) ≡ ms = ap (drop (before q d)) (feed_is d m) ∙ drop_at (first ∷ ds) ms (before q d) long in
      ap (λ z. ciphers p q z (blocks q.rate m) ms) (ap (run p (start p q k n)) (sym front))
      ∙ ap (ciphers p q (run p (start p q k n) (take (before q d) (feed p q d m))) (blocks q.rate m)) (sym rest)

  -- before a block of the message no mask is flagged
  pub unflagged : (s d : List ℕ) (a : ℕ) (m : List ℕ) → at_message p q s d (a ∷ m) ≡ run p s (zero_mask p ∷ masks p q 32 d)
  unflagged s d a m = rw (some a m) (rw (and_right (eqb (length d) 0) false refl) refl)

  pub plain_is : (k n d c : List ℕ) → flat_map (λ x. x) (plains p q (at_message p q (start p q k n) d c) (blocks q.rate c)) ≡ plaintext p q k n d c
  plain_is k n d [] = refl
  plain_is k n d (a ∷ c) = ap (λ z. flat_map (λ x. x) (plains p q z (blocks q.rate (a ∷ c)))) (unflagged (start p q k n) d a c)

  module _ (laws : Sound p q) (k n d c : List ℕ) where
    pub plain_length : length (plaintext p q k n d c) ≡ length c
    plain_length = length_plains p q laws (length c) _ c (omega arith)

    -- the masks that open makes lead to the message's end state
    pub opened_end : run p (at_message p q (start p q k n) d c) (opened_masks p q (at_message p q (start p q k n) d c) c) ≡ end_state p q (start p q k n) d (plaintext p q k n d c)
    opened_end =
        let s : List ℕ = at_message p q (start p q k n) d c in
        let m : List ℕ = flat_map (λ x. x) (plains p q s (blocks q.rate c)) in
        let same : m ≡ plaintext p q k n d c = plain_is k n d c in
        let long : length c ≡ length m = sym (ap length same ∙ plain_length) in
        ap (λ xs. run p s (ended q (map (mask p q 64) xs))) (sym (blocks_plains p q laws (length c) s c (omega arith)))
        ∙ ap (λ l. run p (run p (p.forward (xors (start p q k n) (first_mask p q (eqb (length d) 0 && eqb l 0)))) (ended_if (eqb l 0) q (masks p q 32 d))) (ended q (masks p q 64 m))) long
        ∙ end_is (start p q k n) d m
        ∙ ap (end_state p q (start p q k n) d) same
