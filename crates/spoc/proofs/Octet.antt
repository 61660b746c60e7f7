-- Ciphertext and tag are made of bytes. Assumes nothing.
use Rattle.std.proofs.Common.{ℕ, List, [], ◌∷◌, length, take, drop, lit<}
use Rattle.std.specs.List.{AllByRecursion, flat_map}
use Rattle.std.proofs.ByRecursion.{All-append, All-take, All-drop}
use Rattle.permutations.specs.Bytes.{xors}
use Rattle.permutations.specs.Permutation.{Bytes, Perm, Bijective}
use Rattle.permutations.specs.Xors.{xors_bytes}
use Rattle.permutations.specs.Words.{Byte}
use Rattle.spoc.specs.Feed.{blocks, feed, run, pick, ciphers, before, tag, ciphertext}
use Rattle.sealer.specs.Sealing.{Octets}
use Rattle.spoc.specs.Suite.{Plan, Sound, start}
use Rattle.std.proofs.lemmas.List.{length-replicate}
use Rattle.spoc.specs.Feed.{zero_mask, mask, masks, plains, plaintext}
use Rattle.spoc.specs.Ends.{octet_at, cut_octets, zeros_octets, mask_bytes, map_bytes, feed_bytes, step_bytes, run_bytes}

pick_octets : (ps s : List ℕ) → Octets s → Octets (pick ps s)
pick_octets [] s h = tt
pick_octets (p ∷ ps) s h = (octet_at s p h, pick_octets ps s h)

module _ (p : Perm) (bij : Bijective p) (q : Plan) where
  ciphers_octets : (xs ms : List (List ℕ)) (s : List ℕ) → AllByRecursion Octets xs → AllByRecursion (Bytes p.size) ms → Bytes p.size s → Octets (ciphers p q s xs ms)
  ciphers_octets [] ms s hx hm hs = tt
  ciphers_octets (x ∷ xs) [] s hx hm hs = tt
  ciphers_octets (x ∷ xs) (m ∷ ms) s hx hm hs =
      All-append Byte (xors x (pick q.rate_places s)) (ciphers p q (p.forward (xors s m)) xs ms)
      (xors_bytes x (pick q.rate_places s) hx.0 (pick_octets q.rate_places s hs.small))
      (ciphers_octets xs ms (p.forward (xors s m)) hx.1 hm.1 (step_bytes p bij s m hs hm.0))

  module _ (laws : Sound p q) (k n d m : List ℕ) (hk : Bytes 16 k) (hn : Bytes 16 n) (hd : Octets d) (hm : Octets m) where
    pub tag_octets : Octets (tag p q k n d m)
    tag_octets = pick_octets q.masked_places (run p (start p q k n) (feed p q d m)) (run_bytes p bij (feed p q d m) (start p q k n) (feed_bytes p q d m hd hm) (laws.begin_bytes k n hk hn)).small

    pub ciphertext_octets : Octets (ciphertext p q k n d m)
    ciphertext_octets =
        let ms = feed p q d m in
        let fb = feed_bytes p q d m hd hm in
        let i = before q d in
        ciphers_octets (blocks q.rate m) (drop i ms) (run p (start p q k n) (take i ms)) (cut_octets q.rate (length m) m hm) (All-drop (Bytes p.size) i ms fb)
        (run_bytes p bij (take i ms) (start p q k n) (All-take (Bytes p.size) i ms fb) (laws.begin_bytes k n hk hn))

  plains_octets : (ys : List (List ℕ)) (s : List ℕ) → AllByRecursion Octets ys → Bytes p.size s → Octets (flat_map (λ x. x) (plains p q s ys))
  plains_octets [] s hy hs = tt
  plains_octets (y ∷ ys) s hy hs =
      let x : List ℕ = xors y (pick q.rate_places s) in
      let hx : Octets x = xors_bytes y (pick q.rate_places s) hy.0 (pick_octets q.rate_places s hs.small) in
      All-append Byte x _ hx (plains_octets ys (p.forward (xors s (mask p q 64 x))) hy.1 (step_bytes p bij s (mask p q 64 x) hs (mask_bytes p q 64 x (lit< tt) hx)))

  pub plaintext_octets : Sound p q → (k n d c : List ℕ) → Bytes 16 k → Bytes 16 n → Octets d → Octets c → Octets (plaintext p q k n d c)
  plaintext_octets laws k n d c hk hn hd hc =
      plains_octets (blocks q.rate c) (run p (start p q k n) (zero_mask p ∷ masks p q 32 d)) (cut_octets q.rate (length c) c hc)
      (run_bytes p bij (zero_mask p ∷ masks p q 32 d) (start p q k n)
      (record { size = length-replicate p.size 0; small = zeros_octets p.size }, map_bytes p q 32 (blocks q.rate d) (lit< tt) (cut_octets q.rate (length d) d hd))
      (laws.begin_bytes k n hk hn))
