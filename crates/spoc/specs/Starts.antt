-- The starts of the three suites: as wide as the state, and different for different keys. Assumes nothing.
use Rattle.std.specs.Prelude.{◌≡◌, ℕ, ◌+◌, Bool, true, ◌&&◌, List, ◌++◌, length, take, drop, replicate, ◌==◌, nat_le, nat_lt, refl}
use Rattle.std.proofs.Common.{sym, ap, ap₂, ◌∙◌, arith, length-append, take-append-drop}
use Rattle.std.proofs.lemmas.Bool.{ltb-true, leb-true, eqb-true, and_parts}
use Rattle.permutations.specs.Permutation.{Perm}
use Rattle.spoc.specs.Suite.{Plan, start}
use Rattle.std.proofs.lemmas.List.{append_cancel_right}
use Rattle.permutations.specs.Bench.{bench}
use Rattle.permutations.specs.Light.{light_192, light_256}
use Rattle.permutations.specs.Permutation.{Bytes, Bijective}
use Rattle.permutations.specs.Whole.{forward_bytes}
use Rattle.spoc.specs.Bench.{bench_plan}
use Rattle.spoc.specs.Feed.{put}
use Rattle.spoc.specs.Spoc128.{begin_128, spoc_128}
use Rattle.spoc.specs.Spoc64.{masked_64, loaded, begin_64, spoc_64}
use Rattle.spoc.specs.Suite.{Sound, places}
use Rattle.spoc.specs.Ends.{xored, put_bytes, xors_same, forward_same}
use Rattle.spoc.specs.Parts.{parts, bytes_append, first_half, second_half, cut_front, cut_back}
use Rattle.spoc.specs.Places.{fresh, placed, placed_inside, placed_apart}

from_halves : (k l : List ℕ) → take 8 k ≡ take 8 l → drop 8 k ≡ drop 8 l → k ≡ l
from_halves k l a b = sym (take-append-drop 8 k) ∙ ap₂ (λ x y. x ++ y) a b ∙ take-append-drop 8 l

-- what a plan over b bytes says in numbers, in one computed test
shaped : ℕ → Plan → Bool
shaped b q =
    nat_lt q.version 65536 && (nat_le 1 q.rate && (nat_le q.rate 16 && (length q.rate_places == q.rate && (length q.masked_places == q.rate && placed b (places q)))))

sound_from : (p : Perm) (q : Plan) → shaped p.size q ≡ true
    → ((k n : List ℕ) → Bytes 16 k → Bytes 16 n → Bytes p.size (start p q k n))
    → ((k l n : List ℕ) → Bytes 16 k → Bytes 16 l → Bytes 16 n → start p q k n ≡ start p q l n → k ≡ l)
    → Sound p q
unfolding shaped
sound_from p q t bytes apart =
    let a = and_parts (nat_lt q.version 65536) _ t in
    let b = and_parts (nat_le 1 q.rate) _ a.1 in
    let c = and_parts (nat_le q.rate 16) _ b.1 in
    let d = and_parts (length q.rate_places == q.rate) _ c.1 in
    let e = and_parts (length q.masked_places == q.rate) _ d.1 in
    record {
      version_small = ltb-true _ _ a.0;
      rate_low = leb-true _ _ b.0;
      rate_high = leb-true _ _ c.0;
      rate_count = eqb-true _ _ d.0;
      masked_count = eqb-true _ _ e.0;
      inside = placed_inside p.size (places q) e.1;
      apart = placed_apart p.size (places q) e.1;
      begin_bytes = bytes;
      begin_apart = apart;
    }

-- ---- bench

pub bench_sound : Sound bench bench_plan
unfolding fresh placed shaped
bench_sound = sound_from bench bench_plan refl (λ k n. bytes_append 16 16 k n) (λ k l n _ _ _ e. append_cancel_right k l n e)

-- ---- SpoC-128

pub sound_128 : Sound light_256 spoc_128
unfolding fresh placed shaped begin_128
sound_128 =
    sound_from light_256 spoc_128 refl
    (λ k n bk bn. bytes_append 8 24 (take 8 n) _ (first_half n bn) (bytes_append 8 16 (take 8 k) _ (first_half k bk) (bytes_append 8 8 (drop 8 n) (drop 8 k) (second_half n bn) (second_half k bk))))
    (λ k l n bk bl bn e.
    let e1 = (parts (take 8 n) _ (take 8 n) _ refl e).1 in
    let e2 = parts (take 8 k) _ (take 8 l) _ ((first_half k bk).size ∙ sym (first_half l bl).size) e1 in
    from_halves k l e2.0 (parts (drop 8 n) (drop 8 k) (drop 8 n) (drop 8 l) refl e2.1).1)

-- ---- SpoC-64

loaded_bytes : (k0 k1 n0 : List ℕ) → Bytes 8 k0 → Bytes 8 k1 → Bytes 8 n0 → Bytes 24 (loaded k0 k1 n0)
unfolding loaded
loaded_bytes k0 k1 n0 h0 h1 hn =
    bytes_append 6 18 (take 4 n0 ++ drop 6 k0) _ (bytes_append 4 2 (take 4 n0) (drop 6 k0) (cut_front 4 n0 (omega arith) hn) (cut_back 6 2 k0 refl h0))
    (bytes_append 6 12 (take 6 k0) _ (cut_front 6 k0 (omega arith) h0)
    (bytes_append 6 6 (drop 4 n0 ++ drop 6 k1) (take 6 k1) (bytes_append 4 2 (drop 4 n0) (drop 6 k1) (cut_back 4 4 n0 refl hn) (cut_back 6 2 k1 refl h1)) (cut_front 6 k1 (omega arith) h1)))

loaded_same : (k0 k1 l0 l1 n0 : List ℕ) → Bytes 8 k0 → Bytes 8 k1 → Bytes 8 l0 → Bytes 8 l1 → loaded k0 k1 n0 ≡ loaded l0 l1 n0 → (k0 ≡ l0) × (k1 ≡ l1)
unfolding loaded
loaded_same k0 k1 l0 l1 n0 hk0 hk1 hl0 hl1 e =
    let tails : (a b : List ℕ) → Bytes 8 a → Bytes 8 b → length (drop 6 a) ≡ length (drop 6 b) = λ a b ha hb. (cut_back 6 2 a refl ha).size ∙ sym (cut_back 6 2 b refl hb).size in
    let fronts : length (take 6 k0) ≡ length (take 6 l0) = (cut_front 6 k0 (omega arith) hk0).size ∙ sym (cut_front 6 l0 (omega arith) hl0).size in
    let wide : (w a b : List ℕ) → length (drop 6 a) ≡ length (drop 6 b) → length (w ++ drop 6 a) ≡ length (w ++ drop 6 b) = λ w a b h. length-append w (drop 6 a) ∙ ap (λ z. length w + z) h ∙ sym (length-append w (drop 6 b)) in
    let p0 = parts (take 4 n0 ++ drop 6 k0) _ (take 4 n0 ++ drop 6 l0) _ (wide (take 4 n0) k0 l0 (tails k0 l0 hk0 hl0)) e in
    let p1 = parts (take 6 k0) _ (take 6 l0) _ fronts p0.1 in
    let p2 = parts (drop 4 n0 ++ drop 6 k1) (take 6 k1) (drop 4 n0 ++ drop 6 l1) (take 6 l1) (wide (drop 4 n0) k1 l1 (tails k1 l1 hk1 hl1)) p1.1 in
    let back0 = (parts (take 4 n0) (drop 6 k0) (take 4 n0) (drop 6 l0) refl p0.0).1 in
    let back1 = (parts (drop 4 n0) (drop 6 k1) (drop 4 n0) (drop 6 l1) refl p2.0).1 in (
      sym (take-append-drop 6 k0) ∙ ap₂ (λ a b. a ++ b) p1.0 back0 ∙ take-append-drop 6 l0,
      sym (take-append-drop 6 k1) ∙ ap₂ (λ a b. a ++ b) p2.1 back1 ∙ take-append-drop 6 l1,
    )

pub sound_64 : Bijective light_192 → Sound light_192 spoc_64
unfolding fresh placed shaped begin_64
sound_64 bij =
    let load : (k n : List ℕ) → Bytes 16 k → Bytes 16 n → Bytes 24 (loaded (take 8 k) (drop 8 k) (take 8 n)) = λ k n bk bn. loaded_bytes (take 8 k) (drop 8 k) (take 8 n) (first_half k bk) (second_half k bk) (first_half n bn) in
    let nonce : (n : List ℕ) → Bytes 16 n → Bytes 24 (put masked_64 (drop 8 n) (replicate 24 0)) = λ n bn. put_bytes 24 masked_64 (drop 8 n) (second_half n bn).small in
    sound_from light_192 spoc_64 refl
    (λ k n bk bn. xored 24 _ _ (forward_bytes light_192 bij _ (load k n bk bn)) (nonce n bn))
    (λ k l n bk bl bn e.
    let states = xors_same light_192 bij _ _ (put masked_64 (drop 8 n) (replicate 24 0)) (forward_bytes light_192 bij _ (load k n bk bn)) (forward_bytes light_192 bij _ (load l n bl bn)) (nonce n bn) e in
    let same = forward_same light_192 bij _ _ (load k n bk bn) (load l n bl bn) states in
    let both = loaded_same (take 8 k) (drop 8 k) (take 8 l) (drop 8 l) (take 8 n) (first_half k bk) (second_half k bk) (first_half l bl) (second_half l bl) same in
    from_halves k l both.0 both.1)
