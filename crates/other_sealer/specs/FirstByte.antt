-- A sealer whose ciphertext is the message and whose tag is the key's first byte, and the proof that it keeps the sealer's rule.
use Rattle.std.specs.Prelude.{◌≡◌, ℕ, ◌<◌, true, false, Bool, if◌then◌else◌, List, [], ◌∷◌, Some, None, Option, slice_index, refl}
use Rattle.std.proofs.Common.{sym, ap, arith, lit<, lit≤, subst}
use Rattle.std.specs.Str.{bytes_eq}
use Rattle.std.proofs.lemmas.Slice.Eq.{bytes_eq-Decides}
use Rattle.sealer.specs.Sealing.{Sealing, Laws, Octets}

-- the tag under a key
abbrev pub tag_under : List ℕ → List ℕ
tag_under k = slice_index k 0 ∷ []

abbrev pub first_byte : Sealing
first_byte = record {
  version = 778;
  width = 1;
  ciphertext = λ k n d m. m;
  tag = λ k n d m. tag_under k;
  opens = λ k n d c t. if bytes_eq (tag_under k) t then Some c else None;
}

first_octet : (k : List ℕ) → Octets k → slice_index k 0 < 256
first_octet [] h = lit< tt
first_octet (x ∷ k) h = h.0

opened_if : (c m : List ℕ) (b : Bool) → (if b then Some c else None) ≡ Some m → (b ≡ true) × (c ≡ m)
opened_if c m true e = (refl, cc)
opened_if c m false e = absurd (let z : ◌≡◌ {A = ℕ} 0 1 = cc in omega arith)

pub first_byte_laws : Laws first_byte
first_byte_laws = record {
  version_small = lit< tt;
  width_low = lit≤ tt;
  width_high = lit≤ tt;
  ciphertext_length = λ k n d m. refl;
  tag_length = λ k n d m. refl;
  opens_sealed = λ k n d m. ap (λ b. if b then Some m else None) ((bytes_eq-Decides (tag_under k) (tag_under k)).1 refl);
  only_sealed = λ k n d c t m e.
      let x = opened_if c m (bytes_eq (tag_under k) t) e in
      (sym x.1, (bytes_eq-Decides (tag_under k) t).0 x.0);
  ciphertext_octets = λ k n d m hk hn hd hm. hm;
  opens_octets = λ k n d c t m hk hn hd hc e. subst Octets (opened_if c m (bytes_eq (tag_under k) t) e).1 hc;
  tag_octets = λ k n d m hk hn hd hm. (first_octet k hk.small, tt);
}
