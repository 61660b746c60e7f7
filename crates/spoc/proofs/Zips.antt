-- The masked places beside bytes, pair by pair. Assumes nothing.
use Rattle.std.proofs.Common.{◌≡◌, ℕ, ◌<◌, List, length, Some}
use Rattle.std.proofs.iter.Yields.{fronts}
use Rattle.std.proofs.lemmas.Iterator.{zips}
use Rattle.std.proofs.lemmas.Slice.Zip.{zip_turn}
use Rattle.std.specs.Iterator.{Yields}
use Rattle.std.specs.Iterator.Adapters.{zip_first, zip_second}
use Rattle.std.specs.Slice.Iter.{iter_rest}
use denote.Ref.{Bor}
use Rattle.permutations.specs.Permutation.{Perm}
use Rattle.spoc.specs.Suite.{Plan, Sound}
use Rattle.spoc.proofs.Masks.{masked_turn}

module _ (p : Perm) (q : Plan) (laws : Sound p q) where
  -- the place of the next pair lies in a state of b bytes; the pairs xs came before it
  pub zip_inside : (vs : List ℕ) (b : ℕ) → b ≡ p.size → (xs : List (Bor ℕ × Bor ℕ)) (s t u : _) (r : _) → iter_rest (zip_first s) ≡ q.masked_places → iter_rest (zip_second s) ≡ vs
      → Yields (zips fronts fronts) s xs t → (pair : Bor ℕ × Bor ℕ) → r ≡ Some pair → zips fronts fronts t r u → pair.0.now < b
  zip_inside vs b wide xs s t u r first second y pair e h =
      let k = zip_turn q.masked_places vs xs s t u r first second y pair e h in
      masked_turn p q laws (length xs) pair.0.now b k.0 (k.2 0) wide
