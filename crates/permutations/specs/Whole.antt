-- Forward and back, which are those by the full number, are as they are by each number of steps. Assumes nothing.
use Rattle.std.specs.Prelude.{ℕ, ◌≤◌, List}
use Rattle.std.proofs.Common.{sym, ap, ◌∙◌, subst, arith}
use Rattle.permutations.specs.Permutation.{Bytes, Perm, Bijective, UndoWhole}

module _ (p : Perm) (bij : Bijective p) where
  all : p.full ≤ p.full
  all = omega arith

  pub forward_bytes : (x : List ℕ) → Bytes p.size x → Bytes p.size (p.forward x)
  forward_bytes x b = subst (λ (f : List ℕ → List ℕ). Bytes p.size (f x)) (sym p.forward_is) (bij.forward_by_bytes p.full x all b)

  pub undo_whole : UndoWhole p
  undo_whole = record {
    back_forward = λ x b. ap (λ (f : List ℕ → List ℕ). f (p.forward x)) p.back_is ∙ ap (λ (f : List ℕ → List ℕ). p.back_by p.full (f x)) p.forward_is ∙ bij.undo.back_forward p.full x all b;
    forward_back = λ x b. ap (λ (f : List ℕ → List ℕ). f (p.back x)) p.forward_is ∙ ap (λ (f : List ℕ → List ℕ). p.forward_by p.full (f x)) p.back_is ∙ bij.undo.forward_back p.full x all b;
  }
