-- A trace that is printed step by step. Assumes nothing.
use Rattle.std.proofs.Common.{◌≡◌, ℕ, suc, ◌+◌, ◌≤◌, leb, List, ◌++◌, refl, ap, ◌∙◌, add-one}
use Rattle.std.proofs.lemmas.Bool.{cond-true}
use Rattle.std.proofs.Common.{le-leb}
use Rattle.permutations.specs.Permutation.{Perm, forward_state}
use Rattle.workbench.specs.States.{step_text, trace_text}

pub trace_none : (p : Perm) (s : List ℕ) → trace_text p 0 s ≡ step_text 0 s
unfolding trace_text
trace_none p s = refl

trace_suc : (p : Perm) (s : List ℕ) (i : ℕ) → trace_text p i s ++ step_text (suc i) (p.forward_by (suc i) s) ≡ trace_text p (suc i) s
unfolding trace_text
trace_suc p s i = refl

-- u is the state after i + 1 steps
pub trace_more : (p : Perm) (s u : List ℕ) (i : ℕ) → i + 1 ≤ p.full → u ≡ forward_state p (i + 1) s → trace_text p i s ++ step_text (i + 1) u ≡ trace_text p (i + 1) s
trace_more p s u i within is =
    ap (λ (x : List ℕ). trace_text p i s ++ step_text (i + 1) x) (is ∙ cond-true (leb (i + 1) p.full) (p.forward_by (i + 1) s) s (le-leb (i + 1) p.full within))
    ∙ rw (add-one i) (trace_suc p s i)
