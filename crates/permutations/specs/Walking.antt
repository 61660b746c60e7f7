-- A step and its inverse undo each other, and so do the steps of a table. Assumes nothing.
use Rattle.std.specs.Prelude.{◌≡◌, ℕ, ◌^◌, ◌<◌, ◌≤◌, List, [], ◌∷◌, refl}
use Rattle.std.proofs.Common.{ap, ◌∙◌, arith, pow_mono}
use Rattle.std.proofs.lemmas.Nat.{xor_lt}
use Rattle.std.specs.List.{AllByRecursion}
use Rattle.permutations.specs.declared.constants.StepConstants.{StepConstants}
use Rattle.permutations.specs.Simeck.{SubblockWords, block, box, Fit}
use Rattle.permutations.specs.Steps.{StateWords, xored, ones_but, step, unstep, steps, unsteps, Small, FitsIn}
use Rattle.permutations.specs.Xors.{xor_mix}
use Rattle.permutations.specs.Boxes.{unbox_box, box_unbox, box_fit, unbox_fit}

xored_mix : (x y c : SubblockWords) → xored (xored (xored (xored x y) c) y) c ≡ x
xored_mix x y c i = block (xor_mix x.left y.left c.left i) (xor_mix x.right y.right c.right i)

abbrev four : SubblockWords → SubblockWords → SubblockWords → SubblockWords → StateWords
four a b c d = record { s0 = a; s1 = b; s2 = c; s3 = d }

pub unstep_step : (m u : ℕ) (k : StepConstants) (s : StateWords) → unstep m u k (step m u k s) ≡ s
unstep_step m u k s i =
    four
    (xored_mix s.s0 (box m k.rc0 u s.s1) (ones_but m k.sc0) i)
    (unbox_box m k.rc0 u s.s1 i)
    (xored_mix s.s2 (box m k.rc1 u s.s3) (ones_but m k.sc1) i)
    (unbox_box m k.rc1 u s.s3 i)

pub step_unstep : (m u : ℕ) (k : StepConstants) (s : StateWords) → step m u k (unstep m u k s) ≡ s
step_unstep m u k s =
    let c0 : SubblockWords = ones_but m k.sc0 in
    let c1 : SubblockWords = ones_but m k.sc1 in
    let shape : SubblockWords → SubblockWords → StateWords = λ b1 b3. four b1 (xored (xored (xored (xored s.s1 s.s2) c1) b3) c1) b3 (xored (xored (xored (xored s.s3 s.s0) c0) b1) c0) in
    let boxes : step m u k (unstep m u k s) ≡ shape s.s0 s.s2 = λ i. shape (box_unbox m k.rc0 u s.s0 i) (box_unbox m k.rc1 u s.s2 i) in
    boxes ∙ (λ i. four s.s0 (xored_mix s.s1 s.s2 c1 i) s.s2 (xored_mix s.s3 s.s0 c0 i))

pub unsteps_steps : (m u : ℕ) (ks : List StepConstants) (s : StateWords) → unsteps m u ks (steps m u ks s) ≡ s
unfolding steps unsteps
unsteps_steps m u [] s = refl
unsteps_steps m u (k ∷ ks) s = ap (unstep m u k) (unsteps_steps m u ks (step m u k s)) ∙ unstep_step m u k s

pub steps_unsteps : (m u : ℕ) (ks : List StepConstants) (s : StateWords) → steps m u ks (unsteps m u ks s) ≡ s
unfolding steps unsteps
steps_unsteps m u [] s = refl
steps_unsteps m u (k ∷ ks) s = ap (steps m u ks) (step_unstep m u k (unsteps m u ks s)) ∙ steps_unsteps m u ks s

-- ---- bounds

pub xored_fit : (m : ℕ) (a b : SubblockWords) → Fit m a → Fit m b → Fit m (xored a b)
xored_fit m a b h k = record { left = xor_lt m _ _ h.left k.left; right = xor_lt m _ _ h.right k.right }

module _ (m : ℕ) (wide : 8 ≤ m) (u : ℕ) where
  ones_fit : (sc : ℕ) → sc < 256 → Fit m (ones_but m sc)
  ones_fit sc h = let big : 2 ^ 8 ≤ 2 ^ m = pow_mono wide in record { left = omega arith; right = omega arith }

  pub step_fit : (k : StepConstants) (s : StateWords) → Small k → FitsIn m s → FitsIn m (step m u k s)
  step_fit k s c h =
      let some : 1 ≤ m = omega arith in
      let b1 = box_fit m some k.rc0 u s.s1 h.s1 in
      let b3 = box_fit m some k.rc1 u s.s3 h.s3 in
      record {
        s0 = b1;
        s1 = xored_fit m _ _ (xored_fit m _ _ h.s2 b3) (ones_fit _ c.sc1);
        s2 = b3;
        s3 = xored_fit m _ _ (xored_fit m _ _ h.s0 b1) (ones_fit _ c.sc0);
      }

  pub unstep_fit : (k : StepConstants) (s : StateWords) → Small k → FitsIn m s → FitsIn m (unstep m u k s)
  unstep_fit k s c h =
      let some : 1 ≤ m = omega arith in
      record {
        s0 = xored_fit m _ _ (xored_fit m _ _ h.s3 h.s0) (ones_fit _ c.sc0);
        s1 = unbox_fit m some k.rc0 u s.s0 h.s0;
        s2 = xored_fit m _ _ (xored_fit m _ _ h.s1 h.s2) (ones_fit _ c.sc1);
        s3 = unbox_fit m some k.rc1 u s.s2 h.s2;
      }

  -- every entry of the table is small
  pub steps_fit : (ks : List StepConstants) (s : StateWords) → AllByRecursion Small ks → FitsIn m s → FitsIn m (steps m u ks s)
  unfolding steps
  steps_fit [] s c h = h
  steps_fit (k ∷ ks) s c h = steps_fit ks _ c.1 (step_fit k s c.0 h)

  pub unsteps_fit : (ks : List StepConstants) (s : StateWords) → AllByRecursion Small ks → FitsIn m s → FitsIn m (unsteps m u ks s)
  unfolding unsteps
  unsteps_fit [] s c h = h
  unsteps_fit (k ∷ ks) s c h = unstep_fit k _ c.0 (unsteps_fit ks s c.1 h)
