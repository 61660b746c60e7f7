-- The box and its inverse undo each other, at every width and number of rounds, and keep to the width. Assumes nothing.
use Rattle.std.specs.Prelude.{◌≡◌, ℕ, zero, suc, ◌+◌, ◌-◌, ◌/◌, ◌%◌, ◌^◌, ◌<◌, ◌≤◌, refl}
use Rattle.std.proofs.Common.{sym, ap, subst, ◌∙◌, add-one, mod-lt, lt_of_le_of_lt, div-le_self, arith, pow_pos, pow_mono}
use Rattle.std.proofs.lemmas.Nat.{or_lt, xor_lt, and_le_r}
use Rattle.permutations.specs.Simeck.{SubblockWords, block, turned, mixed, gamma, round, unround, box, unbox, Fit}
use Rattle.permutations.specs.Xors.{xor_round}

pub unround_round : (m g : ℕ) (b : SubblockWords) → unround m g (round m g b) ≡ b
unround_round m g b = ap (block b.left) (xor_round (mixed m b.left) b.right g)

pub round_unround : (m g : ℕ) (b : SubblockWords) → round m g (unround m g b) ≡ b
round_unround m g b = ap (λ x. block x b.right) (xor_round (mixed m b.right) b.left g)

pub unbox_box : (m rc u : ℕ) (b : SubblockWords) → unbox m rc u (box m rc u b) ≡ b
unfolding box unbox
unbox_box m rc zero b = refl
unbox_box m rc (suc k) b = ap (unbox m rc k) (unround_round m (gamma m rc k) (box m rc k b)) ∙ unbox_box m rc k b

pub box_unbox : (m rc u : ℕ) (b : SubblockWords) → box m rc u (unbox m rc u b) ≡ b
unfolding box unbox
box_unbox m rc zero b = refl
box_unbox m rc (suc k) b = ap (round m (gamma m rc k)) (box_unbox m rc k (unround m (gamma m rc k) b)) ∙ round_unround m (gamma m rc k) b

-- ---- bounds

pub turned_lt : (m i x : ℕ) → x < 2 ^ m → turned m i x < 2 ^ m
unfolding turned
turned_lt m i x h = or_lt m _ _ (mod-lt _ (pow_pos m)) (lt_of_le_of_lt (div-le_self x (2 ^ (m - i))) h)

pub mixed_lt : (m x : ℕ) → x < 2 ^ m → mixed m x < 2 ^ m
mixed_lt m x h = xor_lt m _ _ (lt_of_le_of_lt (and_le_r (turned m 5 x) x) h) (turned_lt m 1 x h)

pub gamma_lt : (m rc k : ℕ) → 1 ≤ m → gamma m rc k < 2 ^ m
gamma_lt m rc k h =
    let two : 2 ^ 1 ≤ 2 ^ m = pow_mono h in
    let low : rc / 2 ^ k % 2 < 2 = mod-lt (rc / 2 ^ k) (omega arith) in
    omega arith

pub round_fit : (m g : ℕ) (b : SubblockWords) → g < 2 ^ m → Fit m b → Fit m (round m g b)
round_fit m g b hg h = record { left = xor_lt m _ _ (xor_lt m _ _ (mixed_lt m _ h.left) h.right) hg; right = h.left }

pub unround_fit : (m g : ℕ) (b : SubblockWords) → g < 2 ^ m → Fit m b → Fit m (unround m g b)
unround_fit m g b hg h = record { left = h.right; right = xor_lt m _ _ (xor_lt m _ _ (mixed_lt m _ h.right) h.left) hg }

module _ (m : ℕ) (some : 1 ≤ m) (rc : ℕ) where
  pub box_fit : (u : ℕ) (b : SubblockWords) → Fit m b → Fit m (box m rc u b)
  unfolding box
  box_fit zero b h = h
  box_fit (suc k) b h = round_fit m _ _ (gamma_lt m rc k some) (box_fit k b h)

  pub unbox_fit : (u : ℕ) (b : SubblockWords) → Fit m b → Fit m (unbox m rc u b)
  unfolding unbox
  unbox_fit zero b h = h
  unbox_fit (suc k) b h = unbox_fit k _ (unround_fit m _ b (gamma_lt m rc k some) h)

-- ---- a turn of the code's loops

-- one round more
pub box_next : (m rc k : ℕ) (a x r : SubblockWords) → x ≡ box m rc k a → r ≡ round m (gamma m rc k) x → r ≡ box m rc (k + 1) a
unfolding box
box_next m rc k a x r x_is r_is = rw add-one (r_is ∙ ap (round m (gamma m rc k)) x_is)

-- the same, and it still fits
pub box_more : (m rc k g : ℕ) (a x r : SubblockWords) → 1 ≤ m → (x ≡ box m rc k a) × Fit m x → g ≡ gamma m rc k → r ≡ round m g x → (r ≡ box m rc (k + 1) a) × Fit m r
box_more m rc k g a x r some h g_is r_is =
    (box_next m rc k a x r h.0 (r_is ∙ ap (λ z. round m z x) g_is), subst (Fit m) (sym r_is) (round_fit m g x (subst (λ z. z < 2 ^ m) (sym g_is) (gamma_lt m rc k some)) h.1))

-- one round less is left
pub unbox_next : (m rc u k : ℕ) (a x r : SubblockWords) → 0 < k → unbox m rc u a ≡ unbox m rc k x → r ≡ unround m (gamma m rc (k - 1)) x → unbox m rc u a ≡ unbox m rc (k - 1) r
unfolding unbox
unbox_next m rc u zero a x r left x_is r_is = absurd (omega arith)
unbox_next m rc u (suc k) a x r left x_is r_is =
    let e : suc k - 1 ≡ k = omega arith in
    x_is ∙ ap (unbox m rc k) (sym (r_is ∙ ap (λ n. unround m (gamma m rc n) x) e)) ∙ ap (λ n. unbox m rc n r) (sym e)

-- the same, and it still fits
pub unbox_more : (m rc u k g : ℕ) (a x r : SubblockWords) → 1 ≤ m → 0 < k → (unbox m rc u a ≡ unbox m rc k x) × Fit m x → g ≡ gamma m rc (k - 1) → r ≡ unround m g x
    → (unbox m rc u a ≡ unbox m rc (k - 1) r) × Fit m r
unbox_more m rc u k g a x r some left h g_is r_is =
    (unbox_next m rc u k a x r left h.0 (r_is ∙ ap (λ z. unround m z x) g_is), subst (Fit m) (sym r_is) (unround_fit m g x (subst (λ z. z < 2 ^ m) (sym g_is) (gamma_lt m rc (k - 1) some)) h.1))
