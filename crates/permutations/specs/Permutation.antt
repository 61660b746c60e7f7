-- What a permutation is. Assumes nothing.
use Rattle.std.specs.Prelude.{◌≡◌, ℕ, ◌<◌, ◌≤◌, List, length, Ok, Err, Result, nat_le, if◌then◌else◌, refl}
use Rattle.std.specs.List.{AllByRecursion}
use Rattle.permutations.specs.declared.fault.TooManySteps.{TooManySteps}

-- b bytes
pub record Bytes (b : ℕ) (s : List ℕ) : Type 0 where
  pub size : length s ≡ b
  pub small : AllByRecursion (λ x. x < 256) s

-- what a permutation means: the size of its states, its full number of steps, and two functions on its states for each
-- number of steps: the first ones, and these undone. Forward and back are those by the full number.
pub record Perm : Type 0 where
  pub size : ℕ
  pub full : ℕ
  pub forward_by : ℕ → List ℕ → List ℕ
  pub back_by : ℕ → List ℕ → List ℕ
  pub forward : List ℕ → List ℕ
  pub forward_is : forward ≡ forward_by full
  pub back : List ℕ → List ℕ
  pub back_is : back ≡ back_by full

-- the permutation with these steps
abbrev pub perm_of : ℕ → ℕ → (ℕ → List ℕ → List ℕ) → (ℕ → List ℕ → List ℕ) → Perm
perm_of b n f g =
    record {
      size = b;
      full = n;
      forward_by = f;
      back_by = g;
      forward = f n;
      forward_is = refl;
      back = g n;
      back_is = refl;
    }

-- the rule of inverses: by each number of steps up to the full one, forward and back undo each other
pub record Undo (p : Perm) : Type 0 where
  pub back_forward : (s : ℕ) (x : List ℕ) → s ≤ p.full → Bytes p.size x → p.back_by s (p.forward_by s x) ≡ x
  pub forward_back : (s : ℕ) (x : List ℕ) → s ≤ p.full → Bytes p.size x → p.forward_by s (p.back_by s x) ≡ x

-- the same of forward and back
pub record UndoWhole (p : Perm) : Type 0 where
  pub back_forward : (x : List ℕ) → Bytes p.size x → p.back (p.forward x) ≡ x
  pub forward_back : (x : List ℕ) → Bytes p.size x → p.forward (p.back x) ≡ x

-- states of at most 64 bytes, which forward and back keep to; no steps leave a state as it is; the rule of inverses.
-- So step i, which is forward by i + 1 after back by i, has an inverse, and forward by s is steps 0 to s - 1.
pub record Bijective (p : Perm) : Type 0 where
  pub most : p.size ≤ 64
  pub none : (x : List ℕ) → Bytes p.size x → p.forward_by 0 x ≡ x
  pub forward_by_bytes : (s : ℕ) (x : List ℕ) → s ≤ p.full → Bytes p.size x → Bytes p.size (p.forward_by s x)
  pub back_by_bytes : (s : ℕ) (x : List ℕ) → s ≤ p.full → Bytes p.size x → Bytes p.size (p.back_by s x)
  pub undo : Undo p

-- the answer to s steps, forward or back
abbrev pub steps_answer : Perm → ℕ → Result (Unit {0}) TooManySteps
steps_answer p s = if nat_le s p.full then Ok tt else Err (record {})

-- the state after forward by s; where there are not so many steps, it stays
abbrev pub forward_state : Perm → ℕ → List ℕ → List ℕ
forward_state p s x = if nat_le s p.full then p.forward_by s x else x

-- the same of back by s
abbrev pub back_state : Perm → ℕ → List ℕ → List ℕ
back_state p s x = if nat_le s p.full then p.back_by s x else x

-- the state after forward by s, if there are so many steps
abbrev pub there_answer : Perm → ℕ → List ℕ → Result (List ℕ) TooManySteps
there_answer p s x = if nat_le s p.full then Ok (p.forward_by s x) else Err (record {})
