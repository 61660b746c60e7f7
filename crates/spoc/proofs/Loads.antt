-- A state that is written part by part, from its first byte to its last. Assumes nothing.
use Rattle.std.proofs.Common.{◌≡◌, ℕ, ◌+◌, List, ◌++◌, length, take, drop, sym, ap, ◌∙◌, ap₂, take_all, append_assoc, length-drop, arith}

-- s is the state before, of which a bytes are loaded, and s' the state with a part of n bytes more
pub loads_part : (a n b : ℕ) (s s' done part x : List ℕ) → take (a + length part) s' ≡ take a s ++ part → take a s ≡ done → part ≡ x → length part ≡ n → a + n ≡ b → take b s' ≡ done ++ x
loads_part a n b s s' done part x e before same long up =
    ap (λ z. take z s') (sym up ∙ ap (λ z. a + z) (sym long)) ∙ e ∙ ap₂ (λ y z. y ++ z) before same

pub loads_all : (b : ℕ) (s x : List ℕ) → length s ≡ b → take b s ≡ x → s ≡ x
loads_all b s x long e = sym (take_all b s (omega (arith, long))) ∙ e

-- six parts in order, in twos and ones
pub six_parts : (a b c d e f : List ℕ) → ((((a ++ b) ++ c) ++ d) ++ e) ++ f ≡ (a ++ b) ++ (c ++ ((d ++ e) ++ f))
six_parts a b c d e f =
    ap (λ z. z ++ f) (append_assoc ((a ++ b) ++ c) d e)
    ∙ append_assoc ((a ++ b) ++ c) (d ++ e) f
    ∙ append_assoc (a ++ b) c ((d ++ e) ++ f)

-- a list's last m bytes, as a part that is handed on
pub rest_is : (i m : ℕ) (s : List ℕ) → length s ≡ i + m → take m (drop i s) ≡ drop i s
rest_is i m s long = take_all m (drop i s) (omega (arith, length-drop i s))

pub rest_long : (i m : ℕ) (s : List ℕ) → length s ≡ i + m → length (take m (drop i s)) ≡ m
rest_long i m s long = ap length (rest_is i m s long) ∙ omega (arith, length-drop i s)
