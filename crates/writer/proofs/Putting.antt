-- A record sealed and written in its parts.
use Rattle.std.proofs.Common.{◌≡◌, ℕ, ◌+◌, ◌≤◌, List, [], ◌++◌, length, take, drop, None, sym, refl, ap, ◌∙◌, arith}
use Rattle.std.proofs.lemmas.List.{append_assoc, append-nil, drop_all, drop-drop, length-append}
use Rattle.std.proofs.lemmas.Bool.Decides.{nat_tests}
use Rattle.sealer.specs.Seal.{sealed, first_no}
use Rattle.sealer.specs.Sealing.{Sealing}
use Rattle.cards.specs.Plain.{overwrite}

passes : (r : ℕ) (k n d m o t : List ℕ) → length k ≡ 16 → length n ≡ 16 → length d ≡ 22 → length m ≤ 4096 → length o ≡ length m → length t ≡ r → first_no r (length m) k n d m o t ≡ None
passes r k n d m o t hk hn hd hm ho ht = grind (arith, nat_tests)

-- what seal leaves in two parts that are as long as body and tag
pub whole : (S : Sealing) (k n d m o t : List ℕ) → length k ≡ 16 → length n ≡ 16 → length d ≡ 22 → length m ≤ 4096 → length o ≡ length m → length t ≡ S.width → ((sealed S k n d m o t).out ≡ S.ciphertext k n d m) × ((sealed S k n d m o t).tag ≡ S.tag k n d m)
whole S k n d m o t hk hn hd hm ho ht =
    let e = passes S.width k n d m o t hk hn hd hm ho ht in
    let none : drop (length m) o ≡ [] = drop_all (length m) o (omega arith) in (
      rw e (ap (λ (z : List ℕ). S.ciphertext k n d m ++ z) none ∙ append-nil (S.ciphertext k n d m)),
      rw e refl,
    )

-- head, body and tag in their parts of a medium, and z behind them
pub parts_written : (p : ℕ) (m h c t z : List ℕ) → z ≡ drop (length t) (drop (length c) (drop (length h) (drop p m))) → take p m ++ (h ++ (c ++ (t ++ z))) ≡ overwrite p (h ++ (c ++ t)) m
parts_written p m h c t z e =
    let all : p + length h + length c + length t ≡ p + length (h ++ (c ++ t)) = omega (arith, length-append h (c ++ t), length-append c t) in
    let far : z ≡ drop (p + length (h ++ (c ++ t))) m =
    e
    ∙ ap (λ (l : List ℕ). drop (length t) (drop (length c) l)) (drop-drop (length h) p m)
    ∙ ap (drop (length t)) (drop-drop (length c) (p + length h) m)
    ∙ drop-drop (length t) (p + length h + length c) m
    ∙ ap (λ i. drop i m) all in
    ap (λ (l : List ℕ). take p m ++ l) (ap (λ (l : List ℕ). h ++ l) (sym (append_assoc c t z)) ∙ sym (append_assoc h (c ++ t) z))
    ∙ ap (λ (l : List ℕ). take p m ++ ((h ++ (c ++ t)) ++ l)) far
