-- Fronts of known bytes.
use Rattle.std.proofs.Common.{◌≡◌, ℕ, ◌≤◌, List, [], ◌∷◌, ◌++◌, length, take, drop, Some, None, Option, sym, refl, ap, ◌∙◌, subst, append-nil, append_assoc, take-append-drop, take_all, drop_of_length-le}
use Rattle.std.proofs.Math.Seq.{take-append_seam}
use Rattle.std.specs.Io.KnownBytes.{Appends, Consumes, IsAtEnd}
use Rattle.std.proofs.KnownBytes.{Appends-trans}
use Rattle.streams.specs.Fronts.{ReadsFront, LosesFront, AppendsFront}

drop_front : (bs ys : List ℕ) → drop (length bs) (bs ++ ys) ≡ ys
drop_front [] ys = refl
drop_front (b ∷ bs) ys = drop_front bs ys

pub loses : (k : ℕ) (a b : Option (List ℕ)) (bs : List ℕ) → length bs ≤ k → Consumes a b bs → LosesFront k a b
loses k None b bs le h = tt
loses k (Some xs) None bs le h = absurd h
loses k (Some xs) (Some ys) bs le h = (length bs, le, ap Some (sym (ap (drop (length bs)) h ∙ drop_front bs ys)))

-- as many as are wanted
pub reads_full : (k : ℕ) (a b : Option (List ℕ)) (bs : List ℕ) → length bs ≡ k → Consumes a b bs → ReadsFront k a b bs
reads_full k None b bs e h = tt
reads_full k (Some xs) None bs e h = absurd h
reads_full k (Some xs) (Some ys) bs e h =
    subst (λ n. ReadsFront n (Some xs) (Some ys) bs) e (sym (ap (take (length bs)) h ∙ take-append_seam bs ys), ap Some (sym (ap (drop (length bs)) h ∙ drop_front bs ys)))

take_past : (k : ℕ) (bs : List ℕ) → length bs ≤ k → take k bs ≡ bs
take_past k bs le = take_all k bs le

drop_past : (k : ℕ) (bs : List ℕ) → length bs ≤ k → drop k bs ≡ []
drop_past k bs le = drop_of_length-le bs le

-- all that there are
pub reads_rest : (k : ℕ) (a b : Option (List ℕ)) (bs : List ℕ) → length bs ≤ k → IsAtEnd b → Consumes a b bs → ReadsFront k a b bs
reads_rest k None b bs le end h = tt
reads_rest k (Some xs) None bs le end h = absurd h
reads_rest k (Some xs) (Some ys) bs le end h =
    let is : xs ≡ bs = h ∙ ap (λ (l : List ℕ). bs ++ l) end ∙ append-nil bs in
    (sym (ap (take k) is ∙ take_past k bs le), ap Some (end ∙ sym (ap (drop k) is ∙ drop_past k bs le)))

-- a front of a text was written
pub fronts : (a b : Option (List ℕ)) (text front rest : List ℕ) → text ≡ front ++ rest → Appends a b front → AppendsFront a b text
fronts a b text front rest is h = (length front, subst (Appends a b) (sym (ap (take (length front)) is ∙ take-append_seam front rest)) h)

-- the same of a part that was written only to a front, after what was written before it
pub fronts_more : (a b c : Option (List ℕ)) (text done part rest : List ℕ) → text ≡ done ++ (part ++ rest) → Appends a b done → AppendsFront b c part → AppendsFront a c text
fronts_more a b c text done part rest is h f =
    let n = f.0 in
    let split =
    is
    ∙ ap (λ (l : List ℕ). done ++ (l ++ rest)) (sym (take-append-drop n part))
    ∙ ap (λ (l : List ℕ). done ++ l) (append_assoc (take n part) (drop n part) rest)
    ∙ sym (append_assoc done (take n part) (drop n part ++ rest)) in
    fronts a c text (done ++ take n part) (drop n part ++ rest) split (Appends-trans a b c done (take n part) h f.1)
