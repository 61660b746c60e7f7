-- What seal and open do past their questions, and what is sealed and opened again. Assumes nothing.
use Rattle.std.proofs.Common.{◌≡◌, ℕ, Bool, true, false, cond, ◌&&◌, eqb, leb, List, ◌++◌, ◌≤◌, length, take, drop, replicate, Some, None, Ok, Err, Option, Result, sym, refl, ap, ◌∙◌, ap₂, arith}
use Rattle.std.specs.List.{flat_map}
use Rattle.std.specs.Str.{bytes_eq}
use Rattle.std.proofs.lemmas.List.{take_at, drop_at}
use Rattle.std.proofs.lemmas.Bool.{eq-eqb, eqb-true, le-leb}
use Rattle.permutations.specs.Permutation.{Perm, Bijective}
use Rattle.sealer.specs.declared.SealFault.{SealFault}
use Rattle.sealer.specs.declared.SealFault.TheVariants.{KeyLength, NonceLength, TooLong, OutputShort, TagLength}
use Rattle.spoc.specs.declared.mode.Way.TheVariants.{Seal, Open}
use Rattle.spoc.specs.Feed.{blocks, masks, ended, run, pick, ciphers, tag, ciphertext, plains, plaintext, opens}
use Rattle.sealer.specs.Seal.{first_no, Sealed, sealed_unless, opened_unless, judged, verdict, opened_if_sealed}
use Rattle.spoc.specs.Seal.{sealed, opened, tested, sealed_then_opened}
use Rattle.spoc.specs.Suite.{Plan, Sound, start}
use Rattle.spoc.specs.Turns.{at_message, masks_of, opened_masks, output_of}
use Rattle.spoc.proofs.Law.{spoc_laws}
use Rattle.spoc.proofs.Sealed.{text_is, end_is, plain_is, plain_length, opened_end}

some_not : (e : SealFault) → ◌≡◌ {A = Option SealFault} (Some e) None → ⊥
some_not e h = let z : ◌≡◌ {A = ℕ} 0 1 = cc in omega arith

passes : (v w x y z : Bool) → cond v (cond w (cond x (cond y (cond z None (Some TagLength)) (Some OutputShort)) (Some TooLong)) (Some NonceLength)) (Some KeyLength) ≡ None
    → (v ≡ true) × (w ≡ true) × (x ≡ true) × (y ≡ true) × (z ≡ true)
passes true true true true true h = (refl, refl, refl, refl, refl)
passes true true true true false h = absurd (some_not TagLength h)
passes true true true false z h = absurd (some_not OutputShort h)
passes true true false y z h = absurd (some_not TooLong h)
passes true false x y z h = absurd (some_not NonceLength h)
passes false w x y z h = absurd (some_not KeyLength h)

-- the tag has the bytes it is to have
pub tag_long : (r w : ℕ) (k n d m o t : List ℕ) → first_no r w k n d m o t ≡ None → length t ≡ r
tag_long r w k n d m o t none =
    let all = passes (eqb (length k) 16) (eqb (length n) 16) (leb (length d) 65535 && leb (length m) 65535) (leb w (length o)) (eqb (length t) r) none in
    eqb-true (length t) r all.4

-- ---- past the questions, over a state

-- s is the state before the message, or its ciphertext, and s' the end state
module _ (p : Perm) (q : Plan) (k n d m s : List ℕ) (es : s ≡ at_message p q (start p q k n) d m) where
  pub text_sealed : (o out' : List ℕ) → out' ≡ output_of Seal p q s m ++ drop (length m) o → out' ≡ ciphertext p q k n d m ++ drop (length m) o
  text_sealed o out' eo = eo ∙ ap (λ z. z ++ drop (length m) o) (ap (λ z. ciphers p q z (blocks q.rate m) (ended q (masks p q 64 m))) es ∙ text_is p q k n d m)

  pub tag_sealed : (s' t' : List ℕ) → s' ≡ run p s (masks_of Seal p q s m) → t' ≡ pick q.masked_places s' → t' ≡ tag p q k n d m
  tag_sealed s' t' es' et = et ∙ ap (pick q.masked_places) (es' ∙ ap (λ z. run p z (ended q (masks p q 64 m))) es ∙ end_is p q (start p q k n) d m)

  -- here m is the ciphertext
  module _ (laws : Sound p q) where
    pub text_opened : (o out' : List ℕ) → out' ≡ output_of Open p q s m ++ drop (length m) o → out' ≡ plaintext p q k n d m ++ drop (length m) o
    text_opened o out' eo = eo ∙ ap (λ z. z ++ drop (length m) o) (ap (λ z. flat_map (λ x. x) (plains p q z (blocks q.rate m))) es ∙ plain_is p q k n d m)

    pub rest_stays : (o out' : List ℕ) → out' ≡ output_of Open p q s m ++ drop (length m) o → drop (length m) out' ≡ drop (length m) o
    rest_stays o out' eo = ap (drop (length m)) (text_opened o out' eo) ∙ drop_at (plaintext p q k n d m) (drop (length m) o) (length m) (plain_length p q laws k n d m)

    -- what opens, by whether the tag agrees
    pub opens_if : (t s' : List ℕ) (b : Bool) → s' ≡ run p s (masks_of Open p q s m) → b ≡ bytes_eq (pick q.masked_places s') t
        → opens p q k n d m t ≡ cond b (Some (plaintext p q k n d m)) None
    opens_if t s' b es' eb =
        let end = es' ∙ ap (λ z. run p z (opened_masks p q z m)) es ∙ opened_end p q laws k n d m in
        ap (λ z. cond (bytes_eq (pick q.masked_places z) t) (Some (plaintext p q k n d m)) None) (sym end)
        ∙ ap (λ z. cond z (Some (plaintext p q k n d m)) None) (sym eb)

-- ---- the questions are passed

-- r is the rate, w how many bytes the output is to have, and k' and n' are the key and the nonce as arrays
module _ (p : Perm) (q : Plan) (k n d m o t k' n' : List ℕ) (r w : ℕ) (er : r ≡ q.rate) (none : first_no r w k n d m o t ≡ None) (ek : k' ≡ k) (en : n' ≡ n) where
  none_said : (v : ℕ) → w ≡ v → first_no q.rate v k n d m o t ≡ None
  none_said v ew = ap (λ z. first_no z v k n d m o t) (sym er) ∙ ap (λ z. first_no r z k n d m o t) (sym ew) ∙ none

  pub sealed_is : w ≡ length m → (out' t' : List ℕ) → out' ≡ ciphertext p q k' n' d m ++ drop (length m) o → t' ≡ tag p q k' n' d m
      → sealed p q k n d m o t ≡ record { answer = Ok tt; out = out'; tag = t' }
  sealed_is ew out' t' eo et =
      ap (λ z. sealed_unless z o t record { answer = Ok tt; out = ciphertext p q k n d m ++ drop (length m) o; tag = tag p q k n d m }) (none_said (length m) ew)
      ∙ ap₂ (λ x y. record { answer = Ok tt; out = x; tag = y })
      (sym (eo ∙ ap₂ (λ x y. ciphertext p q x y d m ++ drop (length m) o) ek en))
      (sym (et ∙ ap₂ (λ x y. tag p q x y d m) ek en))

  same_opens : opens p q k n d m t ≡ opens p q k' n' d m t
  same_opens = ap₂ (λ x y. opens p q x y d m t) (sym ek) (sym en)

  pub opened_is : w ≡ length m → opened p q k n d m o t ≡ judged (opens p q k' n' d m t) (length m) (drop (length m) o)
  opened_is ew =
      ap (λ z. opened_unless z o (judged (opens p q k n d m t) (length m) (drop (length m) o))) (none_said (length m) ew)
      ∙ ap (λ z. judged z (length m) (drop (length m) o)) same_opens

  pub tested_is : w ≡ 16 → tested p q k n d m o t ≡ record { answer = verdict (opens p q k' n' d m t); out = replicate 16 0 ++ drop 16 o }
  tested_is ew =
      ap (λ z. opened_unless z o (record { answer = verdict (opens p q k n d m t); out = replicate 16 0 ++ drop 16 o })) (none_said 16 ew)
      ∙ ap (λ z. record { answer = verdict z; out = replicate 16 0 ++ drop 16 o }) same_opens

-- ---- sealed and opened again

pub ok_not : (e : SealFault) → ◌≡◌ {A = Result (Unit {0}) SealFault} (Err e) (Ok tt) → ⊥
ok_not e h = let z : ◌≡◌ {A = ℕ} 0 1 = cc in omega arith

module _ (p : Perm) (q : Plan) (k n d m s t : List ℕ) where
  -- l is the message's length, c what seal left in the ciphertext's buffer, and t' in the tag's
  pub opens_what_seal_left : (a : Result (Unit {0}) SealFault) (c t' o : List ℕ) (l : ℕ) → l ≡ length m → a ≡ Ok tt
      → a ≡ (sealed p q k n d m s t).answer → c ≡ (sealed p q k n d m s t).out → t' ≡ (sealed p q k n d m s t).tag
      → opened p q k n d (take l c) o t' ≡ sealed_then_opened p q k n d m s o t
  opens_what_seal_left a c t' o l el ok ea ec et =
      let again : List ℕ = take (length m) (sealed p q k n d m s t).out in
      ap (λ z. opened p q k n d (take z c) o t') el
      ∙ ap (λ z. opened p q k n d (take (length m) z) o t') ec
      ∙ ap (λ z. opened p q k n d again o z) et
      ∙ ap (λ z. opened_if_sealed z o (opened p q k n d again o (sealed p q k n d m s t).tag)) (sym ok ∙ ea)

  pub opens_nothing : (a : Result (Unit {0}) SealFault) (e : SealFault) (o : List ℕ) → a ≡ Err e → a ≡ (sealed p q k n d m s t).answer
      → sealed_then_opened p q k n d m s o t ≡ record { answer = Err e; out = o }
  opens_nothing a e o refused ea =
      ap (λ z. opened_if_sealed z o (opened p q k n d (take (length m) (sealed p q k n d m s t).out) o (sealed p q k n d m s t).tag)) (sym ea ∙ refused)

  accepted : (f : Option SealFault) (x : Sealed) → (sealed_unless f s t x).answer ≡ Ok tt → f ≡ None
  accepted None x h = refl
  accepted (Some e) x h = absurd (ok_not e h)

  pub none_refused : (sealed p q k n d m s t).answer ≡ Ok tt → first_no q.rate (length m) k n d m s t ≡ None
  none_refused h = accepted (first_no q.rate (length m) k n d m s t) _ h

  -- the round trip: where seal accepts and open has room, what is opened is the message
  pub comes_back : Sound p q → Bijective p → (o : List ℕ) → (sealed p q k n d m s t).answer ≡ Ok tt → length m ≤ length o
      → sealed_then_opened p q k n d m s o t ≡ record { answer = Ok tt; out = m ++ drop (length m) o }
  comes_back laws bij o ok room =
      let law = spoc_laws p q laws bij in
      let none : first_no q.rate (length m) k n d m s t ≡ None = none_refused ok in
      let y : List ℕ = ciphertext p q k n d m in
      let u : List ℕ = tag p q k n d m in
      let whole : sealed p q k n d m s t ≡ record { answer = Ok tt; out = y ++ drop (length m) s; tag = u } =
      ap (λ z. sealed_unless z s t record { answer = Ok tt; out = y ++ drop (length m) s; tag = u }) none in
      let all = passes (eqb (length k) 16) (eqb (length n) 16) (leb (length d) 65535 && leb (length m) 65535) (leb (length m) (length s)) (eqb (length t) q.rate) none in
      let long : length y ≡ length m = law.ciphertext_length k n d m in
      let text : take (length m) (y ++ drop (length m) s) ≡ y = take_at y (drop (length m) s) (length m) long in
      let passed : first_no q.rate (length y) k n d y o u ≡ None =
      rw (all.0, all.1, long, all.2, le-leb (length m) (length o) room, eq-eqb (length u) q.rate (law.tag_length k n d m)) refl in
      ap (λ (z : Sealed). opened_if_sealed z.answer o (opened p q k n d (take (length m) z.out) o z.tag)) whole
      ∙ ap (λ z. opened p q k n d z o u) text
      ∙ ap (λ z. opened_unless z o (judged (opens p q k n d y u) (length y) (drop (length y) o))) passed
      ∙ ap (λ z. judged z (length y) (drop (length y) o)) (law.opens_sealed k n d m)
      ∙ ap (λ z. record { answer = Ok tt; out = m ++ drop z o }) long
