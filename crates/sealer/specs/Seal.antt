-- What seal, open and test answer, and what they leave in their buffers. Assumes nothing.
use Rattle.std.specs.Prelude.{◌≡◌, ℕ, ◌≤◌, cond, ◌&&◌, List, ◌++◌, length, take, drop, replicate, Some, None, Ok, Err, Option, Result, ◌==◌, nat_le}
use Rattle.sealer.specs.declared.fault.SealFault.{SealFault}
use Rattle.sealer.specs.declared.fault.SealFault.TheVariants.{KeyLength, NonceLength, TooLong, OutputShort, TagLength, TagMismatch}
use Rattle.sealer.specs.Sealing.{Sealing}

-- the first no to questions 3 to 5, of data, a message, an output that is to have `room` bytes, and a tag that is to have `width`
abbrev pub lengths_no : ℕ → ℕ → List ℕ → List ℕ → List ℕ → List ℕ → Option SealFault
lengths_no width room d m o t =
    cond (nat_le (length d) 65535 && nat_le (length m) 65535)
    (cond (nat_le room (length o)) (cond (length t == width) None (Some TagLength)) (Some OutputShort))
    (Some TooLong)

-- the first no to questions 1 to 5
abbrev pub first_no : ℕ → ℕ → List ℕ → List ℕ → List ℕ → List ℕ → List ℕ → List ℕ → Option SealFault
first_no width room k n d m o t =
    cond (length k == 16) (cond (length n == 16) (lengths_no width room d m o t) (Some NonceLength)) (Some KeyLength)

-- seal's answer, and what the output and the tag's buffer hold
pub record Sealed : Type 0 where
  pub answer : Result (Unit {0}) SealFault
  pub out : List ℕ
  pub tag : List ℕ

-- a no leaves both buffers
abbrev pub sealed_unless : Option SealFault → List ℕ → List ℕ → Sealed → Sealed
sealed_unless None o t done = done
sealed_unless (Some e) o t done = record { answer = Err e; out = o; tag = t }

-- seal, of key, nonce, data, message, output and the tag's buffer
abbrev pub sealed : Sealing → List ℕ → List ℕ → List ℕ → List ℕ → List ℕ → List ℕ → Sealed
sealed S k n d m o t =
    sealed_unless (first_no S.width (length m) k n d m o t) o t
    record { answer = Ok tt; out = S.ciphertext k n d m ++ drop (length m) o; tag = S.tag k n d m }

-- open's answer, and what the output holds
pub record Opened : Type 0 where
  pub answer : Result (Unit {0}) SealFault
  pub out : List ℕ

-- a no to questions 1 to 5 leaves the output
abbrev pub opened_unless : Option SealFault → List ℕ → Opened → Opened
opened_unless None o done = done
opened_unless (Some e) o done = record { answer = Err e; out = o }

-- question 6: does the tag agree? A no leaves n zeros
abbrev pub judged : Option (List ℕ) → ℕ → List ℕ → Opened
judged (Some m) n rest = record { answer = Ok tt; out = m ++ rest }
judged None n rest = record { answer = Err TagMismatch; out = replicate n 0 ++ rest }

-- open, of key, nonce, data, ciphertext, output and tag
abbrev pub opened : Sealing → List ℕ → List ℕ → List ℕ → List ℕ → List ℕ → List ℕ → Opened
opened S k n d c o t =
    opened_unless (first_no S.width (length c) k n d c o t) o
    (judged (S.opens k n d c t) (length c) (drop (length c) o))

-- question 6 alone
abbrev pub verdict : Option (List ℕ) → Result (Unit {0}) SealFault
verdict (Some m) = Ok tt
verdict None = Err TagMismatch

-- how many bytes of scratch test asks for
abbrev pub scratch_bytes : ℕ
scratch_bytes = 16

-- test, of key, nonce, data, ciphertext, scratch and tag: the bytes that it asks for are zero past questions 1 to 5
abbrev pub tested : Sealing → List ℕ → List ℕ → List ℕ → List ℕ → List ℕ → List ℕ → Opened
tested S k n d c s t =
    opened_unless (first_no S.width scratch_bytes k n d c s t) s
    record { answer = verdict (S.opens k n d c t); out = replicate scratch_bytes 0 ++ drop scratch_bytes s }

-- an answer of test is open's on the same input, wherever both have room: test its scratch, and open an output
abbrev pub AnswersAsOpen : Sealing → List ℕ → List ℕ → List ℕ → List ℕ → List ℕ → List ℕ → Result (Unit {0}) SealFault → Type 0
AnswersAsOpen S k n d c s t answer =
    scratch_bytes ≤ length s → (o : List ℕ) → length c ≤ length o → answer ≡ (opened S k n d c o t).answer

-- open after seal's answer: a refused seal is the answer, and leaves open's output
abbrev pub opened_if_sealed : Result (Unit {0}) SealFault → List ℕ → Opened → Opened
opened_if_sealed (Ok _) o done = done
opened_if_sealed (Err e) o done = record { answer = Err e; out = o }

-- seal, and then open of the ciphertext and the tag that it left, of key, nonce, data, message, the ciphertext's buffer, open's output
-- and the tag's buffer
abbrev pub sealed_then_opened : Sealing → List ℕ → List ℕ → List ℕ → List ℕ → List ℕ → List ℕ → List ℕ → Opened
sealed_then_opened S k n d m c o t =
    let s : Sealed = sealed S k n d m c t in
    opened_if_sealed s.answer o (opened S k n d (take (length m) s.out) o s.tag)
