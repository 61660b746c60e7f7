-- What the calls of the cipher read and print. Assumes nothing.
use Rattle.std.specs.Prelude.{ℕ, List, [], ◌∷◌, ◌++◌, length, Ok, Err, vec_items, codes, decimal, Result}
use Rattle.sealer.specs.Fault.{fault_number, fault_layer}
use Rattle.sealer.specs.Seal.{Sealed, Opened, sealed, opened, tested}
use Rattle.sealer.specs.Sealing.{Sealing}
use Rattle.sealer.specs.declared.SealFault.{SealFault}
use Rattle.script.specs.Hex.{bytes_of, hex_text}
use Rattle.script.specs.Numbers.{number_of}
use Rattle.script.specs.Words.{with_read, with_next, ending}
use Rattle.script.specs.declared.CipherCall.{CipherCall}
use Rattle.script.specs.declared.CipherCall.TheVariants.{Seal, Open, SealInto, OpenInto, Test}
use Rattle.script.specs.declared.Unread.{Unread}
use Rattle.card_calls.specs.Readings.{fresh, scratch_word}
use Rattle.workbench.specs.declared.cipher.Given.{Given}
use Rattle.workbench.specs.declared.cipher.SealRun.{SealRun}
use Rattle.workbench.specs.declared.cipher.OpenRun.{OpenRun}
use Rattle.workbench.specs.declared.cipher.TestRun.{TestRun}

-- key, nonce and data, and a message or a ciphertext
pub record Inputs : Type 0 where
  pub key : List ℕ
  pub nonce : List ℕ
  pub associated : List ℕ
  pub text : List ℕ

-- inputs in memory
abbrev pub inputs_in : Given → Inputs
inputs_in g = record { key = vec_items g.key; nonce = vec_items g.nonce; associated = vec_items g.«data»; text = vec_items g.text }

-- what seal answered, and its buffers in memory
abbrev pub seal_in : SealRun → Sealed
seal_in s = record { answer = s.answer; out = vec_items s.out; tag = vec_items s.tag }

-- what open answered, and its buffer in memory
abbrev pub open_in : OpenRun → Opened
open_in s = record { answer = s.answer; out = vec_items s.out }

-- what test answered, and its scratch in memory
abbrev pub test_in : TestRun → Opened
test_in s = record { answer = s.answer; out = vec_items s.scratch }

-- seal with buffers of these lengths
abbrev pub seal_with : Sealing → Inputs → ℕ → ℕ → Sealed
seal_with S g room width = sealed S g.key g.nonce g.associated g.text (fresh room) (fresh width)

-- open with a buffer of this length
abbrev pub open_with : Sealing → Inputs → List ℕ → ℕ → Opened
open_with S g tag room = opened S g.key g.nonce g.associated g.text (fresh room) tag

-- test with a scratch of this length
abbrev pub test_with : Sealing → Inputs → List ℕ → ℕ → Opened
test_with S g tag room = tested S g.key g.nonce g.associated g.text (fresh room) tag

-- refused N layer Y record 0 place 0
abbrev pub refused_text : ℕ → ℕ → List ℕ
refused_text number layer = codes "refused " ++ (decimal number ++ (codes " layer " ++ (decimal layer ++ (codes " record 0 place 0" ++ (10 ∷ [])))))

-- the first line: what was done, or the refusal
abbrev pub first_line : List ℕ → Result (Unit {0}) SealFault → List ℕ
first_line done (Ok _) = done ++ (10 ∷ [])
first_line done (Err e) = refused_text (fault_number e) (fault_layer e)

-- sealed CIPHERTEXT TAG
abbrev pub seal_text : Sealed → List ℕ
seal_text s = first_line (codes "sealed " ++ (hex_text s.out ++ (codes " " ++ hex_text s.tag))) s.answer

-- opened MESSAGE
abbrev pub open_text : Opened → List ℕ
open_text s = first_line (codes "opened " ++ hex_text s.out) s.answer

-- sealed, and both buffers whole
abbrev pub seal_into_text : Sealed → List ℕ
seal_into_text s =
    first_line (codes "sealed") s.answer
    ++ (codes "output " ++ (hex_text s.out ++ ((10 ∷ []) ++ (codes "tag " ++ (hex_text s.tag ++ (10 ∷ []))))))

-- opened, and the buffer whole
abbrev pub open_into_text : Opened → List ℕ
open_into_text s = first_line (codes "opened") s.answer ++ (codes "output " ++ (hex_text s.out ++ (10 ∷ [])))

-- tested, and what is said of the scratch
unfoldable pub test_text : Opened → List ℕ
test_text s = first_line (codes "tested") s.answer ++ (codes "scratch " ++ (scratch_word s.out ++ (10 ∷ [])))

-- KEY NONCE DATA TEXT, the words that every call of the cipher reads, and the words after them
abbrev pub inputs_of : List (List ℕ) → Result (Inputs × List (List ℕ)) Unread
inputs_of ws =
    with_next bytes_of ws (λ k ws.
    with_next bytes_of ws (λ n ws.
    with_next bytes_of ws (λ d ws.
    with_next bytes_of ws (λ t ws. Ok (record { key = k; nonce = n; associated = d; text = t }, ws)))))

-- each call of a cipher: its own words, after those
abbrev pub given_asked : Sealing → CipherCall → Inputs → List (List ℕ) → Result (List ℕ) Unread
given_asked S Seal g ws = with_read (ending ws) (λ _. Ok (seal_text (seal_with S g (length g.text) S.width)))
given_asked S Open g ws =
    with_next bytes_of ws (λ tag ws.
    with_read (ending ws) (λ _. Ok (open_text (open_with S g tag (length g.text)))))
given_asked S SealInto g ws =
    with_next number_of ws (λ room ws.
    with_next number_of ws (λ width ws.
    with_read (ending ws) (λ _. Ok (seal_into_text (seal_with S g room width)))))
given_asked S OpenInto g ws =
    with_next bytes_of ws (λ tag ws.
    with_next number_of ws (λ room ws.
    with_read (ending ws) (λ _. Ok (open_into_text (open_with S g tag room)))))
given_asked S Test g ws =
    with_next bytes_of ws (λ tag ws.
    with_next number_of ws (λ room ws.
    with_read (ending ws) (λ _. Ok (test_text (test_with S g tag room)))))

-- a call of a cipher, from the words after the version
unfoldable pub cipher_asked : Sealing → CipherCall → List (List ℕ) → Result (List ℕ) Unread
cipher_asked S call ws = with_read (inputs_of ws) (λ g. given_asked S call g.0 g.1)
