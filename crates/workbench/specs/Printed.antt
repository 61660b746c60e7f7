-- What each line of a script prints, and the card that is being written after it. Assumes nothing.
use Rattle.std.specs.Prelude.{◌≡◌, ℕ, zero, suc, false, cond, ◌⊎◌, List, [], ◌∷◌, ◌++◌, length, Some, None, Ok, Err, string_bytes, codes, decimal, Option, Result, String, ◌==◌}
use Rattle.std.specs.declared.alloc.Global.{Global}
use Rattle.permutations.specs.Bench.{bench}
use Rattle.permutations.specs.Light.{light_192, light_256}
use Rattle.permutations.specs.Permutation.{Perm}
use Rattle.sealers.specs.Names.{cipher_of}
use Rattle.script.specs.Lines.{silent, trimmed}
use Rattle.script.specs.Names.{call_named, permutation_named}
use Rattle.script.specs.Reasons.{reason}
use Rattle.script.specs.Words.{words, with_read, with_next, ending}
use Rattle.script.specs.declared.CallName.{CallName}
use Rattle.script.specs.declared.CallName.TheVariants.{Permutation, Cipher, Reader, Write, Writer}
use Rattle.script.specs.declared.CipherCall.{CipherCall}
use Rattle.script.specs.declared.PermutationCall.{PermutationCall}
use Rattle.script.specs.declared.PermutationName.{PermutationName}
use Rattle.script.specs.declared.PermutationName.TheVariants.{Light192, Light256, Bench}
use Rattle.script.specs.declared.Unread.{Unread}
use Rattle.script.specs.declared.Unread.TheVariants.{NoCard, CardOpen, Memory}
use Rattle.script.specs.declared.WriterCall.{WriterCall}
use Rattle.script.specs.declared.WriterCall.TheVariants.{Append, Close, End}
use Rattle.card_calls.specs.Readings.{reader_asked}
use Rattle.card_calls.specs.Versions.{sealer_named}
use Rattle.card_calls.specs.Writings.{Draft, draft_of, append_of, close_of, with_call, draft_text}
use Rattle.workbench.specs.Sealings.{cipher_asked}
use Rattle.workbench.specs.States.{state_asked}

-- the permutation of a name
abbrev pub permutation_of : PermutationName → Perm
permutation_of Light192 = light_192
permutation_of Light256 = light_256
permutation_of Bench = bench

-- a call on a permutation reads its name first
abbrev pub permutation_asked : PermutationCall → List (List ℕ) → Result (List ℕ) Unread
permutation_asked call ws = with_next permutation_named ws (λ of ws. state_asked of (permutation_of of) call ws)

-- a call of the cipher reads a version first
abbrev pub version_asked : CipherCall → List (List ℕ) → Result (List ℕ) Unread
version_asked call ws = with_next sealer_named ws (λ s ws. cipher_asked (cipher_of s) call ws)

-- each kind of call reads its own words; where no card is being written, write begins one, and prints nothing
abbrev pub call_asked : CallName → List (List ℕ) → Result (List ℕ) Unread
call_asked (Permutation call) = permutation_asked call
call_asked (Cipher call) = version_asked call
call_asked (Reader call) = reader_asked call
call_asked Write = λ ws. with_read (draft_of ws) (λ _. Ok [])
call_asked (Writer call) = λ ws. Err NoCard

-- the words of a line, read from left to right, where no card is being written
abbrev pub asked : List (List ℕ) → Result (List ℕ) Unread
asked ws = with_next call_named ws call_asked

-- the text that is printed, or why the line is unread
abbrev pub answer_text : Result (List ℕ) Unread → List ℕ
answer_text (Ok text) = text
answer_text (Err e) = codes "unread: " ++ (reason e ++ (10 ∷ []))

-- what a line prints where no card is being written
abbrev pub line_text : List ℕ → List ℕ
line_text line = cond (silent (trimmed line)) [] (answer_text (asked (words (trimmed line))))

-- what a line may print there: its text or, where it asks something, that there is no memory
abbrev pub MayPrint : List ℕ → List ℕ → Type 0
MayPrint line text = (text ≡ line_text line) ⊎ ((silent (trimmed line) ≡ false) × (text ≡ answer_text (Err Memory)))

-- what a line prints, and the card that is being written after it, if one is
pub record Turn : Type 0 where
  pub text : List ℕ
  pub card : Option Draft

-- a turn of its two parts
abbrev pub a_turn : List ℕ → Option Draft → Turn
a_turn t o = record { text = t; card = o }

-- the card that a call begins where none is being written
abbrev pub drafted : Result Draft Unread → Option Draft
drafted (Ok d) = Some d
drafted (Err e) = None

-- the card that a call with these words begins: write alone begins one. What the call prints is call_asked, apart from this.
abbrev pub begun : CallName → List (List ℕ) → Option Draft
begun (Permutation call) ws = None
begun (Cipher call) ws = None
begun (Reader call) ws = None
begun Write ws = drafted (draft_of ws)
begun (Writer call) ws = None

-- a line of the card that is being written: it gets one call more, or is written and is no longer there
abbrev pub card_asked : Draft → WriterCall → List (List ℕ) → Result Turn Unread
card_asked d Append ws = with_read (append_of ws) (λ c. Ok (a_turn [] (Some (with_call d c))))
card_asked d Close ws = with_read (close_of ws) (λ c. Ok (a_turn [] (Some (with_call d c))))
card_asked d End ws = with_read (ending ws) (λ _. Ok (a_turn (draft_text d) None))

-- while a card is being written every other call is refused (ask_outside)
abbrev pub outside_card : Option Draft → Result (Unit {0}) Unread
outside_card None = Ok tt
outside_card (Some d) = Err CardOpen

-- a call, by the card that is being written before it
abbrev pub turn_asked : Option Draft → CallName → List (List ℕ) → Result Turn Unread
turn_asked None call ws = with_read (call_asked call ws) (λ t. Ok (a_turn t (begun call ws)))
turn_asked (Some d) (Permutation call) ws = Err CardOpen
turn_asked (Some d) (Cipher call) ws = Err CardOpen
turn_asked (Some d) (Reader call) ws = Err CardOpen
turn_asked (Some d) Write ws = Err CardOpen
turn_asked (Some d) (Writer call) ws = card_asked d call ws

-- a line that can't be read prints the reason, and the card stays
abbrev pub turn_of : Option Draft → Result Turn Unread → Turn
turn_of o (Ok t) = t
turn_of o (Err e) = a_turn (answer_text (Err e)) o

-- what the words of a line print and leave
abbrev pub words_turn : Option Draft → List (List ℕ) → Turn
words_turn o ws = turn_of o (with_next call_named ws (turn_asked o))

-- what a line prints and leaves
abbrev pub line_turn : Option Draft → List ℕ → Turn
line_turn o line = cond (silent (trimmed line)) (a_turn [] o) (words_turn o (words (trimmed line)))

-- the card that an answer leaves; where there is only a reason, the card before it
abbrev pub card_left : Option Draft → Result (Option Draft) Unread → Option Draft
card_left o (Ok k) = k
card_left o (Err e) = o

-- the card after a call that finds no memory: it stays, or is given up at an end with no more words, where it was to be written
abbrev pub without_memory : CallName → List (List ℕ) → Option Draft → Option Draft
without_memory (Permutation call) ws o = o
without_memory (Cipher call) ws o = o
without_memory (Reader call) ws o = o
without_memory Write ws o = o
without_memory (Writer Append) ws o = o
without_memory (Writer Close) ws o = o
without_memory (Writer End) ws o = card_left o (with_read (ending ws) (λ _. Ok None))

-- the card after words that find no memory; where they name no call, it stays
abbrev pub kept : Option Draft → List (List ℕ) → Option Draft
kept o ws = card_left o (with_next call_named ws (λ call ws. Ok (without_memory call ws o)))

-- what words print and leave that find no memory
abbrev pub no_memory : Option Draft → List (List ℕ) → Turn
no_memory o ws = a_turn (answer_text (Err Memory)) (kept o ws)

-- what words may print and leave: the private turn's part of MayTurn
abbrev pub WordsMayTurn : Option Draft → List (List ℕ) → Turn → Type 0
WordsMayTurn o ws t = (t ≡ words_turn o ws) ⊎ (t ≡ no_memory o ws)

-- what a line may print and leave: where it asks something, there may be no memory for it
abbrev pub MayTurn : Option Draft → List ℕ → Turn → Type 0
MayTurn o line t = (t ≡ line_turn o line) ⊎ ((silent (trimmed line) ≡ false) × (t ≡ no_memory o (words (trimmed line))))

-- an answer and the card after it, against what is asked, and the card where there is no memory
abbrev pub Answers : Result (String Global) Unread → Option Draft → Option Draft → Result Turn Unread → Option Draft → Type 0
Answers (Ok t) before after a without = a ≡ Ok (a_turn (string_bytes t) after)
Answers (Err e) before after a without = ((a ≡ Err e) × (after ≡ before)) ⊎ ((e ≡ Memory) × (after ≡ without))
