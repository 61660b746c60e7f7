-- What the lines of a card that is being written read and print. Assumes nothing.
use Rattle.std.specs.Prelude.{◌≡◌, ℕ, ◌⊎◌, List, [], ◌∷◌, ◌++◌, map, replicate, Ok, Err, vec_items, string_bytes, codes, decimal, Result}
use Rattle.sealer.specs.Sealing.{Sealing}
use Rattle.sealers.specs.declared.SealerName.{SealerName}
use Rattle.cards.specs.Faults.{Fault}
use Rattle.cards.specs.Format.{a_sheet}
use Rattle.cards.specs.Plain.{Plain, start}
use Rattle.cards.specs.Runs.{Call, append, close, run}
use Rattle.script.specs.Hex.{bytes_of, byte_alone, hex_text}
use Rattle.script.specs.Numbers.{number_of, cell_of, edition_of}
use Rattle.script.specs.Words.{with_read, with_next, ending}
use Rattle.script.specs.declared.Unread.{Unread}
use Rattle.script.specs.declared.Unread.TheVariants.{Memory}
use Rattle.card_calls.specs.Readings.{refused_line}
use Rattle.card_calls.specs.Versions.{sealer_named}
use Rattle.sealers.specs.Names.{cipher_of}
use Rattle.card_calls.specs.declared.writing.Draft as code
use Rattle.card_calls.specs.declared.writing.Step.{Step}
use Rattle.card_calls.specs.declared.writing.WriteRun.{WriteRun}
use Rattle.card_calls.specs.declared.writing.Step.TheVariants.{Append, Close}

-- a card that is being written: its sealer, what start is handed, and the calls after it
pub record Draft : Type 0 where
  pub sealer : SealerName
  pub key : List ℕ
  pub number : ℕ
  pub size : ℕ
  pub fill : ℕ
  pub calls : List Call

-- a call in memory
abbrev pub step_call : Step → Call
step_call (Append c e b) = append (a_sheet c e (vec_items b))
step_call Close = close

-- a card that is being written, in memory
unfoldable pub draft_in : code.Draft → Draft
draft_in d = record { sealer = d.sealer; key = vec_items d.key; number = d.number; size = d.size; fill = d.fill; calls = map step_call (vec_items d.steps) }

-- VERSION KEY NUMBER SIZE FILL
abbrev pub draft_of : List (List ℕ) → Result Draft Unread
draft_of ws =
    with_next sealer_named ws (λ sealer ws.
    with_next bytes_of ws (λ key ws.
    with_next number_of ws (λ number ws.
    with_next number_of ws (λ size ws.
    with_next (λ w. byte_alone (bytes_of w)) ws (λ fill ws.
    with_read (ending ws) (λ _. Ok (record { sealer = sealer; key = key; number = number; size = size; fill = fill; calls = [] })))))))

-- CELL EDITION BODY
abbrev pub append_of : List (List ℕ) → Result Call Unread
append_of ws =
    with_next cell_of ws (λ cell ws.
    with_next edition_of ws (λ edition ws.
    with_next bytes_of ws (λ body ws.
    with_read (ending ws) (λ _. Ok (append (a_sheet cell edition body))))))

-- close has no words
abbrev pub close_of : List (List ℕ) → Result Call Unread
close_of ws = with_read (ending ws) (λ _. Ok close)

-- one call more
unfoldable pub with_call : Draft → Call → Draft
with_call d c = record { sealer = d.sealer; key = d.key; number = d.number; size = d.size; fill = d.fill; calls = d.calls ++ c ∷ [] }

-- a call that is added to a card, against what is asked; where it is not, the card stays
abbrev pub Adds : Result (Unit {0}) Unread → Draft → Draft → Result Call Unread → Type 0
Adds (Ok _) before after a = (c : Call) × (a ≡ Ok c) × (after ≡ with_call before c)
Adds (Err e) before after a = ((a ≡ Err e) ⊎ (e ≡ Memory)) × (after ≡ before)

-- record N, or closed LENGTH, or the refusal
abbrev pub call_line : Call → Result ℕ Fault → List ℕ
call_line (append s) (Ok n) = codes "record " ++ (decimal n ++ (10 ∷ []))
call_line close (Ok n) = codes "closed " ++ (decimal n ++ (10 ∷ []))
call_line c (Err f) = refused_line f

-- a line for each call that was made
abbrev pub call_lines : List Call → List (Result ℕ Fault) → List ℕ
call_lines [] as' = []
call_lines (c ∷ cs) [] = []
call_lines (c ∷ cs) (a ∷ as') = call_line c a ++ call_lines cs as'

-- the lines of start and of the calls, and the medium after them
pub record Written : Type 0 where
  pub lines : List ℕ
  pub medium : List ℕ

-- the same in memory
abbrev pub written_in : WriteRun → Written
written_in x = record { lines = string_bytes x.lines; medium = vec_items x.medium }

-- by start's answer: after a refused start no call is made
abbrev pub written : Sealing → List Call → List ℕ → Result Plain Fault → Written
written S cs m (Ok w) = record { lines = codes "started\n" ++ call_lines cs (run S w cs).answers; medium = (run S w cs).medium }
written S cs m (Err f) = record { lines = refused_line f; medium = m }

-- a card written on a medium
unfoldable pub write_on : Sealing → Draft → List ℕ → Written
write_on S d m = written S d.calls m (start S d.key d.number m)

-- the lines, and the medium whole
abbrev pub written_text : Written → List ℕ
written_text x = x.lines ++ (codes "medium " ++ (hex_text x.medium ++ (10 ∷ [])))

-- a card written on a new medium
unfoldable pub draft_over : Sealing → Draft → List ℕ
draft_over S d = written_text (write_on S d (replicate d.size d.fill))

-- the same under its own sealer: what end prints
abbrev pub draft_text : Draft → List ℕ
draft_text d = draft_over (cipher_of d.sealer) d
