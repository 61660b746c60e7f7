-- What the calls on a permutation read and print. Assumes nothing.
use Rattle.std.specs.Prelude.{ℕ, zero, suc, List, [], ◌∷◌, ◌++◌, length, take, drop, Ok, Err, codes, decimal, Result, ◌==◌, if◌then◌else◌}
use Rattle.card_calls.specs.Readings.{fresh}
use Rattle.permutations.specs.Fault.{refused_text, page_number}
use Rattle.permutations.specs.Page.{page_answer, page_buffer}
use Rattle.permutations.specs.Permutation.{Perm, steps_answer, forward_state, back_state}
use Rattle.permutations.specs.declared.PageFault.{PageFault}
use Rattle.permutations.specs.declared.TooManySteps.{TooManySteps}
use Rattle.script.specs.Hex.{bytes_of, hex_text}
use Rattle.script.specs.Numbers.{number_of}
use Rattle.script.specs.Words.{with_read, with_next, ending}
use Rattle.script.specs.declared.PermutationCall.{PermutationCall}
use Rattle.script.specs.declared.PermutationCall.TheVariants.{Forward, Back, Trace, ForwardBy, BackBy, Page}
use Rattle.script.specs.declared.PermutationName.{PermutationName}
use Rattle.script.specs.declared.Unread.{Unread}
use Rattle.script.specs.declared.Unread.TheVariants.{StateLength}

-- state STATE
abbrev pub state_text : List ℕ → List ℕ
state_text s = codes "state " ++ (hex_text s ++ (10 ∷ []))

-- the same below the refusal, if there is one
abbrev pub steps_text : Result (Unit {0}) TooManySteps → List ℕ → List ℕ
steps_text (Ok _) s = state_text s
steps_text (Err _) s = refused_text 21 1 ++ ((10 ∷ []) ++ state_text s)

-- step I STATE
abbrev pub step_text : ℕ → List ℕ → List ℕ
step_text i s = codes "step " ++ (decimal i ++ (codes " " ++ (hex_text s ++ (10 ∷ []))))

-- a state and the states after its first steps, up to n of them
unfoldable pub trace_text : Perm → ℕ → List ℕ → List ℕ
trace_text p zero s = step_text 0 s
trace_text p (suc n) s = trace_text p n s ++ step_text (suc n) (p.forward_by (suc n) s)

-- rest BYTES
abbrev pub rest_text : List ℕ → List ℕ
rest_text bs = codes "rest " ++ (hex_text bs ++ (10 ∷ []))

-- the page as it stands at the front of a buffer, or the refusal; and the bytes of the buffer after the page
abbrev pub page_text : Result ℕ PageFault → List ℕ → List ℕ
page_text (Ok n) buffer = take n buffer ++ rest_text (drop n buffer)
page_text (Err e) buffer = refused_text (page_number e) 1 ++ ((10 ∷ []) ++ rest_text buffer)

-- what a page into a buffer of this length prints
abbrev pub page_with : Perm → ℕ → List ℕ → ℕ → List ℕ
page_with p n s room = page_text (page_answer p n (length (fresh room))) (page_buffer p n s (fresh room))

-- a state of b bytes is asked for, where P is named `of`
abbrev pub state_of : PermutationName → ℕ → List ℕ → Result (List ℕ) Unread
state_of of b s = if length s == b then Ok s else Err (StateLength of b (length s))

-- STATE, the last word; its length is asked after when all words are read
abbrev pub last_state : PermutationName → ℕ → List (List ℕ) → Result (List ℕ) Unread
last_state of b ws =
    with_next bytes_of ws (λ s ws.
    with_read (ending ws) (λ _. state_of of b s))

-- each call's own words, after the permutation's name
unfoldable pub state_asked : PermutationName → Perm → PermutationCall → List (List ℕ) → Result (List ℕ) Unread
state_asked of p Forward ws = with_read (last_state of p.size ws) (λ s. Ok (state_text (p.forward s)))
state_asked of p Back ws = with_read (last_state of p.size ws) (λ s. Ok (state_text (p.back s)))
state_asked of p Trace ws = with_read (last_state of p.size ws) (λ s. Ok (trace_text p p.full s))
state_asked of p ForwardBy ws =
    with_next number_of ws (λ n ws.
    with_read (last_state of p.size ws) (λ s. Ok (steps_text (steps_answer p n) (forward_state p n s))))
state_asked of p BackBy ws =
    with_next number_of ws (λ n ws.
    with_read (last_state of p.size ws) (λ s. Ok (steps_text (steps_answer p n) (back_state p n s))))
state_asked of p Page ws =
    with_next number_of ws (λ n ws.
    with_next bytes_of ws (λ s ws.
    with_next number_of ws (λ room ws.
    with_read (ending ws) (λ _.
    with_read (state_of of p.size s) (λ x. Ok (page_with p n x room))))))
