-- What a line prints where no card is being written. Assumes nothing.
use Rattle.std.proofs.Common.{◌≡◌, ℕ, Bool, true, false, cond, List, [], IfOk, None, Ok, Err, string_bytes, Option, Result, String, refl, ap, ◌∙◌, subst, inl, inr}
use Rattle.std.specs.declared.alloc.AllocError.{AllocError}
use Rattle.std.specs.declared.alloc.Global.{Global}
use Rattle.script.specs.Lines.{silent, trimmed}
use Rattle.script.specs.Names.{call_named}
use Rattle.script.specs.Words.{words, next_word, next_left, with_read}
use Rattle.script.specs.declared.CallName.{CallName}
use Rattle.script.specs.declared.Unread.{Unread}
use Rattle.card_calls.specs.Writings.{Draft}
use Rattle.workbench.specs.Printed.{Turn, a_turn, begun, call_asked, asked, answer_text, line_text, turn_asked, turn_of, words_turn, line_turn, MayPrint, MayTurn}

-- the text of a line's turn
text_of_call : (a : Result (List ℕ) Unread) (o : Option Draft) → (turn_of None (with_read a (λ t. Ok (a_turn t o)))).text ≡ answer_text a
text_of_call (Ok t) o = refl
text_of_call (Err e) o = refl

text_of_name : (r : Result CallName Unread) (ws : List (List ℕ)) → (turn_of None (with_read r (λ x. turn_asked None x ws))).text ≡ answer_text (with_read r (λ x. call_asked x ws))
text_of_name (Ok x) ws = text_of_call (call_asked x ws) (begun x ws)
text_of_name (Err e) ws = refl

text_of_word : (r : Result (List ℕ) Unread) (ws : List (List ℕ)) → (turn_of None (with_read r (λ w. with_read (call_named w) (λ x. turn_asked None x ws)))).text ≡ answer_text (with_read r (λ w. with_read (call_named w) (λ x. call_asked x ws)))
text_of_word (Ok w) ws = text_of_name (call_named w) ws
text_of_word (Err e) ws = refl

text_of : (b : Bool) (t : Turn) (l : List ℕ) → t.text ≡ l → (cond b (a_turn [] None) t).text ≡ cond b [] l
text_of true t l is = refl
text_of false t l is = is

text_is : (line : List ℕ) → (line_turn None line).text ≡ line_text line
text_is line =
    let ws = words (trimmed line) in
    text_of (silent (trimmed line)) (words_turn None ws) (answer_text (asked ws)) (text_of_word (next_word ws) (next_left ws))

prints : (line : List ℕ) (t : Turn) → MayTurn None line t → MayPrint line t.text
prints line t (inl is) = inl (ap (λ (x : Turn). x.text) is ∙ text_is line)
prints line t (inr (asks, none)) = inr (asks, ap (λ (x : Turn). x.text) none)

pub alone : (r : Result (String Global) AllocError) (before after : Option Draft) (line : List ℕ) → before ≡ None → IfOk r (λ t. MayTurn before line (a_turn (string_bytes t) after)) → IfOk r (λ t. MayPrint line (string_bytes t))
alone (Ok t) before after line none turn = prints line (a_turn (string_bytes t) after) (subst (λ (o : Option Draft). MayTurn o line (a_turn (string_bytes t) after)) none turn)
alone (Err e) before after line none turn = tt
