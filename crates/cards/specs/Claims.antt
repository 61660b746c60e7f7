-- What holds of cards, over every cipher that keeps its laws.
use Rattle.std.specs.Prelude.{◌≡◌, ℕ, ◌^◌, ◌<◌, ◌≤◌, true, List, [], ◌∷◌, ◌++◌, map, length, get_or, take, drop, is_ok, Some, None, Ok, Err, Option, Result, slice_index_or}
use Rattle.std.specs.List.{AllByRecursion}
use Rattle.permutations.specs.Permutation.{Bytes}
use Rattle.sealer.specs.Seal.{Opened, scratch_bytes, opened}
use Rattle.sealer.specs.Sealing.{Sealing, Octets}
use Rattle.sealer.specs.declared.SealFault.{SealFault}
use Rattle.cards.specs.Faults.{Fault}
use Rattle.cards.specs.Format.{Sheet, card_bytes}
use Rattle.cards.specs.Plain.{Plain, start}
use Rattle.cards.specs.Runs.{Call, append, close, run, accepted, Distinct}
use Rattle.cards.specs.Questions.{PassQuestions}
use Rattle.cards.specs.Reader.{Card, check, Heading, heading, Drawn, sheet_drawn, Finds, Found}

-- a sheet as the calls take it: a cell of 32 bits and an edition of 16
pub record Well (s : Sheet) : Type 0 where
  pub cell : s.cell < 2 ^ 32
  pub edition : s.edition < 2 ^ 16

-- a sheet drawn into a buffer: the buffer begins with its body and is else as it was, and the answer is its cell, edition and length
pub record Draws (s : Sheet) (before : List ℕ) (x : Drawn) : Type 0 where
  pub answer : x.answer ≡ Ok (heading s)
  pub buffer : x.buffer ≡ s.body ++ drop (length s.body) before

-- Bytes read as a list of sheets: with a scratch that is long enough check passes them, count is the list's length, and sheet i draws its sheet i into every buffer that is long enough.
pub record Reads (S : Sealing) (key bytes : List ℕ) (sheets : List Sheet) : Type 0 where
  pub card : Card
  pub passes : (scratch : ℕ) → scratch_bytes ≤ scratch → check S key scratch bytes ≡ Ok card
  pub counts : card.count ≡ length sheets
  pub gives : (i : ℕ) (buffer : List ℕ) (d : Sheet) → i < length sheets → length (slice_index_or sheets i d).body ≤ length buffer → Draws (slice_index_or sheets i d) buffer (sheet_drawn S card i buffer)

-- an answer that accepts
abbrev pub Accepts : Result ℕ Fault → Type 0
Accepts a = is_ok a ≡ true

-- To write a list is start, append of each sheet in turn and close, all accepted; the card is the medium's first bytes, as many as close answers.
abbrev pub to_write : List Sheet → List Call
to_write sheets = map append sheets ++ close ∷ []

pub record Writes (S : Sealing) (key : List ℕ) (number : ℕ) (sheets : List Sheet) (medium bytes : List ℕ) : Type 0 where
  pub writer : Plain
  pub starts : start S key number medium ≡ Ok writer
  pub accepts : AllByRecursion Accepts (run S writer (to_write sheets)).answers
  pub size : ℕ
  pub closes : (run S writer (to_write sheets)).closed ≡ Some size
  pub bytes_are : bytes ≡ take size (run S writer (to_write sheets)).medium

-- writing the list on any medium that is long enough gives the bytes, whatever it held
abbrev pub Gives : Sealing → List ℕ → ℕ → List Sheet → List ℕ → Type 0
Gives S key number sheets bytes = (medium : List ℕ) → length bytes ≤ length medium → Writes S key number sheets medium bytes

-- Bytes read as a list of sheets under a key exactly when writing that list, with that key and some card number, on a long enough medium gives those bytes, whatever it held: where they read so, on every such medium; and where some one medium gives them, they read so.
abbrev pub ReadsAsWritten : Sealing → Type 0
ReadsAsWritten S =
    (key bytes : List ℕ) (sheets : List Sheet) → Octets bytes → AllByRecursion Well sheets →
    (Reads S key bytes sheets → (number : ℕ) × (number < 2 ^ 64) × Gives S key number sheets bytes)
    × ((number : ℕ) (medium : List ℕ) → Writes S key number sheets medium bytes → Reads S key bytes sheets)

-- With any 16 key bytes and any card number, every list whose sheets pass append's questions can be written, and then reads as that list; the card is bytes if the bodies are.
abbrev pub AllWritable : Sealing → Type 0
AllWritable S =
    (key : List ℕ) (number : ℕ) (sheets : List Sheet) → Bytes 16 key → AllByRecursion Well sheets → PassQuestions 0 sheets →
    (bytes : List ℕ) × Gives S key number sheets bytes × Reads S key bytes sheets × (AllByRecursion (λ s. Octets s.body) sheets → Octets bytes)

-- Under one key no bytes read as two lists.
abbrev pub ReadsOnce : Sealing → Type 0
ReadsOnce S = (key bytes : List ℕ) (xs ys : List Sheet) → Reads S key bytes xs → Reads S key bytes ys → xs ≡ ys

-- a call as the program can make it
abbrev pub WellCall : Call → Type 0
WellCall (append s) = Well s
WellCall close = Unit {0}

-- Of a list of calls from an accepted start: no nonce is sealed under twice, whatever the calls; and a closed card reads as the accepted sheets, in order.
pub record RunHolds (S : Sealing) (key : List ℕ) (w : Plain) (calls : List Call) : Type 0 where
  pub fresh : Distinct (run S w calls).nonces
  pub reads : AllByRecursion WellCall calls → (n : ℕ) → (run S w calls).closed ≡ Some n → Reads S key (take n (run S w calls).medium) (accepted calls (run S w calls).answers)

-- The calls that were made from an accepted start, what they answered, the medium that they left and the length of the card if it was closed are a run: answers and medium are the plain writer's, no nonce is sealed under twice, and a closed card reads as the accepted sheets, in order.
pub record IsRun (S : Sealing) (key : List ℕ) (w : Plain) (calls : List Call) (answers : List (Result ℕ Fault)) (medium : List ℕ) (closed : Option ℕ) : Type 0 where
  pub answers_are : answers ≡ (run S w calls).answers
  pub medium_is : medium ≡ (run S w calls).medium
  pub closed_is : closed ≡ (run S w calls).closed
  pub fresh : Distinct (run S w calls).nonces
  pub reads : (n : ℕ) → closed ≡ Some n → Reads S key (take n medium) (accepted calls answers)

abbrev pub RunsHold : Sealing → Type 0
RunsHold S =
    (key : List ℕ) (number : ℕ) (medium : List ℕ) (w : Plain) → start S key number medium ≡ Ok w → (calls : List Call) → RunHolds S key w calls

-- On a card that reads as a list, find answers the number of the sheet with that cell and the highest edition, the first among equals, or none.
abbrev pub FindTells : Sealing → Type 0
FindTells S =
    (key bytes : List ℕ) (sheets : List Sheet) (a : Reads S key bytes sheets) (cell : ℕ) (o : Option ℕ) (d : Sheet) →
    Finds a.card cell o → Found (length sheets) (λ i. (get_or sheets i d).cell) (λ i. (get_or sheets i d).edition) cell o

-- Bytes that check passes read as some list of sheets, and writing that list gives these bytes.
pub record WasWritten (S : Sealing) (key bytes : List ℕ) : Type 0 where
  pub sheets : List Sheet
  pub well : AllByRecursion Well sheets
  pub pass : PassQuestions 0 sheets
  pub reads : Reads S key bytes sheets
  pub number : ℕ
  pub small : number < 2 ^ 64
  pub gives : Gives S key number sheets bytes

abbrev pub PassedWasWritten : Sealing → Type 0
PassedWasWritten S = (key bytes : List ℕ) (scratch : ℕ) (card : Card) → Octets bytes → check S key scratch bytes ≡ Ok card → WasWritten S key bytes

-- A card that reads as a list of sheets has card_bytes of them, under the sealer's width.
abbrev pub SizesTold : Sealing → Type 0
SizesTold S = (key bytes : List ℕ) (sheets : List Sheet) → Octets bytes → Reads S key bytes sheets → length bytes ≡ card_bytes S.width sheets

-- a message, if it was opened
abbrev pub if_opened : Result (Unit {0}) SealFault → List ℕ → Option (List ℕ)
if_opened (Ok _) m = Some m
if_opened (Err f) m = None

-- the cipher as whoever opens with open sees it: a message is what open puts to the front of a buffer, which held `held n` before the record of nonce n was opened
abbrev pub through_open : (List ℕ → List ℕ) → Sealing → Sealing
through_open held S = record {
  version = S.version;
  width = S.width;
  ciphertext = S.ciphertext;
  tag = S.tag;
  opens = λ k n d c t.
      let x : Opened = opened S k n d c (held n) t in
      if_opened x.answer (take (length c) x.out);
}

-- Check answers as a check that opens each body into 4,096 bytes or more, whatever these hold, and fills the card alike.
abbrev pub ChecksAsOpened : Sealing → Type 0
ChecksAsOpened S =
    (key bytes : List ℕ) (scratch : ℕ) (held : List ℕ → List ℕ) → scratch_bytes ≤ scratch → ((n : List ℕ) → 4096 ≤ length (held n)) →
    check S key scratch bytes ≡ check (through_open held S) key 4096 bytes

-- What holds of the cards of every sealer.
pub record CardClaims (S : Sealing) : Type 0 where
  pub as_written : ReadsAsWritten S
  pub writable : AllWritable S
  pub once : ReadsOnce S
  pub passed : PassedWasWritten S
  pub sizes : SizesTold S
  pub as_opened : ChecksAsOpened S
