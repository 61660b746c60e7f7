-- Bytes that are known beforehand, by computation from the definitions that the code is held to. Assumes nothing.
use Rattle.std.specs.Prelude.{◌≡◌, ℕ, ◌≤◌, true, cond, List, [], ◌∷◌, ◌++◌, length, drop, is_ok, Ok, Err, Result, nat_le}
use Rattle.permutations.specs.Bench.{bench}
use Rattle.permutations.specs.Known.{KnownStates}
use Rattle.spoc.specs.Bench.{bench_plan}
use Rattle.spoc.specs.Known.{eight, BenchExamples}
use Rattle.sealer.specs.Sealing.{Sealing}
use Rattle.spoc.specs.Sealing.{spoc}
use Rattle.cards.specs.Claims.{Gives, Reads}
use Rattle.cards.specs.Faults.{Fault, fault}
use Rattle.cards.specs.Format.{a_sheet}
use Rattle.cards.specs.Plain.{start, started, append_answer}
use Rattle.cards.specs.Reader.{check}

-- SpoC over the bench suite
abbrev pub bench_cipher : Sealing
bench_cipher = spoc bench bench_plan

-- the key is eight 01 and eight 02, the card number eight 04
abbrev pub bench_key : List ℕ
bench_key = eight 0x01 ++ eight 0x02

abbrev pub bench_number : ℕ
bench_number = 0x0404040404040404

-- 30 bytes of which the last is b: header, head of an end record after no sheet, tag
abbrev pub bare_ending : ℕ → List ℕ
bare_ending b =
    0x53 ∷ 0x45 ∷ 0x41 ∷ 0x00 ∷ 0x09 ∷ 0x04 ∷ 0x04 ∷ 0x04 ∷ 0x04 ∷ 0x04 ∷ 0x04 ∷ 0x04 ∷ 0x04
    ∷ 0x02 ∷ 0x00 ∷ 0x00 ∷ 0x00 ∷ 0x00 ∷ 0x00 ∷ 0x00 ∷ 0x00 ∷ 0x00
    ∷ 0x51 ∷ 0x47 ∷ 0x43 ∷ 0x02 ∷ 0x0B ∷ 0x00 ∷ 0x82 ∷ b
    ∷ []

-- the bench card without sheets
abbrev pub bare_card : List ℕ
bare_card = bare_ending 0x02

-- an append of a body of one byte, whatever it is, to a card started on a medium of n bytes
abbrev pub OneByte : ℕ → Result ℕ Fault → Type 0
OneByte n answer =
    (medium : List ℕ) (cell edition byte : ℕ) → length medium ≡ n →
    append_answer bench_cipher (started bench_cipher bench_key bench_number medium) (a_sheet cell edition (byte ∷ [])) ≡ answer

pub record KnownBytes : Type 0 where
  -- sLiSCP-light-[192] and -[256] after step 0, from zeros
  pub first_steps : KnownStates
  -- tags and ciphertexts of the bench suite
  pub sealings : BenchExamples
  -- writing no sheets gives the card, on every medium that is long enough
  pub written : Gives bench_cipher bench_key bench_number [] bare_card
  -- check passes the card, and its count is 0
  pub reads : Reads bench_cipher bench_key bare_card []
  -- with 03 for its last byte, the tag of record 0, at place 22, disagrees
  pub spoilt : (scratch : ℕ) → 16 ≤ scratch → check bench_cipher bench_key scratch (bare_ending 0x03) ≡ Err (fault 6 1 0 22)
  -- 30 bytes are enough to start
  pub starts : (medium : List ℕ) → length medium ≡ 30 → is_ok (start bench_cipher bench_key bench_number medium) ≡ true
  -- 48 bytes are enough for a body of one byte, as record 0
  pub appends : OneByte 48 (Ok 0)
  -- 47 are not
  pub refuses : OneByte 47 (Err (fault 9 2 0 13))

-- what writing the card onto a medium answers, and what it leaves there
abbrev pub bare_answer : List ℕ → Result ℕ Fault
bare_answer medium = cond (nat_le 30 (length medium)) (Ok 30) (Err (fault 9 3 0 0))

abbrev pub bare_medium : List ℕ → List ℕ
bare_medium medium = cond (nat_le 30 (length medium)) (bare_card ++ drop 30 medium) medium
