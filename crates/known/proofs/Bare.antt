-- The bench card without sheets, on media of every length.
use Rattle.std.proofs.Common.{◌≡◌, ℕ, ◌+◌, ◌≤◌, Bool, true, false, cond, List, [], ◌++◌, length, take, drop, Ok, Err, Result, sym, refl, ap, ◌∙◌, subst, arith, drop-drop, le-leb, leb, leb-true}
use Rattle.std.proofs.lemmas.List.{length-append, length-drop}
use Rattle.std.specs.List.{AllByRecursion}
use Rattle.permutations.specs.Bench.{forward}
use Rattle.permutations.specs.Bytes.{xors}
use Rattle.permutations.specs.declared.Bench.{Bench}
use Rattle.cards.specs.Claims.{Gives, Accepts}
use Rattle.cards.specs.Faults.{Fault, fault}
use Rattle.cards.specs.Plain.{Plain, start, started, append_questions, close_questions, close_answer, closed_medium, left_by}
use Rattle.cards.specs.Runs.{ended, closing}
use Rattle.writer.specs.Stands.{Stands, Starts}
use Rattle.spoc_sealer.specs.declared.Spoc.{Spoc}
use Rattle.writer.specs.declared.Writer.{Writer}
use Rattle.known.specs.Known.{bench_cipher, bench_key, bench_number, bare_card, bare_answer, bare_medium, OneByte}

-- the plain writer after an accepted start
abbrev pub writer : List ℕ → Plain
writer m = started bench_cipher bench_key bench_number m

-- start leaves the medium as long as it was
started_length : (m : List ℕ) → 13 ≤ length m → length (writer m).medium ≡ length m
started_length m h = length-append (take 13 bare_card) (drop 13 m) ∙ ap (λ i. 13 + i) (length-drop 13 m) ∙ omega arith

pub start_is : (m : List ℕ) → 30 ≤ length m → start bench_cipher bench_key bench_number m ≡ Ok (writer m)
start_is m h = ap (λ t. cond t (Ok (writer m)) (Err (fault 9 3 0 0))) (le-leb 30 (length m) h)

pub close_is : (m : List ℕ) → 30 ≤ length m → close_answer bench_cipher (writer m) ≡ Ok 30
close_is m h =
    ap (λ n. close_questions 8 0 13 n) (started_length m (omega arith))
    ∙ ap (λ t. cond t (Ok 30) (Err (fault 9 3 0 13))) (le-leb 30 (length m) h)

-- what close leaves
pub closed_is : (m : List ℕ) → closed_medium bench_cipher (writer m) ≡ bare_card ++ drop 30 m
unfolding forward xors
closed_is m = ap (λ (z : List ℕ). bare_card ++ z) (drop-drop 17 13 m)

-- start and close, and no append between them
pub bare_gives : Gives bench_cipher bench_key bench_number [] bare_card
bare_gives m long =
    let e = close_is m long in
    record {
      writer = writer m;
      starts = start_is m long;
      accepts = subst (λ (a : Result ℕ Fault). AllByRecursion Accepts (closing bench_cipher (writer m) a (ended (writer m))).answers) (sym e) (refl, tt);
      size = 30;
      closes = ap (λ a. (closing bench_cipher (writer m) a (ended (writer m))).closed) e;
      bytes_are = sym (ap (λ a. take 30 (closing bench_cipher (writer m) a (ended (writer m))).medium) e ∙ ap (take 30) (closed_is m));
    }

-- append's questions see only lengths
pub one_byte : (n : ℕ) → 13 ≤ n → OneByte n (append_questions 8 0 13 1 n)
one_byte n h m c e b long = ap (λ k. append_questions 8 0 13 1 k) (started_length m (omega arith) ∙ long)

-- what start answered tells how long the medium is
abbrev pub starting : Bool → List ℕ → Result Plain Fault
starting b m = cond b (Ok (writer m)) (Err (fault 9 3 0 0))

pub start_accepted : (b : Bool) (x : Writer (Spoc 32 Bench)) (now m : List ℕ) → Starts (Ok x) now (starting b m) → (b ≡ true) × Stands x now (writer m)
start_accepted true x now m h = (refl, h)
start_accepted false x now m h = absurd h

-- what close answers after an accepted start, and the medium that it leaves
pub closed : (x : Writer (Spoc 32 Bench)) (a : Result ℕ Fault) (now new m : List ℕ)
    → Starts (Ok x) now (start bench_cipher bench_key bench_number m)
    → ((w : Plain) → Stands x now w → (a ≡ close_answer bench_cipher w) × (new ≡ left_by (close_answer bench_cipher w) (closed_medium bench_cipher w) w.medium))
    → (a ≡ bare_answer m) × (new ≡ bare_medium m)
closed x a now new m answer plain =
    let yes = start_accepted (leb 30 (length m)) x now m answer in
    let end = plain (writer m) yes.1 in
    let e = close_is m (leb-true 30 (length m) yes.0) in (
      end.0 ∙ e ∙ ap (λ t. cond t (Ok 30) (Err (fault 9 3 0 0))) (sym yes.0),
      end.1 ∙ ap (λ b. left_by b (closed_medium bench_cipher (writer m)) (writer m).medium) e ∙ closed_is m ∙ ap (λ t. cond t (bare_card ++ drop 30 m) m) (sym yes.0),
    )
