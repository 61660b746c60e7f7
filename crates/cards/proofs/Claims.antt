-- The claims on cards.
use Rattle.std.proofs.Common.{◌≡◌, ℕ, suc, ◌+◌, ◌≤◌, List, [], ◌∷◌, ◌++◌, length, take, Ok, Option, Result, sym, ap, subst, le_refl, arith, ◌∙◌}
use Rattle.std.specs.List.{AllByRecursion}
use Rattle.sealer.specs.Sealing.{Sealing, Laws}
use Rattle.cards.specs.Format.{Sheet, card}
use Rattle.cards.specs.Faults.{Fault}
use Rattle.cards.specs.Plain.{Plain, start}
use Rattle.cards.specs.Runs.{Call, run, accepted}
use Rattle.cards.specs.Claims.{Well, Reads, Gives, ReadsAsWritten, AllWritable, PassedWasWritten, WellCall, IsRun, RunsHold, CardClaims}
use Rattle.cards.specs.Questions.{PassQuestions}
use Rattle.cards.specs.Reader.{check_bytes}
use Rattle.cards.proofs.Records.{Fit}
use Rattle.cards.proofs.Large.{checks_as_opened}
use Rattle.cards.proofs.Asking.{questions_passed, passes_questions}
use Rattle.cards.proofs.Reading.{card_reads, reads_card, checked_back, passed_back, from_bytes, passed_reads, reads_once}
use Rattle.cards.proofs.Sizes.{sizes_told}
use Rattle.cards.proofs.Writing.{Kept, started_kept, start_passed}
use Rattle.cards.proofs.Runs.{card_writes, writes_card, run_shows, Closed}
use Rattle.cards.proofs.CardOctets.{card_octets}
use Rattle.cards.proofs.Nonces.{run_distinct}

-- sheets that pass append's questions are few, and short enough
passing : (n : ℕ) (xs : List Sheet) → AllByRecursion Well xs → PassQuestions n xs → n ≤ 512 → AllByRecursion Fit xs × (n + length xs ≤ 512)
passing n [] w p few = (tt, omega arith)
passing n (s ∷ xs) w p few =
    let q = questions_passed n (length s.body) p.0 in
    let on = passing (suc n) xs w.1 p.1 q.0 in
    ((record { cell = w.0.cell; edition = w.0.edition; body = q.1 }, on.0), omega (arith, on.1))

pass_questions : (n : ℕ) (xs : List Sheet) → AllByRecursion Fit xs → n + length xs ≤ 512 → PassQuestions n xs
pass_questions n [] f few = tt
pass_questions n (s ∷ xs) f few = (passes_questions n (length s.body) (omega arith) f.0.body, pass_questions (suc n) xs f.1 (omega arith))

well : (xs : List Sheet) → AllByRecursion Fit xs → AllByRecursion Well xs
well [] f = tt
well (s ∷ xs) f = (record { cell = f.0.cell; edition = f.0.edition }, well xs f.1)

module _ (S : Sealing) (L : Laws S) where
  gives_card : (key : List ℕ) (number : ℕ) (sheets : List Sheet) → length key ≡ 16 → AllByRecursion Well sheets → AllByRecursion Fit sheets → length sheets ≤ 512 → Gives S key number sheets (card S key number sheets)
  gives_card key number sheets hk well fit few medium long = card_writes S L key number sheets medium hk well fit few long

  pub reads_as_written : ReadsAsWritten S
  reads_as_written key bytes sheets o well = (
    (λ a.
        let x = reads_card S L key bytes sheets o a in
        let hk = (checked_back S key bytes 16 a.card (a.passes 16 (le_refl 16))).0 in
        (x.number, x.small, subst (Gives S key x.number sheets) (sym x.is) (gives_card key x.number sheets hk well x.fit x.few))),
    (λ number medium written.
        let x = writes_card S L key number sheets medium bytes well written in
        subst (λ (z : List ℕ). Reads S key z sheets) (sym x.1) (card_reads S L key number sheets x.0 x.2 x.3)),
  )

  pub all_writable : AllWritable S
  all_writable key number sheets hk well pass =
      let p = passing 0 sheets well pass (omega arith) in
      let few : length sheets ≤ 512 = omega (arith, p.1) in
      (card S key number sheets, gives_card key number sheets hk.size well p.0 few, card_reads S L key number sheets hk.size p.0 few, λ o. card_octets S L key hk number sheets o)

  -- bytes that check passes are a card that was written
  pub passed_was_written : PassedWasWritten S
  passed_was_written key bytes scratch c o h =
      let x = checked_back S key bytes scratch c h in
      let y = passed_back S key bytes c (check_bytes S key bytes) x.1 in
      let f = from_bytes S L key bytes y.0 o y.1 in
      record {
        sheets = y.0;
        well = well y.0 f.fit;
        pass = pass_questions 0 y.0 f.fit (omega (arith, f.few));
        reads = passed_reads S L key bytes y.0 x.0 o y.1;
        number = f.number;
        small = f.small;
        gives = subst (Gives S key f.number y.0) (sym f.is) (gives_card key f.number y.0 x.0 (well y.0 f.fit) f.fit f.few);
      }

  pub card_claims : CardClaims S
  card_claims = record {
    as_written = reads_as_written;
    writable = all_writable;
    once = reads_once S;
    passed = passed_was_written;
    sizes = sizes_told S L;
    as_opened = checks_as_opened S L;
  }

  pub runs_hold : RunsHold S
  runs_hold key number medium w starts calls =
      let y = start_passed S key number medium w starts in
      let kept = subst (Kept S L key number) y.is (started_kept S L key number medium y.room) in
      let none : w.sheets ≡ [] = ap (λ (v : Plain). v.sheets) (sym y.is) in
      record {
        fresh = run_distinct S calls w kept.few;
        reads = λ well n e.
            let z = run_shows S L key number calls w kept well n e in
            let c = subst (Closed S L key number n (run S w calls).medium) (ap (λ (t : List Sheet). t ++ accepted calls (run S w calls).answers) none) z in
            subst (λ (t : List ℕ). Reads S key t (accepted calls (run S w calls).answers)) (sym c.is) (card_reads S L key number (accepted calls (run S w calls).answers) y.key c.fit c.few);
      }

  -- calls that were made from an accepted start, with what they answered and left
  pub is_run : (key : List ℕ) (number : ℕ) (before : List ℕ) (w : Plain) → start S key number before ≡ Ok w → (calls : List Call) (answers : List (Result ℕ Fault)) (medium : List ℕ) (closed : Option ℕ) → AllByRecursion WellCall calls → answers ≡ (run S w calls).answers → medium ≡ (run S w calls).medium → closed ≡ (run S w calls).closed → IsRun S key w calls answers medium closed
  is_run key number before w starts calls answers medium closed well ea em ec =
      let x = runs_hold key number before w starts calls in
      record {
        answers_are = ea;
        medium_is = em;
        closed_is = ec;
        fresh = x.fresh;
        reads = λ n e.
            subst (λ (m : List ℕ). Reads S key (take n m) (accepted calls answers)) (sym em)
            (subst (λ (as' : List (Result ℕ Fault)). Reads S key (take n (run S w calls).medium) (accepted calls as')) (sym ea) (x.reads well n (sym ec ∙ e)));
      }
