use Rattle.std.proofs.Common.{Ok, ap, ◌∙◌}
use Rattle.cards.specs.Faults.{and_then}
use Rattle.reader.specs.Cards.{shown}
use Rattle.card_calls.specs.Readings.{found_in, find_with}
use Rattle.card_calls.proofs.Finding.{found_is}
use Rattle.card_calls.proofs.reading.Given.find.Goals as goal

pub returns : goal.returns
unfolding find_with
returns g c =
    ap Ok (found_is (shown c.in_ok-card.card) c.args.cell c.find.result c.find.ensures.finds)
    ∙ ap (λ o. and_then o (λ d. Ok (found_in d c.args.cell d.count))) c.in_ok-card.ensures
