use Rattle.std.proofs.Common.{◌≡◌, IfSome, option_map}
use Rattle.cards.specs.Reader.{Found, cell_at, edition_at}
use Rattle.reader.specs.Cards.{shown}
use Rattle.reader.proofs.finding.find.Given as goal

abbrev pub invariant-loop-rest : goal.invariant-loop-rest
invariant-loop-rest l =
    (l.rest-iterator.card.now ≡ l.card)
    × Found l.rest-iterator.rest.number (cell_at (shown l.card)) (edition_at (shown l.card)) l.cell (option_map (λ b. b.0) l.best)
    × IfSome l.best (λ b. b.1 ≡ edition_at (shown l.card) b.0)
