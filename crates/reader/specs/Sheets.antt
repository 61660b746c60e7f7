-- What the iterator of a card's sheets gives. Assumes nothing.
use Rattle.std.specs.Prelude.{◌≡◌, ◌+◌, ◌<◌, Option, MatchOption}
use Rattle.reader.specs.declared.records.Sheets.{Sheets}
use Rattle.reader.specs.declared.rest.Rest.{Rest}

-- a call of next, over the same card: it gives the rest from the next sheet on, or none when all have come
abbrev pub GivesSheet : Sheets → Option Rest → Sheets → Type 0
GivesSheet s r t =
    (t.card.now ≡ s.card.now)
    × MatchOption r (s.rest.number ≡ s.card.now.count)
    (λ x. (x ≡ s.rest) × (s.rest.number < s.card.now.count) × (t.rest.number ≡ s.rest.number + 1))
