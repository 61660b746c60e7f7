use Rattle.std.proofs.Common.{IsSomeAnd, subst, rules}
use Rattle.reader.proofs.Within.{From, nth_is}
use Rattle.reader.proofs.card.Card.rest_at.Goals as goal
use Rattle.reader.proofs.card.Card.rest_at.Goals.{After-nth}

there : (c : After-nth) → IsSomeAnd c.nth.result (From c.args.self.now c.args.i)
there c = nth_is c.args.self.now c.args.i c.sheets.result c.nth.result c.nth.new.self c.sheets.ensures.card c.sheets.ensures.first c.requires c.nth.ensures.ran

pub unwrap-requires : goal.unwrap-requires
unwrap-requires c = let t = there c in search rules

pub returns : goal.returns
returns c =
    let from = subst (λ r. IsSomeAnd r (From c.args.self.now c.args.i)) c.unwrap.ensures (there (goal.at.returns c).After-nth) in
    record { place = from.place_is; bytes = from.bytes; number = from.number }
