use Rattle.std.proofs.Common.{Err, ap, ◌∙◌}
use Rattle.std.proofs.lemmas.Result.{err_from_is_err_and}
use Rattle.cards.specs.Faults.{told}
use Rattle.known.proofs.Bare.{closed}
use Rattle.known.proofs.Together.{known_bytes}
use Rattle.known.proofs.bench_card.Goals as goal

pub returns : goal.returns
returns c =
    let bare = closed _ _ _ _ _ c.in_ok-writer.ensures.answer c.in_ok-close.ensures.plain in
    record { answer = bare.0; medium = bare.1; known = known_bytes }

pub returns-in_err-close : goal.returns-in_err-close
returns-in_err-close c =
    let bare = closed _ _ _ _ _ c.in_ok-writer.ensures.answer c.in_err-close.ensures.plain in
    let res = err_from_is_err_and c.from_residual-in_err-close.result c.from_residual-in_err-close.ensures.1 in
    record { answer = ap told (res.1 ∙ ap Err res.2) ∙ bare.0; medium = bare.1; known = known_bytes }
