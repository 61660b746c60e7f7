use Rattle.std.proofs.Common.{◌<◌, [], refl, sym, ap, ◌∙◌, subst, arith}
use Rattle.std.proofs.ByRecursion.{All-from_get_or}
use Rattle.std.proofs.lemmas.Result.{err_from_is_err_and}
use Rattle.std.specs.Io.KnownBytes.{Appends}
use Rattle.std.proofs.KnownBytes.{Appends-nil}
use Rattle.streams.specs.Fronts.{AppendsFront}
use Rattle.streams.proofs.Known.{fronts_more}
use Rattle.sealer.specs.Sealing.{Sealing, Laws, Octets}
use Rattle.cards.specs.Reader.{Card}
use Rattle.lister.specs.Printed.{card_line, sheet_lines, Holds}
use Rattle.lister.proofs.Passing.{listed_refused, listed_passed}
use Rattle.lister.proofs.Writing.{prints_after}
use Rattle.lister.proofs.listing.list_under.Given as given
use Rattle.lister.proofs.listing.list_under.Goals as goal

abbrev cipher : given.Over → Sealing
cipher g = g.C.Sealer.meaning

laws : (g : given.Over) → Laws (cipher g)
laws g = g.met.C.Sealer.laws

pub returns-in_err-check : goal.returns-in_err-check
returns-in_err-check g c =
    let res = err_from_is_err_and c.from_residual.result c.from_residual.ensures.1 in
    rw (res.1, res.2) (listed_refused (cipher g) c.args.key.now c.args.bytes.now c.told-key c.args.number _ c.in_err-check.ensures.answer, refl)

pub returns-in_err-write_line : goal.returns-in_err-write_line
returns-in_err-write_line g c =
    let S = cipher g in
    let bs = c.args.bytes.now in
    let o : Octets bs = All-from_get_or (λ x. x < 256) bs 0 (λ i lt. omega (arith, c.type_inv.bytes i)) in
    let x = listed_passed S c.args.key.now bs c.told-key (laws g) o c.args.number c.in_ok-check.ensures.answer in
    let is = c.in_ok-check.ensures.fills ∙ x.card in
    let line =
    ap (λ v. card_line c.args.number v c.count.result) (c.VERSION.ensures ∙ g.met.C.Sealer.version_is)
    ∙ ap (card_line c.args.number S.version) (c.count.ensures ∙ ap (λ (d : Card). d.count) is) in
    let res = err_from_is_err_and c.from_residual-in_err-write_line.result c.from_residual-in_err-write_line.ensures.1 in
    rw (res.1, res.2) (_, x.text, fronts_more _ _ _ _ [] _ (sheet_lines 0 x.sheets) refl (Appends-nil _) (subst (AppendsFront _ _) line c.in_err-write_line.ensures))

pub returns : goal.returns
returns g c =
    let S = cipher g in
    let bs = c.args.bytes.now in
    let o : Octets bs = All-from_get_or (λ x. x < 256) bs 0 (λ i lt. omega (arith, c.type_inv.bytes i)) in
    let x = listed_passed S c.args.key.now bs c.told-key (laws g) o c.args.number c.in_ok-check.ensures.answer in
    let is = c.in_ok-check.ensures.fills ∙ x.card in
    let held = subst (λ (d : Card). Holds S d x.sheets) (sym is) x.holds in
    let line =
    ap (λ v. card_line c.args.number v c.count.result) (c.VERSION.ensures ∙ g.met.C.Sealer.version_is)
    ∙ ap (card_line c.args.number S.version) (c.count.ensures ∙ ap (λ (d : Card). d.count) is) in
    prints_after c.list_sheets.result _ _ _ _ _ _ x.text (subst (Appends _ _) line c.in_ok-write_line.ensures) (c.list_sheets.ensures x.sheets held)
