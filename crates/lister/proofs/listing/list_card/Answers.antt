use Rattle.std.proofs.Common.{subst}
use Rattle.sealers.specs.declared.SealerName.TheVariants.{Spoc64, Spoc128, Bench}
use Rattle.lister.specs.Printed.{Prints}
use Rattle.lister.proofs.Passing.{listed_under}
use Rattle.lister.proofs.listing.list_card.Goals as goal

pub returns-in-Spoc64 : goal.returns-in-Spoc64
returns-in-Spoc64 g c =
    subst (Prints c.list_under.result (g.W.Write.contents c.args.out.now) (g.W.Write.contents c.list_under.new.out))
    (listed_under c.args.key.now c.args.bytes.now c.in_ok-version.field-0 c.in_ok-try_from.field-0 Spoc64 c.in_ok-version.ensures c.in_ok-try_from.ensures c.in-Spoc64.is) c.list_under.ensures

pub returns-in-Spoc128 : goal.returns-in-Spoc128
returns-in-Spoc128 g c =
    subst (Prints c.list_under-in-Spoc128.result (g.W.Write.contents c.args.out.now) (g.W.Write.contents c.list_under-in-Spoc128.new.out))
    (listed_under c.args.key.now c.args.bytes.now c.in_ok-version.field-0 c.in_ok-try_from.field-0 Spoc128 c.in_ok-version.ensures c.in_ok-try_from.ensures c.in-Spoc128.is) c.list_under-in-Spoc128.ensures

pub returns-in-Bench : goal.returns-in-Bench
returns-in-Bench g c =
    subst (Prints c.list_under-in-Bench.result (g.W.Write.contents c.args.out.now) (g.W.Write.contents c.list_under-in-Bench.new.out))
    (listed_under c.args.key.now c.args.bytes.now c.in_ok-version.field-0 c.in_ok-try_from.field-0 Bench c.in_ok-version.ensures c.in_ok-try_from.ensures c.in-Bench.is) c.list_under-in-Bench.ensures
