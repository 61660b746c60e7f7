use Rattle.std.proofs.Common.{◌≡◌, List, length, take}
use Rattle.std.specs.Io.KnownBytes.{Appends}
use Rattle.cards.specs.Format.{Sheet}
use Rattle.reader.specs.Cards.{shown}
use Rattle.lister.specs.Printed.{sheet_lines, Holds}
use Rattle.lister.proofs.listing.list_sheets.Given as goal

abbrev pub invariant-loop-i : goal.invariant-loop-i
invariant-loop-i g l =
    (length l.buffer ≡ 4096)
    × ((xs : List Sheet) → Holds g.C.Sealer.meaning (shown l.card) xs → Appends (g.W.Write.contents l.initial.out) (g.W.Write.contents l.out) (sheet_lines 0 (take l.i xs)))
