-- The kinds of records, as a head's first byte. Assumes nothing.
use Rattle.std.specs.Prelude.{ℕ, cond, Ok, Err, Result, ◌==◌}
use Rattle.cards.specs.declared.fault.RecordNo.{RecordNo}
use Rattle.cards.specs.declared.fault.RecordNo.TheVariants as no
use Rattle.cards.specs.declared.kind.Kind as code
use Rattle.cards.specs.declared.kind.Kind.TheVariants.{Sheet, End}

abbrev pub kind_byte : code.Kind → ℕ
kind_byte Sheet = 1
kind_byte End = 2

-- a byte read as a kind, where it is one
abbrev pub kind_read : ℕ → Result code.Kind RecordNo
kind_read b = cond (b == 1) (Ok Sheet) (cond (b == 2) (Ok End) (Err no.Kind))
