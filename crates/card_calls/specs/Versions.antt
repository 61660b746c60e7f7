-- The sealers that a script names by their versions. Assumes nothing.
use Rattle.std.specs.Prelude.{ℕ, List, Ok, Err, Result}
use Rattle.script.specs.Numbers.{number_of}
use Rattle.script.specs.Words.{with_read}
use Rattle.script.specs.declared.Unread.{Unread}
use Rattle.script.specs.declared.Unread.TheVariants.{UnknownVersion}
use Rattle.sealers.specs.Names.{sealer_of}
use Rattle.sealers.specs.declared.NoSuchVersion.{NoSuchVersion}
use Rattle.sealers.specs.declared.SealerName.{SealerName}

-- the sealer of a version, if there is one
abbrev pub sealer_read : Result SealerName NoSuchVersion → Result SealerName Unread
sealer_read (Ok s) = Ok s
sealer_read (Err e) = Err UnknownVersion

-- the sealer whose version a word writes
abbrev pub sealer_named : List ℕ → Result SealerName Unread
sealer_named w = with_read (number_of w) (λ v. sealer_read (sealer_of v))
