use Rattle.std.proofs.Common.{rules, string_bytes}
use Rattle.script.specs.Reasons.{Holds}
use Rattle.script.specs.Words.{left}
use Rattle.sealers.specs.Names.{cipher_of}
use Rattle.sealers.specs.declared.SealerName.TheVariants.{Spoc64, Spoc128}
use Rattle.workbench.specs.Sealings.{cipher_asked}
use Rattle.workbench.proofs.calls.call_sealer.Goals as goal

-- what the call ensures, of the sealer by its name: so written out, the search ends in time
pub returns-in-Spoc64 : goal.returns-in-Spoc64
returns-in-Spoc64 c =
    let over : Holds string_bytes c.call_cipher.result (cipher_asked (cipher_of Spoc64) c.args.call (left c.args.words)) = c.call_cipher.ensures in
    search rules

pub returns-in-Spoc128 : goal.returns-in-Spoc128
returns-in-Spoc128 c =
    let over : Holds string_bytes c.call_cipher-in-Spoc128.result (cipher_asked (cipher_of Spoc128) c.args.call (left c.args.words)) = c.call_cipher-in-Spoc128.ensures in
    search rules
