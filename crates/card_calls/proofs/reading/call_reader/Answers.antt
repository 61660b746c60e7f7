use Rattle.std.proofs.Common.{rules, string_bytes}
use Rattle.script.specs.Reasons.{Holds}
use Rattle.script.specs.Words.{left}
use Rattle.sealers.specs.Names.{cipher_of}
use Rattle.sealers.specs.declared.SealerName.TheVariants.{Spoc64, Spoc128}
use Rattle.card_calls.specs.Readings.{reader_over}
use Rattle.card_calls.proofs.reading.call_reader.Goals as goal

-- what the call ensures, of the sealer by its name: so written out, the search ends in time
pub returns-in-Spoc64-clause-text : goal.returns-in-Spoc64-clause-text
returns-in-Spoc64-clause-text c =
    let over : Holds string_bytes c.call_over.result (reader_over (cipher_of Spoc64) c.args.call (left c.next_word.new.self)) = c.call_over.ensures in
    search rules

pub returns-in-Spoc128-clause-text : goal.returns-in-Spoc128-clause-text
returns-in-Spoc128-clause-text c =
    let over : Holds string_bytes c.call_over-in-Spoc128.result (reader_over (cipher_of Spoc128) c.args.call (left c.next_word.new.self)) = c.call_over-in-Spoc128.ensures in
    search rules
