-- The words that name a call or a permutation. Assumes nothing.
use Rattle.std.specs.Prelude.{ℕ, cond, List, Ok, Err, codes, Result}
use Rattle.std.specs.Str.{bytes_eq}
use Rattle.script.specs.declared.names.CallName.{CallName}
use Rattle.script.specs.declared.names.CallName.TheVariants.{Permutation, Cipher, Reader, Write, Writer}
use Rattle.script.specs.declared.names.CipherCall.TheVariants.{Seal, Open, SealInto, OpenInto, Test}
use Rattle.script.specs.declared.names.PermutationCall.TheVariants.{Forward, Back, Trace, ForwardBy, BackBy, Page}
use Rattle.script.specs.declared.names.ReaderCall.TheVariants.{Check, Sheet, Find}
use Rattle.script.specs.declared.names.WriterCall.TheVariants.{Append, Close, End}
use Rattle.script.specs.declared.names.PermutationName.{PermutationName}
use Rattle.script.specs.declared.names.PermutationName.TheVariants.{Light192, Light256, Bench}
use Rattle.script.specs.declared.unread.Unread.{Unread}
use Rattle.script.specs.declared.unread.Unread.TheVariants.{UnknownCall, UnknownPermutation}

-- the call that a word names
abbrev pub call_named : List ℕ → Result CallName Unread
call_named w =
    cond (bytes_eq w (codes "forward")) (Ok (Permutation Forward))
    (cond (bytes_eq w (codes "back")) (Ok (Permutation Back))
    (cond (bytes_eq w (codes "trace")) (Ok (Permutation Trace))
    (cond (bytes_eq w (codes "forward-by")) (Ok (Permutation ForwardBy))
    (cond (bytes_eq w (codes "back-by")) (Ok (Permutation BackBy))
    (cond (bytes_eq w (codes "page")) (Ok (Permutation Page))
    (cond (bytes_eq w (codes "seal")) (Ok (Cipher Seal))
    (cond (bytes_eq w (codes "open")) (Ok (Cipher Open))
    (cond (bytes_eq w (codes "seal-into")) (Ok (Cipher SealInto))
    (cond (bytes_eq w (codes "open-into")) (Ok (Cipher OpenInto))
    (cond (bytes_eq w (codes "test")) (Ok (Cipher Test))
    (cond (bytes_eq w (codes "check")) (Ok (Reader Check))
    (cond (bytes_eq w (codes "sheet")) (Ok (Reader Sheet))
    (cond (bytes_eq w (codes "find")) (Ok (Reader Find))
    (cond (bytes_eq w (codes "write")) (Ok Write)
    (cond (bytes_eq w (codes "append")) (Ok (Writer Append))
    (cond (bytes_eq w (codes "close")) (Ok (Writer Close))
    (cond (bytes_eq w (codes "end")) (Ok (Writer End)) (Err UnknownCall))))))))))))))))))

-- the word that names a permutation
abbrev pub name_text : PermutationName → List ℕ
name_text Light192 = codes "192"
name_text Light256 = codes "256"
name_text Bench = codes "bench"

-- the permutation that a word names
abbrev pub permutation_named : List ℕ → Result PermutationName Unread
permutation_named w =
    cond (bytes_eq w (name_text Light192)) (Ok Light192) (cond (bytes_eq w (name_text Light256)) (Ok Light256) (cond (bytes_eq w (name_text Bench)) (Ok Bench) (Err UnknownPermutation)))
