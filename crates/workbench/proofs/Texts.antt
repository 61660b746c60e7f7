-- What from_utf8 answers of bytes that are a text. Assumes nothing.
use Rattle.std.proofs.Common.{Ok, Err, Result, MatchResult, refl}
use Rattle.std.specs.Result.{IsOk}

pub ok_of_text : {A E : Type 0} (P : A → Type 0) (Q : E → Type 0) (U : Type 0) (r : Result A E) → U → MatchResult r P (λ e. ¬ U × Q e) → IsOk r
ok_of_text P Q U (Ok a) text h = refl
ok_of_text P Q U (Err e) text h = absurd (h.0 text)
