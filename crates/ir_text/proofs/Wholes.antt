-- A fault of what is read is the fault of the whole text.
use Rattle.std.proofs.Common.{List, Result, Ok, Err, refl}
use Rattle.text_forms.specs.declared.fault.Fault.{Fault}
use Rattle.text_forms.specs.declared.fault.ReadError.{ReadError}
use Rattle.text_forms.specs.declared.fault.ReadError.TheVariants as errors
use Rattle.text_forms.specs.Tokens.{Tok}
use Rattle.text_forms.specs.Reading.{◌>>=◌}
use Rattle.text_forms.specs.Answers.{Gives, GivesAll}

pub fails_whole : {A : Type 0} (rest : List Tok) (total : Result (A × List Tok) Fault) (e : ReadError) → Gives {A = A} (Err e) rest total → GivesAll {A = A} (Err e) (total >>= λ x. Ok x.0)
fails_whole rest total errors.Memory gone = tt
fails_whole rest total (errors.Fault e) gone = rw gone refl
