-- Which tokens of a text are judged, and what is read up to its end.
-- Contracts inside the crate cite this; no public one does, so no reader of those needs it.
use Rattle.std.specs.Prelude.{ℕ, Bool, true, nat_lt, List, Option, Some, None, Result, Ok}
use Rattle.text_forms.specs.declared.fault.Fault.{Fault}
use Rattle.text_forms.specs.Tokens.{Tok}
use Rattle.text_forms.specs.Reading.{◌>>=◌}
use Rattle.conditions.specs.Texts.{tokens_before}

abbrev pub is_before : ℕ → Option ℕ → Bool
is_before place None = true
is_before place (Some stop) = nat_lt place stop

-- those before a place, or all
abbrev pub judged_tokens : Option ℕ → List Tok → List Tok
judged_tokens None ts = ts
judged_tokens (Some stop) ts = tokens_before stop ts

-- what was read, at the end of a text
abbrev pub all_of : {A : Type 0} → Result (A × List Tok) Fault → Result A Fault
all_of r = r >>= λ x. Ok x.0
