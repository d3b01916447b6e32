-- Which tokens of a text are judged.
-- Contracts inside the crate cite this; no public one does, so no reader of those needs it.
use Rattle.std.specs.Prelude.{ℕ, Bool, true, nat_lt, List, Option, Some, None}
use Rattle.text_forms.specs.Tokens.{Tok}
use Rattle.client_script.specs.Texts.{tokens_before}

abbrev pub is_before : ℕ → Option ℕ → Bool
is_before place None = true
is_before place (Some stop) = nat_lt place stop

-- those before a place, or all
abbrev pub judged_tokens : Option ℕ → List Tok → List Tok
judged_tokens None ts = ts
judged_tokens (Some stop) ts = tokens_before stop ts
