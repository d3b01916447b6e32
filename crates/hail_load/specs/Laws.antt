-- What holds of the grammar of scripts.
use Rattle.std.specs.Prelude.{◌≡◌, ℕ, List, Ok, Err, ◌↔◌}
use Rattle.text_forms.specs.declared.fault.Fault.{Fault}
use Rattle.text_forms.specs.Reading.{whole}
use Rattle.text_forms.specs.Derives.{Derives}
use Rattle.text_forms.specs.First.{IsFirstFault}
use Rattle.text_forms.specs.Texts.{IsGrammar}
use Rattle.ir_lex.specs.Walk.{tokens_from}
use Rattle.hail_load.specs.declared.tree.Command.{Command}
use Rattle.hail_load.specs.Grammar.{hail}

-- the next token always decides how a script goes on
abbrev pub HailIsGrammar : Type 0
HailIsGrammar = IsGrammar hail

-- the commands that a text is read as are those that the grammar derives from its tokens
abbrev pub ScriptIsDerived : Type 0
ScriptIsDerived = (text : List ℕ) (commands : List Command) → (whole hail (tokens_from text 0) ≡ Ok commands) ↔ Derives hail (tokens_from text 0) commands

-- and the fault of the grammar is the first one
abbrev pub ScriptFaultIsFirst : Type 0
ScriptFaultIsFirst = (text : List ℕ) (f : Fault) → (whole hail (tokens_from text 0) ≡ Err f) ↔ IsFirstFault hail (tokens_from text 0) f
