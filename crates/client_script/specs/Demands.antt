-- What the names and numbers of a script have to meet, token by token. Which names may stand at a place is told by the token before it.
use Rattle.std.specs.Prelude.{Bool, true, false, List, [], ◌∷◌, Option, Some, if◌then◌else◌}
use Rattle.text_forms.specs.declared.symbol.Symbol.{Symbol}
use Rattle.text_forms.specs.declared.symbol.Symbol.TheVariants as symbols
use Rattle.text_forms.specs.Tokens.{Tok, has}
use Rattle.demands.specs.Demands.{Demands, none, demand, ◌⨾◌}
use Rattle.name_scopes.specs.Names.{Names, found}
use Rattle.ir_lex.specs.Scanner.{number_of}
use Rattle.ir_tree.specs.Lists.{globals}
use Rattle.bundle_names.specs.declared.globals.Sort.{Sort}
use Rattle.bundle_names.specs.declared.globals.Sort.TheVariants as sorts
use Rattle.bundle_names.specs.Uses.{is_operand}
use Rattle.text_forms.specs.declared.fault.FaultKind.TheVariants as kinds
use Rattle.client_script.specs.declared.fault.ScriptKind.{ScriptKind}
use Rattle.client_script.specs.declared.fault.ScriptKind.TheVariants.{Text, Unknown}
use Rattle.client_script.specs.Numbers.{is_count}

-- after `push` a function stands, and elsewhere what an operand may be: a constant, a global or a function
abbrev pub is_function : Option Sort → Bool
is_function (Some (sorts.Function n)) = true
is_function _ = false

abbrev pub global_fits : Symbol → Option Sort → Bool
global_fits symbols.Push s = is_function s
global_fits _ s = is_operand s

-- of a token, by the one before it: a number is from 0 to 2^32 - 1, and a global name is that of what may stand there
abbrev pub token_demand : Names Sort → Symbol → Tok → Demands ScriptKind
token_demand names before t =
    if has (symbols.Number ∷ []) t.symbol then demand t.place (Text kinds.Unexpected) (is_count (number_of t.spelling))
    else (if has globals t.symbol then demand t.place Unknown (global_fits before (found names t.spelling))
    else none)

-- each in its turn. The first one stands after a token of that symbol; `End` stands for none
abbrev pub token_demands : Names Sort → Symbol → List Tok → Demands ScriptKind
token_demands names before [] = none
token_demands names before (t ∷ ts) = token_demand names before t ⨾ token_demands names t.symbol ts

-- the symbol of the last of some tokens, or that one where there are none
abbrev pub last_symbol : Symbol → List Tok → Symbol
last_symbol before [] = before
last_symbol before (t ∷ ts) = last_symbol t.symbol ts
