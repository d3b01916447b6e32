-- What the names and numbers of a script have to meet, token by token. Which kind of name belongs to a place is told by the
-- token before it.
use Rattle.std.specs.Prelude.{Bool, true, false, not, is_some, List, [], ◌∷◌, Option, Some, if◌then◌else◌}
use Rattle.text_forms.specs.declared.symbol.Symbol.{Symbol}
use Rattle.text_forms.specs.declared.symbol.Symbol.TheVariants as symbols
use Rattle.text_forms.specs.Tokens.{Tok, has}
use Rattle.demands.specs.Demands.{Demands, none, demand, ◌⨾◌}
use Rattle.name_scopes.specs.Names.{Names, found, added}
use Rattle.ir_lex.specs.Scanner.{number_of}
use Rattle.ir_tree.specs.Lists.{globals}
use Rattle.bundle_names.specs.declared.globals.Sort.{Sort}
use Rattle.bundle_names.specs.declared.globals.Sort.TheVariants as sorts
use Rattle.bundle_names.specs.Uses.{is_type, is_operand}
use Rattle.text_forms.specs.declared.fault.FaultKind.TheVariants as kinds
use Rattle.hail_load.specs.declared.fault.HailKind.{HailKind}
use Rattle.hail_load.specs.declared.fault.HailKind.TheVariants.{Text, Unknown, Duplicate}

-- ---- what a global name has to stand for

abbrev pub is_global : Option Sort → Bool
is_global (Some (sorts.GlobalCell n)) = true
is_global _ = false

-- behind `<` stands a type, behind `.init` and `&` a global that a target begins with, and elsewhere what an operand may be: a constant, a
-- global or a function
abbrev pub global_fits : Symbol → Option Sort → Bool
global_fits symbols.Less s = is_type s
global_fits symbols.DotInit s = is_global s
global_fits symbols.Ampersand s = is_global s
global_fits _ s = is_operand s

-- ---- objects: the names that were given so far

-- behind a directive an object gets its name
abbrev pub is_given_behind : Symbol → Bool
is_given_behind symbols.DotNew = true
is_given_behind symbols.DotNewhybrid = true
is_given_behind _ = false

abbrev pub Given : Type 0
Given = Names (Unit {0})

abbrev pub object_demand : Given → Symbol → Tok → Demands HailKind
object_demand given before t =
    if is_given_behind before then demand t.place Duplicate (not (is_some (found given t.spelling)))
    else demand t.place Unknown (is_some (found given t.spelling))

abbrev pub given_with : Given → Symbol → Tok → Given
given_with given before t = if has (symbols.Object ∷ []) t.symbol then (if is_given_behind before then added given t.spelling (tt {0}) else given) else given

-- ---- numbers: an index stands behind `[`, a length behind `>`, and neither is negative

abbrev pub number_demand : Symbol → Tok → Demands HailKind
number_demand symbols.SquareOpen t = demand t.place (Text kinds.Unexpected) (not (number_of t.spelling).negative)
number_demand symbols.Greater t = demand t.place (Text kinds.Unexpected) (not (number_of t.spelling).negative)
number_demand _ t = none

-- ---- tokens

-- of a token, by the one before it
abbrev pub token_demand : Names Sort → Given → Symbol → Tok → Demands HailKind
token_demand names given before t =
    if has (symbols.Object ∷ []) t.symbol then object_demand given before t
    else (if has (symbols.Number ∷ []) t.symbol then number_demand before t
    else (if has globals t.symbol then demand t.place Unknown (global_fits before (found names t.spelling))
    else none))

abbrev pub token_demands : Names Sort → Given → Symbol → List Tok → Demands HailKind
token_demands names given before [] = none
token_demands names given before (t ∷ ts) = token_demand names given before t ⨾ token_demands names (given_with given before t) t.symbol ts
