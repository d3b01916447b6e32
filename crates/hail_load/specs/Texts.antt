-- What the text of a script is refused for, and the script that it is.
use Rattle.std.specs.Prelude.{ℕ, false, nat_lt, List, [], ◌∷◌, Result, Ok, Err, if◌then◌else◌}
use Rattle.text_forms.specs.declared.symbol.Symbol.TheVariants as symbols
use Rattle.text_forms.specs.declared.fault.Fault.{Fault}
use Rattle.text_forms.specs.Tokens.{Tok}
use Rattle.text_forms.specs.Reading.{whole}
use Rattle.demands.specs.Demands.{Demands, demand, ◌⨾◌}
use Rattle.name_scopes.specs.Names.{Names}
use Rattle.ir_lex.specs.Walk.{tokens_from}
use Rattle.bundle_names.specs.declared.globals.Sort.{Sort}
use Rattle.hail_load.specs.declared.tree.Command.{Command}
use Rattle.hail_load.specs.declared.fault.HailKind.{HailKind}
use Rattle.hail_load.specs.declared.fault.HailKind.TheVariants.{Text}
use Rattle.hail_load.specs.Grammar.{hail}
use Rattle.hail_load.specs.Names.{token_demands}

-- the tokens before a place
abbrev pub tokens_before : ℕ → List Tok → List Tok
tokens_before place [] = []
tokens_before place (t ∷ ts) = if nat_lt t.place place then t ∷ tokens_before place ts else []

-- The tokens before the grammar's first fault could all go on to a script, so each of their names and numbers is judged as what it is
-- there. The fault of the grammar stands behind them.
abbrev pub demands_by : Names Sort → List Tok → Result (List Command) Fault → Demands HailKind
demands_by names ts (Ok commands) = token_demands names [] symbols.End ts
demands_by names ts (Err f) = token_demands names [] symbols.End (tokens_before f.place ts) ⨾ demand f.place (Text f.kind) false

abbrev pub commands_in : Result (List Command) Fault → List Command
commands_in (Ok commands) = commands
commands_in (Err f) = []

-- of a text, where the global names of the bundle stand for these
abbrev pub hail_demands : Names Sort → List ℕ → Demands HailKind
hail_demands names text = demands_by names (tokens_from text 0) (whole hail (tokens_from text 0))

abbrev pub hail_commands : List ℕ → List Command
hail_commands text = commands_in (whole hail (tokens_from text 0))
