-- What the text of a script is refused for, and the entries that it means.
use Rattle.std.specs.Prelude.{ℕ, false, nat_lt, List, [], ◌∷◌, Result, Ok, Err, if◌then◌else◌}
use Rattle.text_forms.specs.declared.symbol.Symbol.TheVariants as symbols
use Rattle.text_forms.specs.declared.fault.Fault.{Fault}
use Rattle.text_forms.specs.Tokens.{Tok}
use Rattle.text_forms.specs.Reading.{whole}
use Rattle.demands.specs.Demands.{Demands, demand, ◌⨾◌}
use Rattle.name_scopes.specs.Names.{Names}
use Rattle.ir_lex.specs.Walk.{tokens_from}
use Rattle.ir_tree.specs.declared.items.Item.{Item}
use Rattle.bundle_names.specs.declared.globals.Sort.{Sort}
use Rattle.bundle_names.specs.Globals.{globals_of}
use Rattle.mu_model.specs.Clients.{ScriptEntry}
use Rattle.client_script.specs.declared.tree.Entry.{Entry}
use Rattle.client_script.specs.declared.fault.ScriptKind.{ScriptKind}
use Rattle.client_script.specs.declared.fault.ScriptKind.TheVariants.{Text}
use Rattle.client_script.specs.Grammar.{script}
use Rattle.client_script.specs.Demands.{token_demands}
use Rattle.client_script.specs.Meaning.{entries_meant}

-- the tokens before a place
abbrev pub tokens_before : ℕ → List Tok → List Tok
tokens_before place [] = []
tokens_before place (t ∷ ts) = if nat_lt t.place place then t ∷ tokens_before place ts else []

-- The tokens before the grammar's first fault could all go on to a script, so each of their names and numbers is judged. The fault of
-- the grammar stands behind them.
abbrev pub demands_by : Names Sort → List Tok → Result (List Entry) Fault → Demands ScriptKind
demands_by names ts (Ok entries) = token_demands names symbols.End ts
demands_by names ts (Err f) = token_demands names symbols.End (tokens_before f.place ts) ⨾ demand f.place (Text f.kind) false

abbrev pub entries_in : Result (List Entry) Fault → List Entry
entries_in (Ok entries) = entries
entries_in (Err f) = []

-- of a text, where its names are those of the bundle
abbrev pub script_demands : List Item → List ℕ → Demands ScriptKind
script_demands bundle text = demands_by (globals_of bundle).names (tokens_from text 0) (whole (script bundle) (tokens_from text 0))

abbrev pub script_entries : List Item → List ℕ → List ScriptEntry
script_entries bundle text = entries_meant (entries_in (whole (script bundle) (tokens_from text 0)))
