-- What a text of conditions is refused for, and the conditions that it means.
use Rattle.std.specs.Prelude.{ℕ, false, nat_lt, List, [], ◌∷◌, Result, Ok, Err, if◌then◌else◌}
use Rattle.text_forms.specs.declared.fault.Fault.{Fault}
use Rattle.text_forms.specs.Tokens.{Tok}
use Rattle.text_forms.specs.Reading.{whole}
use Rattle.demands.specs.Demands.{Demands, demand, ◌⨾◌}
use Rattle.name_scopes.specs.Names.{Names}
use Rattle.ir_lex.specs.Walk.{tokens_from}
use Rattle.conditions.specs.declared.before.Before.TheVariants as places
use Rattle.conditions.specs.declared.tree.Condition.{Condition}
use Rattle.conditions.specs.declared.fault.ConditionKind.{ConditionKind}
use Rattle.conditions.specs.declared.fault.ConditionKind.TheVariants.{Text}
use Rattle.conditions.specs.Grammar.{conditions}
use Rattle.conditions.specs.Demands.{token_demands}

-- the tokens before a place
abbrev pub tokens_before : ℕ → List Tok → List Tok
tokens_before place [] = []
tokens_before place (t ∷ ts) = if nat_lt t.place place then t ∷ tokens_before place ts else []

-- The tokens before the grammar's first fault could all go on to conditions, so each of them is judged. The fault of the grammar stands
-- behind them.
abbrev pub demands_by : Names ℕ → List Tok → Result (List Condition) Fault → Demands ConditionKind
demands_by names ts (Ok cs) = token_demands names places.Outside ts
demands_by names ts (Err f) = token_demands names places.Outside (tokens_before f.place ts) ⨾ demand f.place (Text f.kind) false

abbrev pub read_in : Result (List Condition) Fault → List Condition
read_in (Ok cs) = cs
read_in (Err f) = []

-- of a text, where the globals that outcomes show have these names and numbers
abbrev pub condition_demands : Names ℕ → List ℕ → Demands ConditionKind
condition_demands names text = demands_by names (tokens_from text 0) (whole (conditions names) (tokens_from text 0))

abbrev pub conditions_in : Names ℕ → List ℕ → List Condition
conditions_in names text = read_in (whole (conditions names) (tokens_from text 0))
