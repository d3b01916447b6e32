-- What holds of the grammar of scripts, and of the names in them.
use Rattle.std.specs.Prelude.{◌≡◌, List, None, is_some}
use Rattle.demands.specs.Demands.{first_unmet}
use Rattle.name_scopes.specs.Names.{found}
use Rattle.ir_lex.specs.declared.name.Name.{Name}
use Rattle.text_forms.specs.Texts.{IsGrammar}
use Rattle.ir_tree.specs.declared.items.Item.{Item}
use Rattle.bundle_names.specs.Globals.{globals_of}
use Rattle.bundle_names.specs.Naming.{name_demands}
use Rattle.bundle_names.specs.Uses.{is_operand}
use Rattle.checked_code.specs.Checking.{check_demands}
use Rattle.mu_model.specs.Answers.{global_told}
use Rattle.client_script.specs.Grammar.{script}

-- the next token always decides how a script goes on
abbrev pub ScriptIsGrammar : Type 0
ScriptIsGrammar = (bundle : List Item) → IsGrammar (script bundle)

-- in a bundle that is accepted the names that may stand in a script are those that have a class and a value
abbrev pub ValuesAreTold : Type 0
ValuesAreTold = (bundle : List Item) → first_unmet (name_demands bundle) ≡ None → first_unmet (check_demands bundle) ≡ None → (n : Name) → is_some (global_told bundle n) ≡ is_operand (found (globals_of bundle).names n.text)
