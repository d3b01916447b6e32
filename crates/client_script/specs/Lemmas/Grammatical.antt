-- The next token always decides how a script goes on.
use Rattle.std.specs.Prelude.{List, refl}
use Rattle.text_forms.specs.Texts.{IsGrammar}
use Rattle.ir_lex.specs.TokenForms.{mark, name, numeral}
use Rattle.ir_tree.specs.declared.items.Item.{Item}
use Rattle.ir_tree.specs.Lists.{global}
use Rattle.client_script.specs.Grammar.{count, action, popping, pushing, edit, kept_value, argument, pass, way, rebind, reply, ending, inside, entry, script}

pub is_grammar : (bundle : List Item) → IsGrammar (script bundle)
unfolding mark name numeral global count action popping pushing edit kept_value argument pass way rebind reply ending inside entry script
is_grammar bundle = record { decided = refl; decided_in_full = refl; some = refl; own = refl; ends = refl }
