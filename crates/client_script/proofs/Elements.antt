-- The elements of the grammar's lists.
use Rattle.std.proofs.Common.{List, refl}
use Rattle.text_forms.specs.Lemmas.Loops.{IsPlain}
use Rattle.ir_lex.specs.TokenForms.{mark, name, numeral}
use Rattle.ir_tree.specs.declared.items.Item.{Item}
use Rattle.ir_tree.specs.Lists.{global}
use Rattle.client_script.specs.Grammar.{count, action, popping, pushing, edit, kept_value, argument, pass, way, rebind, reply, ending, inside, entry}

pub argument_plain : (bundle : List Item) → IsPlain (argument bundle)
unfolding mark name numeral global count kept_value argument
argument_plain bundle = record { element = record { some = refl; decided = refl }; own = refl }

pub action_plain : IsPlain action
unfolding mark numeral count action
action_plain = record { element = record { some = refl; decided = refl }; own = refl }

pub entry_plain : (bundle : List Item) → IsPlain (entry bundle)
unfolding mark name numeral global count action popping pushing edit kept_value argument pass way rebind reply ending inside entry
entry_plain bundle = record { element = record { some = refl; decided = refl }; own = refl }
