-- The next token always decides how a script goes on.
use Rattle.std.specs.Prelude.{refl}
use Rattle.text_forms.specs.Texts.{IsGrammar}
use Rattle.ir_lex.specs.TokenForms.{mark, name, numeral}
use Rattle.ir_tree.specs.Lists.{global, bracketed}
use Rattle.hail_load.specs.Sources.{object, root, index, target, reference, plain, members, list, source}
use Rattle.hail_load.specs.Grammar.{new_command, newhybrid_command, init_command, command, hail}

pub is_grammar : IsGrammar hail
unfolding mark name numeral global bracketed object root index target reference plain members list source new_command newhybrid_command init_command command hail
is_grammar = record { decided = refl; decided_in_full = refl; some = refl; own = refl; ends = refl }
