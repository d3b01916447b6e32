-- The elements of the grammar's lists.
use Rattle.std.proofs.Common.{List, refl}
use Rattle.text_forms.specs.declared.symbol.Symbol.{Symbol}
use Rattle.text_forms.specs.Lemmas.Loops.{IsPlain}
use Rattle.ir_lex.specs.TokenForms.{mark, name}
use Rattle.ir_tree.specs.Lists.{global, local, bracketed, value, values, dest}
use Rattle.ir_tree.specs.Control.{switch_case}
use Rattle.ir_tree.specs.Blocks.{pair}

pub name_plain : (xs : List Symbol) → IsPlain (name xs)
unfolding name
name_plain xs = record { element = record { some = refl; decided = refl }; own = refl }

pub value_plain : IsPlain value
unfolding name global local value
value_plain = record { element = record { some = refl; decided = refl }; own = refl }

pub case_plain : IsPlain switch_case
unfolding mark name global local value values dest switch_case
case_plain = record { element = record { some = refl; decided = refl }; own = refl }

pub pair_plain : IsPlain pair
unfolding mark name global local bracketed pair
pair_plain = record { element = record { some = refl; decided = refl }; own = refl }
