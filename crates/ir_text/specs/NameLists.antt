-- Lists of names, of which there is at least one.
use Rattle.std.specs.Prelude.{List, [], ◌∷◌}
use Rattle.text_forms.specs.declared.symbol.Symbol.{Symbol}
use Rattle.text_forms.specs.Forms.{Form, both, made, up_to_from}
use Rattle.ir_lex.specs.declared.name.Name.{Name}
use Rattle.ir_lex.specs.TokenForms.{name}
use Rattle.ir_tree.specs.declared.definitions.TypeForm.{TypeForm}
use Rattle.ir_tree.specs.declared.definitions.TypeForm.TheVariants as types
use Rattle.ir_tree.specs.Types.{some_types, all_but_last, last_of}

-- names up to a mark
abbrev pub at_least_one : List Symbol → Symbol → Form (List Name)
at_least_one xs closing = made (λ x. x.0 ∷ x.1) (both (name xs) (up_to_from 1 256 (closing ∷ []) (name xs)))

-- < G G* >
abbrev pub fields : Form (List Name)
fields = made (λ x. x.0 ∷ x.1) some_types

-- the last name is the element of a hybrid. There is always one
abbrev pub hybrid_of : List Name → TypeForm
hybrid_of [] = types.Void
hybrid_of (g ∷ hs) = types.Hybrid (all_but_last g hs) (last_of g hs)
