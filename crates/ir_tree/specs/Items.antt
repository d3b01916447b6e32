-- The items of a bundle, and the bundle.
--
--   item = .typedef G = type | .funcsig G = ( G* ) -> ( G* ) | .const G < G > = literal | .global G < G >
--        | .funcdecl G < G > | .funcdef G VERSION L < G > { block block* }
use Rattle.std.specs.Prelude.{List, [], ◌∷◌}
use Rattle.text_forms.specs.declared.symbol.Symbol.TheVariants as symbols
use Rattle.text_forms.specs.Forms.{Form, both, on, made, left_out, up_to, ◌◂◌}
use Rattle.ir_lex.specs.TokenForms.{mark}
use Rattle.ir_tree.specs.declared.definitions.TypeForm.TheVariants as types
use Rattle.ir_tree.specs.declared.definitions.Typedef.{Typedef}
use Rattle.ir_tree.specs.declared.definitions.Funcsig.{Funcsig}
use Rattle.ir_tree.specs.declared.definitions.Const.{Const}
use Rattle.ir_tree.specs.declared.definitions.GlobalCell.{GlobalCell}
use Rattle.ir_tree.specs.declared.definitions.Funcdecl.{Funcdecl}
use Rattle.ir_tree.specs.declared.items.Funcdef.{Funcdef}
use Rattle.ir_tree.specs.declared.items.Item.{Item}
use Rattle.ir_tree.specs.declared.items.Item.TheVariants as items
use Rattle.ir_tree.specs.Lists.{global, local, bracketed, global_list}
use Rattle.ir_tree.specs.Types.{type_form, literal}
use Rattle.ir_tree.specs.Bodies.{body}

-- .typedef G = type
unfoldable pub typedef : Form Typedef
typedef = made (λ x. record { place = x.0; name = x.1.0; form = x.1.1 }) (both (mark symbols.DotTypedef) (both (global ◂ mark symbols.Equals) type_form))

-- .funcsig G = ( G* ) -> ( G* )
unfoldable pub funcsig : Form Funcsig
funcsig =
    made (λ x. record { place = x.0; name = x.1.0; takes = x.1.1.0; gives = x.1.1.1 })
    (both (mark symbols.DotFuncsig) (both (global ◂ mark symbols.Equals) (both (global_list ◂ mark symbols.Arrow) global_list)))

-- .const G < G > = literal
unfoldable pub constant : Form Const
constant =
    made (λ x. record { place = x.0; name = x.1.0; of_type = x.1.1.0; literal = x.1.1.1 })
    (both (mark symbols.DotConst) (both global (both (bracketed ◂ mark symbols.Equals) literal)))

-- .global G < G >
unfoldable pub global_cell : Form GlobalCell
global_cell = made (λ x. record { place = x.0; name = x.1.0; of_type = x.1.1 }) (both (mark symbols.DotGlobal) (both global bracketed))

-- .funcdecl G < G >
unfoldable pub funcdecl : Form Funcdecl
funcdecl = made (λ x. record { place = x.0; name = x.1.0; signature = x.1.1 }) (both (mark symbols.DotFuncdecl) (both global bracketed))

-- .funcdef G VERSION L < G > { block block* }
unfoldable pub funcdef : Form Funcdef
funcdef =
    made (λ x. record { place = x.0; name = x.1.0; version = x.1.1.0; signature = x.1.1.1.0; blocks = x.1.1.1.1 })
    (both (mark symbols.DotFuncdef) (both (global ◂ mark symbols.Version) (both local (both bracketed body))))

-- .expose is the directive that the profile leaves out; what it would mean is of no account
abbrev pub exposed : Item
exposed = items.Typedef (record { place = 0; name = record { place = 0; text = [] }; form = types.Void })

unfoldable pub item : Form Item
item =
    on (symbols.DotTypedef ∷ []) (made items.Typedef typedef)
    (on (symbols.DotFuncsig ∷ []) (made items.Funcsig funcsig)
    (on (symbols.DotConst ∷ []) (made items.Const constant)
    (on (symbols.DotGlobal ∷ []) (made items.GlobalCell global_cell)
    (on (symbols.DotFuncdecl ∷ []) (made items.Funcdecl funcdecl)
    (on (symbols.DotFuncdef ∷ []) (made items.Funcdef funcdef)
    (left_out (symbols.DotExpose ∷ []) exposed))))))

-- bundle = item*, up to the end of the text, with at most 16,384 items
unfoldable pub bundle : Form (List Item)
bundle = up_to 16384 (symbols.End ∷ []) item
