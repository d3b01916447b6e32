-- A bundle as the rules are written, with bodies as they are written and any number of items; and what the limits add.
--
--   bundle = item*
--   item   = .typedef G = type | .funcsig G = ( G* ) -> ( G* ) | .const G < G > = literal | .global G < G >
--          | .funcdecl G < G > | .funcdef G VERSION L < G > { block block* }
use Rattle.std.specs.Prelude.{◌≤◌, List, [], ◌∷◌, length, ◌↔◌}
use Rattle.std.specs.List.{All}
use Rattle.text_forms.specs.declared.symbol.Symbol.TheVariants as symbols
use Rattle.text_forms.specs.Tokens.{Tok}
use Rattle.text_forms.specs.Forms.{Form, both, on, made, many, ◌◂◌}
use Rattle.text_forms.specs.Derives.{Derives}
use Rattle.ir_lex.specs.TokenForms.{mark}
use Rattle.ir_tree.specs.declared.items.Funcdef.{Funcdef}
use Rattle.ir_tree.specs.declared.items.Item.{Item}
use Rattle.ir_tree.specs.declared.items.Item.TheVariants as items
use Rattle.ir_tree.specs.Lists.{global, local, bracketed}
use Rattle.ir_tree.specs.Items.{typedef, funcsig, constant, global_cell, funcdecl, bundle}
use Rattle.ir_tree.specs.Written.{written_body}
use Rattle.ir_text.specs.WrittenBodies.{FitsBody}

unfoldable pub written_funcdef : Form Funcdef
written_funcdef =
    made (λ x. record { place = x.0; name = x.1.0; version = x.1.1.0; signature = x.1.1.1.0; blocks = x.1.1.1.1 })
    (both (mark symbols.DotFuncdef) (both (global ◂ mark symbols.Version) (both local (both bracketed written_body))))

unfoldable pub written_item : Form Item
written_item =
    on (symbols.DotTypedef ∷ []) (made items.Typedef typedef)
    (on (symbols.DotFuncsig ∷ []) (made items.Funcsig funcsig)
    (on (symbols.DotConst ∷ []) (made items.Const constant)
    (on (symbols.DotGlobal ∷ []) (made items.GlobalCell global_cell)
    (on (symbols.DotFuncdecl ∷ []) (made items.Funcdecl funcdecl)
    (made items.Funcdef written_funcdef)))))

unfoldable pub written_bundle : Form (List Item)
written_bundle = many written_item ◂ mark symbols.End

-- at most 16,384 items, and bodies within their limits
abbrev pub FitsItem : Item → Type 0
FitsItem (items.Typedef t) = Unit {0}
FitsItem (items.Funcsig s) = Unit {0}
FitsItem (items.Const c) = Unit {0}
FitsItem (items.GlobalCell g) = Unit {0}
FitsItem (items.Funcdecl f) = Unit {0}
FitsItem (items.Funcdef f) = FitsBody f.blocks

abbrev pub FitsBundle : List Item → Type 0
FitsBundle is = (length is ≤ 16384) × All FitsItem is

-- a bundle as it is read is the bundle as the rules are written, within the limits
abbrev pub BundleIsWritten : Type 0
BundleIsWritten = (ts : List Tok) (is : List Item) → Derives bundle ts is ↔ (Derives written_bundle ts is × FitsBundle is)
