-- The names in each item, from left to right.
use Rattle.std.specs.Prelude.{List, [], ◌∷◌}
use Rattle.demands.specs.Demands.{Demands, none, ◌⨾◌}
use Rattle.name_scopes.specs.Names.{Names}
use Rattle.ir_tree.specs.declared.definitions.TypeForm.{TypeForm}
use Rattle.ir_tree.specs.declared.definitions.TypeForm.TheVariants as forms
use Rattle.ir_tree.specs.declared.definitions.Literal.{Literal}
use Rattle.ir_tree.specs.declared.definitions.Literal.TheVariants as literals
use Rattle.ir_tree.specs.declared.items.Item.{Item}
use Rattle.ir_tree.specs.declared.items.Item.TheVariants as items
use Rattle.bundle_names.specs.declared.fault.NameKind.{NameKind}
use Rattle.bundle_names.specs.declared.globals.Sort.{Sort}
use Rattle.bundle_names.specs.Globals.{globals_of}
use Rattle.bundle_names.specs.Uses.{each, type_use, type_uses, signature_use, constant_use}
use Rattle.bundle_names.specs.BodyUses.{names_of, block_uses}

abbrev pub form_use : Names Sort → TypeForm → Demands NameKind
form_use g (forms.Struct ts) = type_uses g ts
form_use g (forms.Array t n) = type_use g t
form_use g (forms.Hybrid ts t) = type_uses g ts ⨾ type_use g t
form_use g (forms.Ref t) = type_use g t
form_use g (forms.Iref t) = type_use g t
form_use g (forms.Funcref s) = signature_use g s
form_use g _ = none

abbrev pub literal_use : Names Sort → Literal → Demands NameKind
literal_use g (literals.Number n) = none
literal_use g (literals.Null place) = none
-- { G* }
literal_use g (literals.Members place ns) = each (constant_use g) ns

abbrev pub item_use : Names Sort → Item → Demands NameKind
item_use g (items.Typedef d) = form_use g d.form
item_use g (items.Funcsig d) = type_uses g d.takes ⨾ type_uses g d.gives
item_use g (items.Const d) = type_use g d.of_type ⨾ literal_use g d.literal
item_use g (items.GlobalCell d) = type_use g d.of_type
item_use g (items.Funcdecl d) = signature_use g d.signature
item_use g (items.Funcdef d) = signature_use g d.signature ⨾ block_uses g (names_of d.blocks) d.blocks

abbrev pub item_uses : Names Sort → List Item → Demands NameKind
item_uses g [] = none
item_uses g (i ∷ is) = item_use g i ⨾ item_uses g is

-- all uses of a bundle
abbrev pub use_demands : List Item → Demands NameKind
use_demands bundle = item_uses (globals_of bundle).names bundle
