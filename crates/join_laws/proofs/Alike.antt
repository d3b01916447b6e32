-- Items that say the same, as facts.
use Rattle.std.proofs.Common.{◌≡◌, List, [], ◌∷◌}
use Rattle.ir_lex.specs.declared.name.Name.{Name}
use Rattle.ir_tree.specs.declared.definitions.TypeForm.{TypeForm}
use Rattle.ir_tree.specs.declared.definitions.TypeForm.TheVariants as forms
use Rattle.ir_tree.specs.declared.definitions.Literal.{Literal}
use Rattle.ir_tree.specs.declared.definitions.Literal.TheVariants as literals
use Rattle.ir_tree.specs.declared.items.Item.{Item}
use Rattle.ir_tree.specs.declared.items.Item.TheVariants as items

-- the same names
abbrev pub SameNames : List Name → List Name → Type 0
SameNames [] [] = Unit {0}
SameNames (x ∷ xs) (y ∷ ys) = (x.text ≡ y.text) × SameNames xs ys
SameNames [] (y ∷ ys) = ⊥
SameNames (x ∷ xs) [] = ⊥

abbrev pub SameForm : TypeForm → TypeForm → Type 0
SameForm (forms.Int w) (forms.Int v) = w.number ≡ v.number
SameForm (forms.Struct xs) (forms.Struct ys) = SameNames xs ys
SameForm (forms.Array x n) (forms.Array y m) = (x.text ≡ y.text) × (n.number ≡ m.number)
SameForm (forms.Hybrid xs x) (forms.Hybrid ys y) = SameNames xs ys × (x.text ≡ y.text)
SameForm forms.Void forms.Void = Unit {0}
SameForm (forms.Ref x) (forms.Ref y) = x.text ≡ y.text
SameForm (forms.Iref x) (forms.Iref y) = x.text ≡ y.text
SameForm (forms.Funcref x) (forms.Funcref y) = x.text ≡ y.text
SameForm forms.Stackref forms.Stackref = Unit {0}
SameForm forms.Threadref forms.Threadref = Unit {0}
SameForm _ _ = ⊥

abbrev pub SameLiteral : Literal → Literal → Type 0
SameLiteral (literals.Number n) (literals.Number m) = n.number ≡ m.number
SameLiteral (literals.Null i) (literals.Null j) = Unit {0}
SameLiteral (literals.Members i xs) (literals.Members j ys) = SameNames xs ys
SameLiteral _ _ = ⊥

-- the same save for places; a definition of a function is kept as it is
abbrev pub Alike : Item → Item → Type 0
Alike (items.Typedef d) (items.Typedef e) = (d.name.text ≡ e.name.text) × SameForm d.form e.form
Alike (items.Funcsig d) (items.Funcsig e) = (d.name.text ≡ e.name.text) × SameNames d.takes e.takes × SameNames d.gives e.gives
Alike (items.Const d) (items.Const e) = (d.name.text ≡ e.name.text) × (d.of_type.text ≡ e.of_type.text) × SameLiteral d.literal e.literal
Alike (items.GlobalCell d) (items.GlobalCell e) = (d.name.text ≡ e.name.text) × (d.of_type.text ≡ e.of_type.text)
Alike (items.Funcdecl d) (items.Funcdecl e) = (d.name.text ≡ e.name.text) × (d.signature.text ≡ e.signature.text)
Alike (items.Funcdef d) (items.Funcdef e) = d ≡ e
Alike _ _ = ⊥
