-- Types and constants.
use Rattle.std.specs.Prelude.{List, [], ◌∷◌}
use Rattle.text_forms.specs.declared.symbol.Symbol.{Symbol}
use Rattle.text_forms.specs.declared.symbol.Symbol.TheVariants as symbols
use Rattle.text_forms.specs.Forms.{Form, both, on, made, left_out, up_to, up_to_from, ◌▸◌, ◌◂◌}
use Rattle.ir_lex.specs.declared.name.Name.{Name}
use Rattle.ir_lex.specs.TokenForms.{mark, numeral}
use Rattle.ir_tree.specs.declared.definitions.TypeForm.{TypeForm}
use Rattle.ir_tree.specs.declared.definitions.TypeForm.TheVariants as types
use Rattle.ir_tree.specs.declared.definitions.Literal.{Literal}
use Rattle.ir_tree.specs.declared.definitions.Literal.TheVariants as literals
use Rattle.ir_tree.specs.Lists.{global, bracketed}

-- type = int < N > | struct < G G* > | array < G N > | hybrid < G* G >
--      | void | ref < G > | iref < G > | funcref < G > | stackref | threadref

-- int < N >
unfoldable pub int_type : Form TypeForm
int_type = made types.Int (mark symbols.Int ▸ mark symbols.Less ▸ numeral ◂ mark symbols.Greater)

-- < G G* >, which is also < G* G >: at least one name, and at most 256
unfoldable pub some_types : Form (Name × List Name)
some_types = mark symbols.Less ▸ both global (up_to_from 1 256 (symbols.Greater ∷ []) global)

-- struct < G G* >
unfoldable pub struct_type : Form TypeForm
struct_type = made (λ x. types.Struct (x.0 ∷ x.1)) (mark symbols.Struct ▸ some_types)

-- array < G N >
unfoldable pub array_type : Form TypeForm
array_type = made (λ x. types.Array x.0 x.1) (mark symbols.Array ▸ mark symbols.Less ▸ both global numeral ◂ mark symbols.Greater)

-- of a name and more names: all but the last, and the last
abbrev pub all_but_last : Name → List Name → List Name
all_but_last g [] = []
all_but_last g (h ∷ hs) = g ∷ all_but_last h hs

abbrev pub last_of : Name → List Name → Name
last_of g [] = g
last_of g (h ∷ hs) = last_of h hs

-- hybrid < G* G >: the last name is the element, and those before are the fixed fields
unfoldable pub hybrid_type : Form TypeForm
hybrid_type = made (λ x. types.Hybrid (all_but_last x.0 x.1) (last_of x.0 x.1)) (mark symbols.Hybrid ▸ some_types)

-- words of types that the profile leaves out
abbrev pub left_out_types : List Symbol
left_out_types =
    symbols.Float ∷ symbols.Double ∷ symbols.Vector ∷ symbols.Weakref ∷ symbols.Uptr ∷ symbols.Ufuncptr ∷ symbols.Tagref64 ∷ symbols.Framecursorref ∷ symbols.Irbuilderref ∷ []

unfoldable pub type_form : Form TypeForm
type_form =
    on (symbols.Int ∷ []) int_type
    (on (symbols.Struct ∷ []) struct_type
    (on (symbols.Array ∷ []) array_type
    (on (symbols.Hybrid ∷ []) hybrid_type
    (on (symbols.Void ∷ []) (made (λ _. types.Void) (mark symbols.Void))
    (on (symbols.Ref ∷ []) (made types.Ref (mark symbols.Ref ▸ bracketed))
    (on (symbols.Iref ∷ []) (made types.Iref (mark symbols.Iref ▸ bracketed))
    (on (symbols.Funcref ∷ []) (made types.Funcref (mark symbols.Funcref ▸ bracketed))
    (on (symbols.Stackref ∷ []) (made (λ _. types.Stackref) (mark symbols.Stackref))
    (on (symbols.Threadref ∷ []) (made (λ _. types.Threadref) (mark symbols.Threadref))
    (left_out left_out_types types.Void))))))))))

-- literal = N | NULL | { G* }
unfoldable pub literal : Form Literal
literal =
    on (symbols.Number ∷ []) (made literals.Number numeral)
    (on (symbols.Null ∷ []) (made literals.Null (mark symbols.Null))
    (made (λ x. literals.Members x.0 x.1) (both (mark symbols.BraceOpen) (up_to 256 (symbols.BraceClose ∷ []) global))))
