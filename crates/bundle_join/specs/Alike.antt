-- When two items say the same. They are alike where they are equal save for places: the same names in the same order, and
-- the same numbers, however a number is spelled. It is asked of types, signatures, constants and declarations of functions.
use Rattle.std.specs.Prelude.{Bool, true, false, ◌&&◌, not, nat_eq, List, [], ◌∷◌}
use Rattle.std.specs.Str.{bytes_eq}
use Rattle.ir_lex.specs.declared.name.Name.{Name}
use Rattle.ir_lex.specs.declared.name.Numeral.{Numeral}
use Rattle.ir_tree.specs.declared.definitions.TypeForm.{TypeForm}
use Rattle.ir_tree.specs.declared.definitions.TypeForm.TheVariants as forms
use Rattle.ir_tree.specs.declared.definitions.Literal.{Literal}
use Rattle.ir_tree.specs.declared.definitions.Literal.TheVariants as literals
use Rattle.ir_tree.specs.declared.definitions.Typedef.{Typedef}
use Rattle.ir_tree.specs.declared.definitions.Funcsig.{Funcsig}
use Rattle.ir_tree.specs.declared.definitions.Const.{Const}
use Rattle.ir_tree.specs.declared.definitions.Funcdecl.{Funcdecl}

-- ---- names and numbers

abbrev pub same_name : Name → Name → Bool
same_name n m = bytes_eq n.text m.text

abbrev pub same_names : List Name → List Name → Bool
same_names [] [] = true
same_names (n ∷ ns) (m ∷ ms) = same_name n m && same_names ns ms
same_names _ _ = false

-- both are negative, or neither is
abbrev pub same_sign : Bool → Bool → Bool
same_sign true b = b
same_sign false b = not b

abbrev pub same_number : Numeral → Numeral → Bool
same_number n m = same_sign n.number.negative m.number.negative && nat_eq n.number.magnitude m.number.magnitude

-- ---- what is named

abbrev pub same_form : TypeForm → TypeForm → Bool
same_form (forms.Int w) (forms.Int v) = same_number w v
same_form (forms.Struct ts) (forms.Struct us) = same_names ts us
same_form (forms.Array t n) (forms.Array u m) = same_name t u && same_number n m
same_form (forms.Hybrid ts t) (forms.Hybrid us u) = same_names ts us && same_name t u
same_form forms.Void forms.Void = true
same_form (forms.Ref t) (forms.Ref u) = same_name t u
same_form (forms.Iref t) (forms.Iref u) = same_name t u
same_form (forms.Funcref s) (forms.Funcref r) = same_name s r
same_form forms.Stackref forms.Stackref = true
same_form forms.Threadref forms.Threadref = true
same_form _ _ = false

abbrev pub same_literal : Literal → Literal → Bool
same_literal (literals.Number n) (literals.Number m) = same_number n m
same_literal (literals.Null i) (literals.Null j) = true
same_literal (literals.Members i ns) (literals.Members j ms) = same_names ns ms
same_literal _ _ = false

-- ---- items

abbrev pub alike_types : Typedef → Typedef → Bool
alike_types d e = same_name d.name e.name && same_form d.form e.form

abbrev pub alike_signatures : Funcsig → Funcsig → Bool
alike_signatures d e = same_name d.name e.name && same_names d.takes e.takes && same_names d.gives e.gives

abbrev pub alike_constants : Const → Const → Bool
alike_constants d e = same_name d.name e.name && same_name d.of_type e.of_type && same_literal d.literal e.literal

abbrev pub alike_declarations : Funcdecl → Funcdecl → Bool
alike_declarations d e = same_name d.name e.name && same_name d.signature e.signature
