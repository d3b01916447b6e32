-- The tests of alike items decide whether two items are equal save for places.
use Rattle.std.proofs.Common.{◌≡◌, ℕ, Bool, true, false, ◌&&◌, nat_eq, List, [], ◌∷◌, map, refl, sym, ◌∙◌, ap, ap₂, arith}
use Rattle.std.proofs.lemmas.Slice.Eq.{bytes_eq-Decides}
use Rattle.std.proofs.lemmas.Bool.{false≢true, and_parts, and_from}
use Rattle.ir_lex.specs.declared.name.Name.{Name}
use Rattle.ir_lex.specs.declared.name.Numeral.{Numeral}
use Rattle.ir_tree.specs.declared.definitions.TypeForm.{TypeForm}
use Rattle.ir_tree.specs.declared.definitions.TypeForm.TheVariants as forms
use Rattle.ir_tree.specs.declared.definitions.Literal.{Literal}
use Rattle.ir_tree.specs.declared.definitions.Literal.TheVariants as literals
use Rattle.ir_tree.specs.declared.definitions.Typedef.{Typedef}
use Rattle.ir_tree.specs.declared.definitions.Funcsig.{Funcsig}
use Rattle.ir_tree.specs.declared.definitions.Const.{Const}
use Rattle.ir_tree.specs.declared.definitions.Funcdecl.{Funcdecl}
use Rattle.ir_print.specs.Placeless.{bare_name, bare_number, bare_type_form, bare_literal, bare_typedef, bare_funcsig, bare_constant, bare_funcdecl}
use Rattle.bundle_join.specs.Alike.{same_name, same_names, same_sign, same_number, same_form, same_literal, alike_types, alike_signatures, alike_constants, alike_declarations}
use Rattle.join_laws.specs.Laws.{AlikeAreEqualSaveForPlaces}

-- ---- names and numbers

name_bare : (n m : Name) → same_name n m ≡ true → bare_name n ≡ bare_name m
name_bare n m h = ap (λ (t : List ℕ). record { place = 0; text = t }) ((bytes_eq-Decides n.text m.text).0 h)

name_back : (n m : Name) → bare_name n ≡ bare_name m → same_name n m ≡ true
name_back n m e = (bytes_eq-Decides n.text m.text).1 (ap (λ (x : Name). x.text) e)

names_bare : (ns ms : List Name) → same_names ns ms ≡ true → map bare_name ns ≡ map bare_name ms
names_bare [] [] h = refl
names_bare (n ∷ ns) (m ∷ ms) h = let p = and_parts (same_name n m) (same_names ns ms) h in ap₂ (λ (x : Name) (xs : List Name). x ∷ xs) (name_bare n m p.0) (names_bare ns ms p.1)
names_bare [] (m ∷ ms) h = absurd (false≢true h)
names_bare (n ∷ ns) [] h = absurd (false≢true h)

names_back : (ns ms : List Name) → map bare_name ns ≡ map bare_name ms → same_names ns ms ≡ true
names_back [] [] e = refl
names_back (n ∷ ns) (m ∷ ms) e =
    let first : bare_name n ≡ bare_name m = cc in
    let rest : map bare_name ns ≡ map bare_name ms = cc in
    and_from (same_name n m) (same_names ns ms) (name_back n m first) (names_back ns ms rest)
names_back [] (m ∷ ms) e = cc
names_back (n ∷ ns) [] e = cc

sign_is : (a b : Bool) → same_sign a b ≡ true → a ≡ b
sign_is true b h = sym h
sign_is false true h = absurd (false≢true h)
sign_is false false h = refl

sign_self : (a : Bool) → same_sign a a ≡ true
sign_self true = refl
sign_self false = refl

number_is : (a b : ℕ) → nat_eq a b ≡ true → a ≡ b
number_is a b h = grind arith

number_self : (a : ℕ) → nat_eq a a ≡ true
number_self a = grind (arith)

number_bare : (n m : Numeral) → same_number n m ≡ true → bare_number n ≡ bare_number m
number_bare n m h =
    let p = and_parts (same_sign n.number.negative m.number.negative) (nat_eq n.number.magnitude m.number.magnitude) h in
    ap₂ (λ (a : Bool) (b : ℕ). record { place = 0; number = record { negative = a; magnitude = b } }) (sign_is n.number.negative m.number.negative p.0) (number_is n.number.magnitude m.number.magnitude p.1)

number_back : (n m : Numeral) → bare_number n ≡ bare_number m → same_number n m ≡ true
number_back n m e =
    let sign : n.number.negative ≡ m.number.negative = ap (λ (x : Numeral). x.number.negative) e in
    let size : n.number.magnitude ≡ m.number.magnitude = ap (λ (x : Numeral). x.number.magnitude) e in
    rw (sign, size) (and_from (same_sign m.number.negative m.number.negative) (nat_eq m.number.magnitude m.number.magnitude) (sign_self m.number.negative) (number_self m.number.magnitude))

-- ---- what is named

form_bare : (f e : TypeForm) → same_form f e ≡ true → bare_type_form f ≡ bare_type_form e
form_bare (forms.Int w) (forms.Int v) h = ap forms.Int (number_bare w v h)
form_bare (forms.Struct ts) (forms.Struct us) h = ap forms.Struct (names_bare ts us h)
form_bare (forms.Array t n) (forms.Array u m) h = let p = and_parts (same_name t u) (same_number n m) h in ap₂ forms.Array (name_bare t u p.0) (number_bare n m p.1)
form_bare (forms.Hybrid ts t) (forms.Hybrid us u) h = let p = and_parts (same_names ts us) (same_name t u) h in ap₂ forms.Hybrid (names_bare ts us p.0) (name_bare t u p.1)
form_bare forms.Void forms.Void h = refl
form_bare (forms.Ref t) (forms.Ref u) h = ap forms.Ref (name_bare t u h)
form_bare (forms.Iref t) (forms.Iref u) h = ap forms.Iref (name_bare t u h)
form_bare (forms.Funcref t) (forms.Funcref u) h = ap forms.Funcref (name_bare t u h)
form_bare forms.Stackref forms.Stackref h = refl
form_bare forms.Threadref forms.Threadref h = refl
form_bare f e h = absurd (false≢true h)

form_back : (f e : TypeForm) → bare_type_form f ≡ bare_type_form e → same_form f e ≡ true
form_back (forms.Int w) (forms.Int v) h = let one : bare_number w ≡ bare_number v = cc in number_back w v one
form_back (forms.Struct ts) (forms.Struct us) h = let one : map bare_name ts ≡ map bare_name us = cc in names_back ts us one
form_back (forms.Array t n) (forms.Array u m) h =
    let one : bare_name t ≡ bare_name u = cc in
    let other : bare_number n ≡ bare_number m = cc in
    and_from (same_name t u) (same_number n m) (name_back t u one) (number_back n m other)
form_back (forms.Hybrid ts t) (forms.Hybrid us u) h =
    let one : map bare_name ts ≡ map bare_name us = cc in
    let other : bare_name t ≡ bare_name u = cc in
    and_from (same_names ts us) (same_name t u) (names_back ts us one) (name_back t u other)
form_back forms.Void forms.Void h = refl
form_back (forms.Ref t) (forms.Ref u) h = let one : bare_name t ≡ bare_name u = cc in name_back t u one
form_back (forms.Iref t) (forms.Iref u) h = let one : bare_name t ≡ bare_name u = cc in name_back t u one
form_back (forms.Funcref t) (forms.Funcref u) h = let one : bare_name t ≡ bare_name u = cc in name_back t u one
form_back forms.Stackref forms.Stackref h = refl
form_back forms.Threadref forms.Threadref h = refl
form_back f e h = cc

literal_bare : (f e : Literal) → same_literal f e ≡ true → bare_literal f ≡ bare_literal e
literal_bare (literals.Number n) (literals.Number m) h = ap literals.Number (number_bare n m h)
literal_bare (literals.Null i) (literals.Null j) h = refl
literal_bare (literals.Members i ns) (literals.Members j ms) h = ap (λ (xs : List Name). literals.Members 0 xs) (names_bare ns ms h)
literal_bare f e h = absurd (false≢true h)

literal_back : (f e : Literal) → bare_literal f ≡ bare_literal e → same_literal f e ≡ true
literal_back (literals.Number n) (literals.Number m) h = let one : bare_number n ≡ bare_number m = cc in number_back n m one
literal_back (literals.Null i) (literals.Null j) h = refl
literal_back (literals.Members i ns) (literals.Members j ms) h = let one : map bare_name ns ≡ map bare_name ms = cc in names_back ns ms one
literal_back f e h = cc

-- ---- items

types_bare : (d e : Typedef) → alike_types d e ≡ true → bare_typedef d ≡ bare_typedef e
types_bare d e h =
    let p = and_parts (same_name d.name e.name) (same_form d.form e.form) h in
    ap₂ (λ (n : Name) (f : TypeForm). record { place = 0; name = n; form = f }) (name_bare d.name e.name p.0) (form_bare d.form e.form p.1)

types_back : (d e : Typedef) → bare_typedef d ≡ bare_typedef e → alike_types d e ≡ true
types_back d e h =
    and_from (same_name d.name e.name) (same_form d.form e.form) (name_back d.name e.name (ap (λ (x : Typedef). x.name) h)) (form_back d.form e.form (ap (λ (x : Typedef). x.form) h))

signatures_bare : (d e : Funcsig) → alike_signatures d e ≡ true → bare_funcsig d ≡ bare_funcsig e
signatures_bare d e h =
    let p = and_parts (same_name d.name e.name && same_names d.takes e.takes) (same_names d.gives e.gives) h in
    let q = and_parts (same_name d.name e.name) (same_names d.takes e.takes) p.0 in
    let n = name_bare d.name e.name q.0 in
    let t = names_bare d.takes e.takes q.1 in
    let g = names_bare d.gives e.gives p.1 in
    ap₂ (λ (x : Name) (y : List Name). record { place = 0; name = x; takes = y; gives = map bare_name d.gives }) n t
    ∙ ap (λ (y : List Name). record { place = 0; name = bare_name e.name; takes = map bare_name e.takes; gives = y }) g

signatures_back : (d e : Funcsig) → bare_funcsig d ≡ bare_funcsig e → alike_signatures d e ≡ true
signatures_back d e h =
    and_from (same_name d.name e.name && same_names d.takes e.takes) (same_names d.gives e.gives)
    (and_from (same_name d.name e.name) (same_names d.takes e.takes) (name_back d.name e.name (ap (λ (x : Funcsig). x.name) h)) (names_back d.takes e.takes (ap (λ (x : Funcsig). x.takes) h)))
    (names_back d.gives e.gives (ap (λ (x : Funcsig). x.gives) h))

constants_bare : (d e : Const) → alike_constants d e ≡ true → bare_constant d ≡ bare_constant e
constants_bare d e h =
    let p = and_parts (same_name d.name e.name && same_name d.of_type e.of_type) (same_literal d.literal e.literal) h in
    let q = and_parts (same_name d.name e.name) (same_name d.of_type e.of_type) p.0 in
    let n = name_bare d.name e.name q.0 in
    let t = name_bare d.of_type e.of_type q.1 in
    let l = literal_bare d.literal e.literal p.1 in
    ap₂ (λ (x y : Name). record { place = 0; name = x; of_type = y; literal = bare_literal d.literal }) n t
    ∙ ap (λ (y : Literal). record { place = 0; name = bare_name e.name; of_type = bare_name e.of_type; literal = y }) l

constants_back : (d e : Const) → bare_constant d ≡ bare_constant e → alike_constants d e ≡ true
constants_back d e h =
    and_from (same_name d.name e.name && same_name d.of_type e.of_type) (same_literal d.literal e.literal)
    (and_from (same_name d.name e.name) (same_name d.of_type e.of_type) (name_back d.name e.name (ap (λ (x : Const). x.name) h)) (name_back d.of_type e.of_type (ap (λ (x : Const). x.of_type) h)))
    (literal_back d.literal e.literal (ap (λ (x : Const). x.literal) h))

declarations_bare : (d e : Funcdecl) → alike_declarations d e ≡ true → bare_funcdecl d ≡ bare_funcdecl e
declarations_bare d e h =
    let p = and_parts (same_name d.name e.name) (same_name d.signature e.signature) h in
    ap₂ (λ (x y : Name). record { place = 0; name = x; signature = y }) (name_bare d.name e.name p.0) (name_bare d.signature e.signature p.1)

declarations_back : (d e : Funcdecl) → bare_funcdecl d ≡ bare_funcdecl e → alike_declarations d e ≡ true
declarations_back d e h =
    and_from (same_name d.name e.name) (same_name d.signature e.signature)
    (name_back d.name e.name (ap (λ (x : Funcdecl). x.name) h)) (name_back d.signature e.signature (ap (λ (x : Funcdecl). x.signature) h))

pub alike_are_equal : AlikeAreEqualSaveForPlaces
alike_are_equal = record {
  types = λ d e. (types_bare d e, types_back d e);
  signatures = λ d e. (signatures_bare d e, signatures_back d e);
  constants = λ d e. (constants_bare d e, constants_back d e);
  declarations = λ d e. (declarations_bare d e, declarations_back d e);
}
