-- What is demanded of a bundle does not depend on places.
use Rattle.std.proofs.Common.{◌≡◌, ℕ, zero, suc, ◌+◌, Bool, List, [], ◌∷◌, length, map, Option, Some, None, slice_get, refl, sym, ◌∙◌, ap, ap₂, subst}
use Rattle.ir_lex.specs.declared.name.Name.{Name}
use Rattle.ir_tree.specs.declared.definitions.Literal.{Literal}
use Rattle.ir_tree.specs.declared.definitions.Literal.TheVariants as literals
use Rattle.ir_tree.specs.declared.items.Item.{Item}
use Rattle.ir_tree.specs.declared.items.Item.TheVariants as items
use Rattle.ir_print.specs.Placeless.{bare_name, bare_literal, bare_item, bare_bundle}
use Rattle.type_definitions.specs.declared.definition.TypeDef.{TypeDef}
use Rattle.demands.specs.Demands.{Demands, demand, ◌⨾◌, AllMet, as_kind}
use Rattle.mu_types.specs.declared.faults.TypeKind.{TypeKind}
use Rattle.mu_types.specs.Implied.{complete}
use Rattle.mu_types.specs.declared.faults.TypeKind.TheVariants.{WrongArgument}
use Rattle.mu_types.specs.TypeDemands.{each, judged, allows, place, wrong_arguments_of, wrong_arguments, endless_type, too_many_leaves, passes}
use Rattle.mu_values.specs.declared.literals.ConstKind.{ConstKind}
use Rattle.mu_values.specs.declared.literals.ConstKind.TheVariants.{WrongShape}
use Rattle.mu_values.specs.Constants.{width_of, number_demands, member_demands, is_count, member_count, constant_demands}
use Rattle.bundle_names.specs.declared.fault.NameKind.{NameKind}
use Rattle.bundle_names.specs.declared.globals.Globals.{Globals}
use Rattle.bundle_names.specs.Globals.{globals_of}
use Rattle.bundle_names.specs.Naming.{name_demands}
use Rattle.check_tables.specs.declared.fault.CheckKind.{CheckKind}
use Rattle.check_tables.specs.declared.fault.CheckKind.TheVariants.{Types, Const}
use Rattle.check_tables.specs.declared.tables.Tables.{Tables}
use Rattle.check_tables.specs.Lookups.{leaves_named}
use Rattle.checked_code.specs.Graph.{type_id, graph_of, places_of, places_of_names, type_demands}
use Rattle.checked_code.specs.Entries.{tables_of}
use Rattle.checked_code.specs.Rules.{constant_id, literal_of, constant_types, constants_demands, signature_type_demands, signatures_demands, globals_demands, item_demands}
use Rattle.checked_code.specs.Functions.{functions_demands}
use Rattle.checked_code.specs.Checking.{bundle_tables, check_demands}
use Rattle.join_laws.proofs.Nowhere.{nowhere, nowhere_met, met_nowhere, nowhere_again, nowhere_kind}
use Rattle.join_laws.proofs.BareNames.{globals_same, definitions_bare}
use Rattle.join_laws.proofs.BareUses.{uses_bare}
use Rattle.join_laws.proofs.BareFunctions.{functions_bare}
use Rattle.join_laws.proofs.BareTables.{numbers_same, graph_same, tables_same, bundle_tables_same}

-- ---- types, wherever their arguments stand

each_nowhere : (f h : ℕ → Demands TypeKind) → ((n : ℕ) → nowhere (f n) ≡ nowhere (h n)) → (many first : ℕ) → nowhere (each f many first) ≡ nowhere (each h many first)
each_nowhere f h one zero first = refl
each_nowhere f h one (suc many) first = ap₂ (λ (x y : Demands TypeKind). x ⨾ y) (one first) (each_nowhere f h one many (suc first))

arguments_nowhere : (graph : List TypeDef) (ps qs : List (List ℕ)) (t : ℕ) (o : Option TypeDef) → nowhere (wrong_arguments_of graph ps t o) ≡ nowhere (wrong_arguments_of graph qs t o)
arguments_nowhere graph ps qs t None = refl
arguments_nowhere graph ps qs t (Some d) =
    each_nowhere (λ k. demand (place ps t (k + 1)) WrongArgument (allows graph d k)) (λ k. demand (place qs t (k + 1)) WrongArgument (allows graph d k)) (λ k. refl) (judged d) 0

passes_nowhere : (graph : List TypeDef) (ps qs : List (List ℕ)) (many : ℕ) → nowhere (passes graph ps many) ≡ nowhere (passes graph qs many)
passes_nowhere graph ps qs many =
    ap₂ (λ (x y : Demands TypeKind). x ⨾ y) (each_nowhere (wrong_arguments graph ps) (wrong_arguments graph qs) (λ t. arguments_nowhere graph ps qs t (slice_get graph t)) many 0)
    (ap₂ (λ (x y : Demands TypeKind). x ⨾ y) (each_nowhere (endless_type graph ps) (endless_type graph qs) (λ t. refl) many 0)
    (each_nowhere (too_many_leaves graph ps) (too_many_leaves graph qs) (λ t. refl) many 0))

types_nowhere : (g : Globals) (is : List Item) → nowhere (type_demands g (map bare_item is)) ≡ nowhere (type_demands g is)
types_nowhere g is =
    ap (λ (w : List TypeDef). nowhere (as_kind Types (passes (complete w) (places_of (map bare_item is)) (length w)))) (graph_same g is)
    ∙ (nowhere_kind Types (passes (complete (graph_of g is)) (places_of (map bare_item is)) (length (graph_of g is)))
    ∙ (ap (as_kind Types) (passes_nowhere (complete (graph_of g is)) (places_of (map bare_item is)) (places_of is) (length (graph_of g is)))
    ∙ sym (nowhere_kind Types (passes (complete (graph_of g is)) (places_of is) (length (graph_of g is))))))

-- ---- constants

number_nowhere : (i j : ℕ) (w : Option ℕ) (negative : Bool) (magnitude : ℕ) → nowhere (number_demands i w negative magnitude) ≡ nowhere (number_demands j w negative magnitude)
number_nowhere i j None negative magnitude = refl
number_nowhere i j (Some w) negative magnitude = refl

members_nowhere : (graph : List TypeDef) (cs : List ℕ) (d : Option TypeDef) (members ps qs : List ℕ) (many k : ℕ) → nowhere (member_demands graph cs d members ps many k) ≡ nowhere (member_demands graph cs d members qs many k)
members_nowhere graph cs d members ps qs zero k = refl
members_nowhere graph cs d members ps qs (suc many) k = rw (members_nowhere graph cs d members ps qs many (suc k)) refl

literal_nowhere : (g : Globals) (graph : List TypeDef) (cs : List ℕ) (t : ℕ) (l : Literal) → nowhere (constant_demands graph cs t (literal_of g (bare_literal l))) ≡ nowhere (constant_demands graph cs t (literal_of g l))
literal_nowhere g graph cs t (literals.Number n) = number_nowhere 0 n.place (width_of (slice_get graph t)) n.number.negative n.number.magnitude
literal_nowhere g graph cs t (literals.Null place) = refl
literal_nowhere g graph cs t (literals.Members place ns) =
    let ps = places_of_names (map bare_name ns) in
    let d = slice_get graph t in
    let ms = map (constant_id g) ns in
    ap (λ (xs : List ℕ). nowhere (demand 0 WrongShape (is_count (member_count d) (length xs)) ⨾ member_demands graph cs d xs ps (length xs) 0)) (numbers_same (constant_id g) (λ n. refl) ns)
    ∙ ap (λ (x : Demands ConstKind). demand 0 WrongShape (is_count (member_count d) (length ms)) ⨾ x) (members_nowhere graph cs d ms ps (places_of_names ns) (length ms) 0)

kinds_nowhere : (a b : Demands ConstKind) → nowhere a ≡ nowhere b → nowhere (as_kind Const a) ≡ nowhere (as_kind Const b)
kinds_nowhere a b e = nowhere_kind Const a ∙ (ap (as_kind Const) e ∙ sym (nowhere_kind Const b))

constants_nowhere : (p : Tables) (ts : List ℕ) (is : List Item) → nowhere (constants_demands p ts (map bare_item is)) ≡ nowhere (constants_demands p ts is)
constants_nowhere p ts [] = refl
constants_nowhere p ts (items.Const d ∷ is) =
    ap₂ (λ (x y : Demands CheckKind). x ⨾ y)
    (kinds_nowhere (constant_demands p.types.definitions ts (type_id p.globals d.of_type) (literal_of p.globals (bare_literal d.literal)))
    (constant_demands p.types.definitions ts (type_id p.globals d.of_type) (literal_of p.globals d.literal))
    (literal_nowhere p.globals p.types.definitions ts (type_id p.globals d.of_type) d.literal))
    (constants_nowhere p ts is)
constants_nowhere p ts (items.Typedef d ∷ is) = constants_nowhere p ts is
constants_nowhere p ts (items.Funcsig d ∷ is) = constants_nowhere p ts is
constants_nowhere p ts (items.GlobalCell d ∷ is) = constants_nowhere p ts is
constants_nowhere p ts (items.Funcdecl d ∷ is) = constants_nowhere p ts is
constants_nowhere p ts (items.Funcdef d ∷ is) = constants_nowhere p ts is

constant_types_same : (g : Globals) (is : List Item) → constant_types g (map bare_item is) ≡ constant_types g is
constant_types_same g [] = refl
constant_types_same g (items.Const d ∷ is) = ap (λ (xs : List ℕ). type_id g d.of_type ∷ xs) (constant_types_same g is)
constant_types_same g (items.Typedef d ∷ is) = constant_types_same g is
constant_types_same g (items.Funcsig d ∷ is) = constant_types_same g is
constant_types_same g (items.GlobalCell d ∷ is) = constant_types_same g is
constant_types_same g (items.Funcdecl d ∷ is) = constant_types_same g is
constant_types_same g (items.Funcdef d ∷ is) = constant_types_same g is

-- ---- signatures and globals

value_types_bare : (p : Tables) (ns : List Name) → signature_type_demands p (map bare_name ns) ≡ nowhere (signature_type_demands p ns)
value_types_bare p [] = refl
value_types_bare p (n ∷ ns) = rw (value_types_bare p ns) refl

signatures_bare : (p : Tables) (is : List Item) → signatures_demands p (map bare_item is) ≡ nowhere (signatures_demands p is)
signatures_bare p [] = refl
signatures_bare p (items.Funcsig d ∷ is) =
    ap₂ (λ (x y : Demands CheckKind). x ⨾ y) (ap₂ (λ (x y : Demands CheckKind). x ⨾ y) (value_types_bare p d.takes) (value_types_bare p d.gives)) (signatures_bare p is)
signatures_bare p (items.Typedef d ∷ is) = signatures_bare p is
signatures_bare p (items.Const d ∷ is) = signatures_bare p is
signatures_bare p (items.GlobalCell d ∷ is) = signatures_bare p is
signatures_bare p (items.Funcdecl d ∷ is) = signatures_bare p is
signatures_bare p (items.Funcdef d ∷ is) = signatures_bare p is

cells_bare : (p : Tables) (n : ℕ) (is : List Item) → globals_demands p n (map bare_item is) ≡ nowhere (globals_demands p n is)
cells_bare p n [] = refl
cells_bare p n (items.GlobalCell d ∷ is) = rw (cells_bare p (n + length (leaves_named p d.of_type)) is) refl
cells_bare p n (items.Typedef d ∷ is) = cells_bare p n is
cells_bare p n (items.Funcsig d ∷ is) = cells_bare p n is
cells_bare p n (items.Const d ∷ is) = cells_bare p n is
cells_bare p n (items.Funcdecl d ∷ is) = cells_bare p n is
cells_bare p n (items.Funcdef d ∷ is) = cells_bare p n is

-- ---- all of them

again : (a b : Demands CheckKind) → a ≡ nowhere b → nowhere a ≡ nowhere b
again a b e = ap nowhere e ∙ nowhere_again b

items_nowhere : (g : Globals) (is : List Item) → nowhere (item_demands g (map bare_item is)) ≡ nowhere (item_demands g is)
items_nowhere g is =
    let p = tables_of g is in
    ap₂ (λ (x y : Demands CheckKind). x ⨾ y) (types_nowhere g is)
    (ap₂ (λ (q : Tables) (ts : List ℕ). nowhere (constants_demands q ts (map bare_item is) ⨾ signatures_demands q (map bare_item is) ⨾ globals_demands q 0 (map bare_item is))) (tables_same g is) (constant_types_same g is)
    ∙ ap₂ (λ (x y : Demands CheckKind). x ⨾ y) (constants_nowhere p (constant_types g is) is)
    (ap₂ (λ (x y : Demands CheckKind). x ⨾ y) (again (signatures_demands p (map bare_item is)) (signatures_demands p is) (signatures_bare p is)) (again (globals_demands p 0 (map bare_item is)) (globals_demands p 0 is) (cells_bare p 0 is))))

check_nowhere : (bundle : List Item) → nowhere (check_demands (bare_bundle bundle)) ≡ nowhere (check_demands bundle)
unfolding check_demands
check_nowhere bundle =
    let p = bundle_tables bundle in
    ap₂ (λ (x y : Demands CheckKind). x ⨾ y)
    (ap (λ (g : Globals). nowhere (item_demands g (map bare_item bundle))) (globals_same bundle) ∙ items_nowhere (globals_of bundle) bundle)
    (ap (λ (q : Tables). nowhere (functions_demands q 0 (map bare_item bundle))) (bundle_tables_same bundle) ∙ again (functions_demands p 0 (map bare_item bundle)) (functions_demands p 0 bundle) (functions_bare p 0 bundle))

names_bare : (bundle : List Item) → name_demands (bare_bundle bundle) ≡ nowhere (name_demands bundle)
names_bare bundle = ap₂ (λ (x y : Demands NameKind). x ⨾ y) (definitions_bare bundle) (uses_bare bundle)

-- bundles that are equal save for places meet the same demands
pub names_met : (b c : List Item) → bare_bundle b ≡ bare_bundle c → AllMet (name_demands b) → AllMet (name_demands c)
names_met b c e m =
    let same : nowhere (name_demands b) ≡ nowhere (name_demands c) = sym (names_bare b) ∙ (ap name_demands e ∙ names_bare c) in
    met_nowhere (name_demands c) (subst (λ (ds : Demands NameKind). AllMet ds) same (nowhere_met (name_demands b) m))

pub checks_met : (b c : List Item) → bare_bundle b ≡ bare_bundle c → AllMet (check_demands b) → AllMet (check_demands c)
checks_met b c e m =
    let same : nowhere (check_demands b) ≡ nowhere (check_demands c) = sym (check_nowhere b) ∙ (ap (λ (x : List Item). nowhere (check_demands x)) e ∙ check_nowhere c) in
    met_nowhere (check_demands c) (subst (λ (ds : Demands CheckKind). AllMet ds) same (nowhere_met (check_demands b) m))
