-- What the items of a bundle say by number does not depend on places.
use Rattle.std.proofs.Common.{◌≡◌, ℕ, suc, List, [], ◌∷◌, ◌++◌, length, map, if◌then◌else◌, refl, ◌∙◌, ap, ap₂}
use Rattle.ir_lex.specs.declared.name.Name.{Name}
use Rattle.ir_tree.specs.declared.definitions.TypeForm.{TypeForm}
use Rattle.ir_tree.specs.declared.definitions.TypeForm.TheVariants as forms
use Rattle.ir_tree.specs.declared.definitions.Funcsig.{Funcsig}
use Rattle.ir_tree.specs.declared.items.Item.{Item}
use Rattle.ir_tree.specs.declared.items.Item.TheVariants as items
use Rattle.ir_print.specs.Placeless.{bare_name, bare_type_form, bare_funcsig, bare_item, bare_bundle}
use Rattle.type_definitions.specs.declared.definition.TypeDef.{TypeDef}
use Rattle.type_definitions.specs.declared.definition.TypeDef.TheVariants.{Struct, Hybrid, Sig}
use Rattle.mu_types.specs.Graph.{Table}
use Rattle.mu_types.specs.Implied.{complete}
use Rattle.name_scopes.specs.Names.{found}
use Rattle.bundle_names.specs.declared.globals.Globals.{Globals}
use Rattle.bundle_names.specs.Globals.{globals_of}
use Rattle.check_tables.specs.declared.tables.Signature.{Signature}
use Rattle.check_tables.specs.declared.tables.Tables.{Tables}
use Rattle.check_tables.specs.Lookups.{or_zero}
use Rattle.check_tables.specs.Types.{class_at, funcref_at}
use Rattle.checked_code.specs.Graph.{type_id, type_ids, signature_id, type_definition, types_of, signatures_of, graph_of, table_of}
use Rattle.checked_code.specs.Entries.{noted_type, noted_types, signature_entry, signature_entries, constant_entries, global_entries, noted_signature, declared_signatures, defined_signatures, is_function, declared_entry, function_entries, tables_of}
use Rattle.checked_code.specs.Checking.{bundle_tables}
use Rattle.join_laws.proofs.BareNames.{globals_same}

pub numbers_same : (number : Name → ℕ) → ((n : Name) → number (bare_name n) ≡ number n) → (ns : List Name) → map number (map bare_name ns) ≡ map number ns
numbers_same number one [] = refl
numbers_same number one (n ∷ ns) = ap₂ (λ (x : ℕ) (xs : List ℕ). x ∷ xs) (one n) (numbers_same number one ns)

ids_same : (g : Globals) (ns : List Name) → type_ids g (map bare_name ns) ≡ type_ids g ns
ids_same g ns = numbers_same (type_id g) (λ n. refl) ns

noted_same : (t : Table) (g : Globals) (ns : List Name) → noted_types t g (map bare_name ns) ≡ noted_types t g ns
noted_same t g ns = numbers_same (noted_type t g) (λ n. refl) ns

-- ---- the graph

type_same : (g : Globals) (f : TypeForm) → type_definition g (bare_type_form f) ≡ type_definition g f
type_same g (forms.Int w) = refl
type_same g (forms.Struct ts) = ap Struct (ids_same g ts)
type_same g (forms.Array t n) = refl
type_same g (forms.Hybrid ts t) = ap (λ (xs : List ℕ). Hybrid xs (type_id g t)) (ids_same g ts)
type_same g forms.Void = refl
type_same g (forms.Ref t) = refl
type_same g (forms.Iref t) = refl
type_same g (forms.Funcref s) = refl
type_same g forms.Stackref = refl
type_same g forms.Threadref = refl

types_same : (g : Globals) (is : List Item) → types_of g (map bare_item is) ≡ types_of g is
types_same g [] = refl
types_same g (items.Typedef d ∷ is) = ap₂ (λ (x : TypeDef) (xs : List TypeDef). x ∷ xs) (type_same g d.form) (types_same g is)
types_same g (items.Funcsig d ∷ is) = types_same g is
types_same g (items.Const d ∷ is) = types_same g is
types_same g (items.GlobalCell d ∷ is) = types_same g is
types_same g (items.Funcdecl d ∷ is) = types_same g is
types_same g (items.Funcdef d ∷ is) = types_same g is

signatures_same : (g : Globals) (is : List Item) → signatures_of g (map bare_item is) ≡ signatures_of g is
signatures_same g [] = refl
signatures_same g (items.Funcsig d ∷ is) = ap₂ (λ (x : TypeDef) (xs : List TypeDef). x ∷ xs) (ap₂ Sig (ids_same g d.takes) (ids_same g d.gives)) (signatures_same g is)
signatures_same g (items.Typedef d ∷ is) = signatures_same g is
signatures_same g (items.Const d ∷ is) = signatures_same g is
signatures_same g (items.GlobalCell d ∷ is) = signatures_same g is
signatures_same g (items.Funcdecl d ∷ is) = signatures_same g is
signatures_same g (items.Funcdef d ∷ is) = signatures_same g is

pub graph_same : (g : Globals) (is : List Item) → graph_of g (map bare_item is) ≡ graph_of g is
graph_same g is = ap₂ (λ (xs ys : List TypeDef). xs ++ ys) (types_same g is) (signatures_same g is)

table_same : (g : Globals) (is : List Item) → table_of g (map bare_item is) ≡ table_of g is
table_same g is = ap (λ (w : List TypeDef). record { definitions = complete w; written = length w }) (graph_same g is)

-- ---- entries

signature_same : (t : Table) (g : Globals) (d : Funcsig) → signature_entry t g (bare_funcsig d) ≡ signature_entry t g d
signature_same t g d =
    ap₂ (λ (xs ys : List ℕ). record { class = or_zero (class_at t (signature_id g d.name)); funcref = or_zero (funcref_at t (signature_id g d.name)); takes = xs; gives = ys })
    (noted_same t g d.takes) (noted_same t g d.gives)

entries_same : (t : Table) (g : Globals) (is : List Item) → signature_entries t g (map bare_item is) ≡ signature_entries t g is
entries_same t g [] = refl
entries_same t g (items.Funcsig d ∷ is) = ap₂ (λ (x : Signature) (xs : List Signature). x ∷ xs) (signature_same t g d) (entries_same t g is)
entries_same t g (items.Typedef d ∷ is) = entries_same t g is
entries_same t g (items.Const d ∷ is) = entries_same t g is
entries_same t g (items.GlobalCell d ∷ is) = entries_same t g is
entries_same t g (items.Funcdecl d ∷ is) = entries_same t g is
entries_same t g (items.Funcdef d ∷ is) = entries_same t g is

constants_same : (t : Table) (g : Globals) (is : List Item) → constant_entries t g (map bare_item is) ≡ constant_entries t g is
constants_same t g [] = refl
constants_same t g (items.Const d ∷ is) = ap (λ (xs : List ℕ). noted_type t g d.of_type ∷ xs) (constants_same t g is)
constants_same t g (items.Typedef d ∷ is) = constants_same t g is
constants_same t g (items.Funcsig d ∷ is) = constants_same t g is
constants_same t g (items.GlobalCell d ∷ is) = constants_same t g is
constants_same t g (items.Funcdecl d ∷ is) = constants_same t g is
constants_same t g (items.Funcdef d ∷ is) = constants_same t g is

cells_same : (t : Table) (g : Globals) (is : List Item) → global_entries t g (map bare_item is) ≡ global_entries t g is
cells_same t g [] = refl
cells_same t g (items.GlobalCell d ∷ is) = rw (cells_same t g is) refl
cells_same t g (items.Typedef d ∷ is) = cells_same t g is
cells_same t g (items.Funcsig d ∷ is) = cells_same t g is
cells_same t g (items.Const d ∷ is) = cells_same t g is
cells_same t g (items.Funcdecl d ∷ is) = cells_same t g is
cells_same t g (items.Funcdef d ∷ is) = cells_same t g is

declared_same : (g : Globals) (is : List Item) → declared_signatures g (map bare_item is) ≡ declared_signatures g is
declared_same g [] = refl
declared_same g (items.Funcdecl d ∷ is) = ap (λ (xs : List ℕ). noted_signature g d.signature ∷ xs) (declared_same g is)
declared_same g (items.Typedef d ∷ is) = declared_same g is
declared_same g (items.Funcsig d ∷ is) = declared_same g is
declared_same g (items.Const d ∷ is) = declared_same g is
declared_same g (items.GlobalCell d ∷ is) = declared_same g is
declared_same g (items.Funcdef d ∷ is) = declared_same g is

defined_same : (g : Globals) (is : List Item) → defined_signatures g (map bare_item is) ≡ defined_signatures g is
defined_same g [] = refl
defined_same g (items.Funcdef d ∷ is) = ap (λ (xs : List ℕ). noted_signature g d.signature ∷ xs) (defined_same g is)
defined_same g (items.Typedef d ∷ is) = defined_same g is
defined_same g (items.Funcsig d ∷ is) = defined_same g is
defined_same g (items.Const d ∷ is) = defined_same g is
defined_same g (items.GlobalCell d ∷ is) = defined_same g is
defined_same g (items.Funcdecl d ∷ is) = defined_same g is

functions_same : (g : Globals) (defined : List ℕ) (k : ℕ) (is : List Item) → function_entries g defined k (map bare_item is) ≡ function_entries g defined k is
functions_same g defined k [] = refl
functions_same g defined k (items.Funcdecl d ∷ is) =
    ap₂ (λ (xs ys : List ℕ). if is_function (found g.names d.name.text) k then declared_entry g defined d ∷ xs else ys) (functions_same g defined (suc k) is) (functions_same g defined k is)
functions_same g defined k (items.Funcdef d ∷ is) =
    ap₂ (λ (xs ys : List ℕ). if is_function (found g.names d.name.text) k then noted_signature g d.signature ∷ xs else ys) (functions_same g defined (suc k) is) (functions_same g defined k is)
functions_same g defined k (items.Typedef d ∷ is) = functions_same g defined k is
functions_same g defined k (items.Funcsig d ∷ is) = functions_same g defined k is
functions_same g defined k (items.Const d ∷ is) = functions_same g defined k is
functions_same g defined k (items.GlobalCell d ∷ is) = functions_same g defined k is

-- ---- all of them

abbrev made : Globals → Table → List Signature → List ℕ → List ℕ → List ℕ → List ℕ → Tables
made g t signatures constants cells functions declarations =
    record { types = t; globals = g; signatures = signatures; constants = constants; global_cells = cells; functions = functions; declarations = declarations }

pub tables_same : (g : Globals) (is : List Item) → tables_of g (map bare_item is) ≡ tables_of g is
unfolding tables_of
tables_same g is =
    let t = table_of g is in
    let js = map bare_item is in
    ap (λ (u : Table). made g u (signature_entries u g js) (constant_entries u g js) (global_entries u g js) (function_entries g (defined_signatures g js) 0 js) (declared_signatures g js)) (table_same g is)
    ∙ (ap₂ (λ (a : List Signature) (b : List ℕ). made g t a b (global_entries t g js) (function_entries g (defined_signatures g js) 0 js) (declared_signatures g js)) (entries_same t g is) (constants_same t g is)
    ∙ (ap₂ (λ (a b : List ℕ). made g t (signature_entries t g is) (constant_entries t g is) a b (declared_signatures g js)) (cells_same t g is)
    (ap (λ (d : List ℕ). function_entries g d 0 js) (defined_same g is) ∙ functions_same g (defined_signatures g is) 0 is)
    ∙ ap (λ (a : List ℕ). made g t (signature_entries t g is) (constant_entries t g is) (global_entries t g is) (function_entries g (defined_signatures g is) 0 is) a) (declared_same g is)))

pub bundle_tables_same : (bundle : List Item) → bundle_tables (bare_bundle bundle) ≡ bundle_tables bundle
bundle_tables_same bundle = ap (λ (g : Globals). tables_of g (map bare_item bundle)) (globals_same bundle) ∙ tables_same (globals_of bundle) bundle
