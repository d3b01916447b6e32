-- Constants, globals and functions as operands: what a name stands for in a bundle, it stands for the like in the joined one.
use Rattle.std.proofs.Common.{◌≡◌, ℕ, ◌+◌, ◌<◌, true, List, [], ◌∷◌, ◌++◌, length, Option, Some, slice_get, is_some, inl, inr, refl, sym, ◌∙◌, ap, arith}
use Rattle.ir_lex.specs.declared.name.Name.{Name}
use Rattle.ir_tree.specs.declared.definitions.TypeForm.{TypeForm}
use Rattle.ir_tree.specs.declared.definitions.TypeForm.TheVariants as forms
use Rattle.ir_tree.specs.declared.definitions.Const.{Const}
use Rattle.ir_tree.specs.declared.definitions.GlobalCell.{GlobalCell}
use Rattle.ir_tree.specs.declared.items.Item.{Item}
use Rattle.ir_tree.specs.declared.items.Item.TheVariants as items
use Rattle.bundle_names.specs.declared.globals.Sort.{Sort}
use Rattle.bundle_names.specs.declared.globals.Sort.TheVariants as sorts
use Rattle.bundle_names.specs.declared.globals.Globals.{Globals}
use Rattle.mu_types.specs.Graph.{Table}
use Rattle.name_scopes.specs.Names.{found}
use Rattle.bundle_names.specs.Globals.{with_item, with_items, no_globals, globals_of}
use Rattle.bundle_names.specs.Uses.{is_type}
use Rattle.check_tables.specs.Types.{definition_at, iref_in, is_type_there}
use Rattle.check_tables.specs.Lookups.{written_number, signature_number, signature_in, global_class, or_zero}
use Rattle.checked_code.specs.Graph.{type_definition}
use Rattle.checked_code.specs.Entries.{noted_type, constant_entries, global_entries, tables_of}
use Rattle.checked_code.specs.Checking.{bundle_tables}
use Rattle.join_laws.proofs.Numbers.{name_of, sort_of, leads_to}
use Rattle.join_laws.proofs.Classes.{Stands, Goes, Pair, below}
use Rattle.join_laws.proofs.References.{iref_goes}
use Rattle.join_laws.proofs.Lookups.{TablesGo, SignatureGoes, noted_stands}
use Rattle.join_laws.proofs.Alike.{Alike}
use Rattle.join_laws.proofs.Graphs.{In, get_at, type_of_name}
use Rattle.join_laws.proofs.Joined.{Like, Represents, uses_in, graph, written_type}
use Rattle.join_laws.proofs.Tables.{table, type_stands, name_goes, noted_goes, signature_goes}
use Rattle.join_laws.proofs.Sorts.{named_in}

-- ---- constants

constants_split : (t : Table) (g : Globals) (is js : List Item) → constant_entries t g (is ++ js) ≡ constant_entries t g is ++ constant_entries t g js
constants_split t g [] js = refl
constants_split t g (items.Const d ∷ is) js = ap (λ (xs : List ℕ). noted_type t g d.of_type ∷ xs) (constants_split t g is js)
constants_split t g (items.Typedef d ∷ is) js = constants_split t g is js
constants_split t g (items.Funcsig d ∷ is) js = constants_split t g is js
constants_split t g (items.GlobalCell d ∷ is) js = constants_split t g is js
constants_split t g (items.Funcdecl d ∷ is) js = constants_split t g is js
constants_split t g (items.Funcdef d ∷ is) js = constants_split t g is js

constants_counted : (t : Table) (g h : Globals) (is : List Item) → (with_items g is).counts.constants ≡ g.counts.constants + length (constant_entries t h is)
constants_counted t g h [] = omega arith
constants_counted t g h (items.Const d ∷ is) = omega (arith, constants_counted t (with_item g (items.Const d)) h is)
constants_counted t g h (items.Typedef d ∷ is) = constants_counted t (with_item g (items.Typedef d)) h is
constants_counted t g h (items.Funcsig d ∷ is) = constants_counted t (with_item g (items.Funcsig d)) h is
constants_counted t g h (items.GlobalCell d ∷ is) = constants_counted t (with_item g (items.GlobalCell d)) h is
constants_counted t g h (items.Funcdecl d ∷ is) = constants_counted t (with_item g (items.Funcdecl d)) h is
constants_counted t g h (items.Funcdef d ∷ is) = constants_counted t (with_item g (items.Funcdef d)) h is

constant_at : (t : Table) (g : Globals) (b before behind : List Item) (d : Const) → b ≡ before ++ items.Const d ∷ behind → slice_get (constant_entries t g b) (with_items no_globals before).counts.constants ≡ Some (noted_type t g d.of_type)
constant_at t g b before behind d e =
    let many : (with_items no_globals before).counts.constants ≡ 0 + length (constant_entries t g before) = constants_counted t no_globals g before in
    let same : (with_items no_globals before).counts.constants ≡ length (constant_entries t g before) = omega (arith, many) in
    ap (λ (n : ℕ). slice_get (constant_entries t g b) n) same
    ∙ (ap (λ (xs : List ℕ). slice_get xs (length (constant_entries t g before))) (ap (constant_entries t g) e ∙ constants_split t g before (items.Const d ∷ behind))
    ∙ get_at (constant_entries t g before) (constant_entries t g behind) (noted_type t g d.of_type))

constant_one : (m n : ℕ) → sorts.Constant m ≡ sorts.Constant n → m ≡ n
constant_one m n e = cc

-- what is the case of a name is said of the item found
constant_by : (b j : List Item) → Represents b j → Pair (table b) (table j) → (name : List ℕ) (c : ℕ) (i : Item) (before behind : List Item) → b ≡ before ++ i ∷ behind → name ≡ (name_of i).text → sorts.Constant c ≡ sort_of (with_items no_globals before) i → Like i j →
    Goes (table b) (table j) (slice_get (constant_entries (table b) (globals_of b) b) c) (global_class (bundle_tables j) (found (globals_of j).names name))
unfolding tables_of
constant_by b j r pair name c (items.Const d) before behind e n k like = by like.item like.there like.alike
  where
    by : (i : Item) → In i j → Alike (items.Const d) i → Goes (table b) (table j) (slice_get (constant_entries (table b) (globals_of b) b) c) (global_class (bundle_tables j) (found (globals_of j).names name))
    by (items.Const x) at a =
        let named : found (globals_of j).names name ≡ Some (sorts.Constant (with_items no_globals at.before).counts.constants) = ap (found (globals_of j).names) (n ∙ a.0) ∙ named_in j (items.Const x) r.once at refl in
        let uses = uses_in b (items.Const d) r.used (record { before = before; behind = behind; whole = e }) in
        rw (constant_one c (with_items no_globals before).counts.constants k, constant_at (table b) (globals_of b) b before behind d e, named, constant_at (table j) (globals_of j) j at.before at.behind x at.whole)
        (noted_goes b j r pair d.of_type x.of_type a.1 uses.0.1)
    by (items.Typedef x) at a = absurd a
    by (items.Funcsig x) at a = absurd a
    by (items.GlobalCell x) at a = absurd a
    by (items.Funcdecl x) at a = absurd a
    by (items.Funcdef x) at a = absurd a
constant_by b j r pair name c (items.Typedef d) before behind e n k like = cc
constant_by b j r pair name c (items.Funcsig d) before behind e n k like = cc
constant_by b j r pair name c (items.GlobalCell d) before behind e n k like = cc
constant_by b j r pair name c (items.Funcdecl d) before behind e n k like = cc
constant_by b j r pair name c (items.Funcdef d) before behind e n k like = cc

pub constant_goes : (b j : List Item) → Represents b j → Pair (table b) (table j) → (name : List ℕ) (c : ℕ) → found (globals_of b).names name ≡ Some (sorts.Constant c) →
    Goes (table b) (table j) (slice_get (constant_entries (table b) (globals_of b) b) c) (global_class (bundle_tables j) (found (globals_of j).names name))
constant_goes b j r pair name c h = elim (leads_to no_globals b name (sorts.Constant c) h) [
  | inl none ↦ cc
  | inr at ↦ constant_by b j r pair name c at.item at.before at.behind at.whole at.same at.sort (r.each at.item (record { before = at.before; behind = at.behind; whole = at.whole }))
]

-- ---- globals

abbrev pub place_type : Table → Globals → Name → ℕ
place_type t g n = or_zero (iref_in t (written_number (found g.names n.text)))

cells_split : (t : Table) (g : Globals) (is js : List Item) → global_entries t g (is ++ js) ≡ global_entries t g is ++ global_entries t g js
cells_split t g [] js = refl
cells_split t g (items.GlobalCell d ∷ is) js = ap (λ (xs : List ℕ). place_type t g d.of_type ∷ xs) (cells_split t g is js)
cells_split t g (items.Typedef d ∷ is) js = cells_split t g is js
cells_split t g (items.Funcsig d ∷ is) js = cells_split t g is js
cells_split t g (items.Const d ∷ is) js = cells_split t g is js
cells_split t g (items.Funcdecl d ∷ is) js = cells_split t g is js
cells_split t g (items.Funcdef d ∷ is) js = cells_split t g is js

cells_counted : (t : Table) (g h : Globals) (is : List Item) → (with_items g is).counts.global_cells ≡ g.counts.global_cells + length (global_entries t h is)
cells_counted t g h [] = omega arith
cells_counted t g h (items.GlobalCell d ∷ is) = omega (arith, cells_counted t (with_item g (items.GlobalCell d)) h is)
cells_counted t g h (items.Typedef d ∷ is) = cells_counted t (with_item g (items.Typedef d)) h is
cells_counted t g h (items.Funcsig d ∷ is) = cells_counted t (with_item g (items.Funcsig d)) h is
cells_counted t g h (items.Const d ∷ is) = cells_counted t (with_item g (items.Const d)) h is
cells_counted t g h (items.Funcdecl d ∷ is) = cells_counted t (with_item g (items.Funcdecl d)) h is
cells_counted t g h (items.Funcdef d ∷ is) = cells_counted t (with_item g (items.Funcdef d)) h is

cell_at : (t : Table) (g : Globals) (b before behind : List Item) (d : GlobalCell) → b ≡ before ++ items.GlobalCell d ∷ behind → slice_get (global_entries t g b) (with_items no_globals before).counts.global_cells ≡ Some (place_type t g d.of_type)
cell_at t g b before behind d e =
    let many : (with_items no_globals before).counts.global_cells ≡ 0 + length (global_entries t g before) = cells_counted t no_globals g before in
    let same : (with_items no_globals before).counts.global_cells ≡ length (global_entries t g before) = omega (arith, many) in
    ap (λ (n : ℕ). slice_get (global_entries t g b) n) same
    ∙ (ap (λ (xs : List ℕ). slice_get xs (length (global_entries t g before))) (ap (global_entries t g) e ∙ cells_split t g before (items.GlobalCell d ∷ behind))
    ∙ get_at (global_entries t g before) (global_entries t g behind) (place_type t g d.of_type))

cell_one : (m n : ℕ) → sorts.GlobalCell m ≡ sorts.GlobalCell n → m ≡ n
cell_one m n e = cc

form_is_type : (g : Globals) (form : TypeForm) → is_type_there (Some (type_definition g form)) ≡ true
form_is_type g (forms.Int w) = refl
form_is_type g form = refl

some_iref : (t : Table) (k : ℕ) → is_type_there (definition_at t k) ≡ true → is_some (iref_in t (Some k)) ≡ true
some_iref t k h = rw h refl

type_is_there : (b : List Item) (name : List ℕ) (t : ℕ) → found (globals_of b).names name ≡ Some (sorts.Written t) → t < (table b).written → is_type_there (definition_at (table b) t) ≡ true
type_is_there b name t h l =
    let one = type_of_name b name t h in
    rw (below t (table b).written l, one.there) (form_is_type (globals_of b) one.definition.form)

place_stands : (b j : List Item) → Represents b j → Pair (table b) (table j) → (x y : Name) → x.text ≡ y.text → is_type (found (globals_of b).names x.text) ≡ true →
    Stands (graph b) (graph j) (place_type (table b) (globals_of b) x) (place_type (table j) (globals_of j) y)
place_stands b j r pair x y e h =
    let t = written_type (found (globals_of b).names x.text) h in
    let u = type_stands b j r x.text t.0 t.1 in
    let there : found (globals_of j).names y.text ≡ Some (sorts.Written u.0) = ap (found (globals_of j).names) (sym e) ∙ u.1 in
    rw (t.1, there) (noted_stands (table b) (table j) (iref_in (table b) (Some t.0)) (iref_in (table j) (Some u.0)) (iref_goes (table b) (table j) pair (Some t.0) (Some u.0) u.2)
    (some_iref (table b) t.0 (type_is_there b x.text t.0 t.1 u.2.low)))

cell_by : (b j : List Item) → Represents b j → Pair (table b) (table j) → (name : List ℕ) (c : ℕ) (i : Item) (before behind : List Item) → b ≡ before ++ i ∷ behind → name ≡ (name_of i).text → sorts.GlobalCell c ≡ sort_of (with_items no_globals before) i → Like i j →
    Goes (table b) (table j) (slice_get (global_entries (table b) (globals_of b) b) c) (global_class (bundle_tables j) (found (globals_of j).names name))
unfolding tables_of
cell_by b j r pair name c (items.GlobalCell d) before behind e n k like = by like.item like.there like.alike
  where
    by : (i : Item) → In i j → Alike (items.GlobalCell d) i → Goes (table b) (table j) (slice_get (global_entries (table b) (globals_of b) b) c) (global_class (bundle_tables j) (found (globals_of j).names name))
    by (items.GlobalCell x) at a =
        let named : found (globals_of j).names name ≡ Some (sorts.GlobalCell (with_items no_globals at.before).counts.global_cells) = ap (found (globals_of j).names) (n ∙ a.0) ∙ named_in j (items.GlobalCell x) r.once at refl in
        let uses = uses_in b (items.GlobalCell d) r.used (record { before = before; behind = behind; whole = e }) in
        rw (cell_one c (with_items no_globals before).counts.global_cells k, cell_at (table b) (globals_of b) b before behind d e, named, cell_at (table j) (globals_of j) j at.before at.behind x at.whole)
        (place_stands b j r pair d.of_type x.of_type a.1 uses.1)
    by (items.Typedef x) at a = absurd a
    by (items.Funcsig x) at a = absurd a
    by (items.Const x) at a = absurd a
    by (items.Funcdecl x) at a = absurd a
    by (items.Funcdef x) at a = absurd a
cell_by b j r pair name c (items.Typedef d) before behind e n k like = cc
cell_by b j r pair name c (items.Funcsig d) before behind e n k like = cc
cell_by b j r pair name c (items.Const d) before behind e n k like = cc
cell_by b j r pair name c (items.Funcdecl d) before behind e n k like = cc
cell_by b j r pair name c (items.Funcdef d) before behind e n k like = cc

pub cell_goes : (b j : List Item) → Represents b j → Pair (table b) (table j) → (name : List ℕ) (c : ℕ) → found (globals_of b).names name ≡ Some (sorts.GlobalCell c) →
    Goes (table b) (table j) (slice_get (global_entries (table b) (globals_of b) b) c) (global_class (bundle_tables j) (found (globals_of j).names name))
cell_goes b j r pair name c h = elim (leads_to no_globals b name (sorts.GlobalCell c) h) [
  | inl none ↦ cc
  | inr at ↦ cell_by b j r pair name c at.item at.before at.behind at.whole at.same at.sort (r.each at.item (record { before = at.before; behind = at.behind; whole = at.whole }))
]

-- ---- the tables

-- a function of the one is a function of the like signature in the other
abbrev pub FunctionsGo : List Item → List Item → Type 0
FunctionsGo b j = (name : List ℕ) (n : ℕ) → found (globals_of b).names name ≡ Some (sorts.Function n) →
    Goes (table b) (table j) (global_class (bundle_tables b) (Some (sorts.Function n))) (global_class (bundle_tables j) (found (globals_of j).names name))

pub signed_goes : (b j : List Item) → Represents b j → Pair (table b) (table j) → (name : List ℕ) →
    SignatureGoes (table b) (table j) (signature_in (bundle_tables b) (signature_number (found (globals_of b).names name))) (signature_in (bundle_tables j) (signature_number (found (globals_of j).names name)))
unfolding tables_of
signed_goes b j r pair name = by (found (globals_of b).names name) refl
  where
    by : (o : Option Sort) → found (globals_of b).names name ≡ o → SignatureGoes (table b) (table j) (signature_in (bundle_tables b) (signature_number o)) (signature_in (bundle_tables j) (signature_number (found (globals_of j).names name)))
    by (Some (sorts.Signature s)) e = signature_goes b j r pair name s e
    by o e = tt

pub tables_go : (b j : List Item) → Represents b j → Pair (table b) (table j) → FunctionsGo b j → TablesGo (bundle_tables b) (bundle_tables j)
unfolding tables_of
tables_go b j r pair functions = record {
  pair = pair;
  type = name_goes b j r;
  signature = λ name. signed name (found (globals_of b).names name) refl;
  operand = λ name. stands name (found (globals_of b).names name) refl;
}
  where
    signed : (name : List ℕ) (o : Option Sort) → found (globals_of b).names name ≡ o →
        SignatureGoes (table b) (table j) (signature_in (bundle_tables b) (signature_number o)) (signature_in (bundle_tables j) (signature_number (found (globals_of j).names name)))
    signed name (Some (sorts.Signature s)) e = signature_goes b j r pair name s e
    signed name o e = tt

    stands : (name : List ℕ) (o : Option Sort) → found (globals_of b).names name ≡ o → Goes (table b) (table j) (global_class (bundle_tables b) o) (global_class (bundle_tables j) (found (globals_of j).names name))
    stands name (Some (sorts.Constant c)) e = constant_goes b j r pair name c e
    stands name (Some (sorts.GlobalCell c)) e = cell_goes b j r pair name c e
    stands name (Some (sorts.Function n)) e = functions name n e
    stands name o e = tt
