-- The class of each global of an accepted bundle is that of references to places of a type with few leaves.
use Rattle.std.proofs.Common.{◌≡◌, ℕ, zero, suc, ◌+◌, ◌^◌, ◌<◌, ◌≤◌, Bool, true, false, nat_lt, nat_le, List, [], ◌∷◌, Option, Some, None, slice_get, length, if◌then◌else◌, refl, sym, ◌∙◌, ap, subst, arith}
use Rattle.std.specs.List.{All}
use Rattle.std.proofs.lemmas.Bool.Decides.{nat_tests}
use Rattle.std.proofs.lemmas.List.{length-map}
use Rattle.std.proofs.lemmas.List.Elements.{All-nil, All-cons}
use Rattle.demands.specs.Demands.{AllMet, first_unmet}
use Rattle.demands.specs.Lemmas.Meeting.{all_met}
use Rattle.ir_tree.specs.declared.items.Item.{Item}
use Rattle.ir_tree.specs.declared.items.Item.TheVariants as items
use Rattle.type_definitions.specs.declared.definition.TypeDef.{TypeDef}
use Rattle.type_definitions.specs.declared.definition.TypeDef.TheVariants.{Int, Struct, Array, Hybrid, Void, Ref, Iref, FuncRef, StackRef, ThreadRef, Sig}
use Rattle.type_definitions.specs.Class.{class_of}
use Rattle.type_definitions.specs.Leaves.{leaves}
use Rattle.bundle_names.specs.Naming.{name_demands}
use Rattle.check_tables.specs.declared.tables.Tables.{Tables}
use Rattle.check_tables.specs.Types.{class_like, definition_at, definition_in, is_type_there, iref_at, iref_in, leaves_in}
use Rattle.check_tables.specs.Lookups.{or_zero, type_named, leaves_named}
use Rattle.check_tables.specs.TypeTests.{is_sized}
use Rattle.checked_code.specs.Entries.{global_entries, tables_of}
use Rattle.checked_code.specs.Rules.{globals_demands, most_leaves_of_globals}
use Rattle.checked_code.specs.Checking.{bundle_tables, check_demands}
use Rattle.typed_heap.specs.Objects.{leaf_classes}
use Rattle.mu_model.specs.Types.{type_graph}
use Rattle.bundle_facts.specs.Lemmas.Accepted.{irefs_are_defined, classes_decide_fits}
use Rattle.run_start.specs.Starting.{AreFewPlaces, HasFewPlaces}

-- the type that a global with that class has
record Cell (p : Tables) (c : ℕ) : Type 0 where
  t : ℕ
  class : iref_at p.types t ≡ Some c
  few : length (leaves p.types.definitions t) ≤ most_leaves_of_globals

known : (b : Bool) (c : ℕ) → b ≡ true → (if b then Some c else None) ≡ Some (or_zero (if b then Some c else None))
known true c h = refl
known false c h = cc

sized_is_type : (d : Option TypeDef) → is_sized d ≡ true → is_type_there d ≡ true
sized_is_type None h = cc
sized_is_type (Some (Int width)) h = refl
sized_is_type (Some (Struct fields)) h = refl
sized_is_type (Some (Array element size)) h = refl
sized_is_type (Some (Hybrid fixed element)) h = cc
sized_is_type (Some Void) h = cc
sized_is_type (Some (Ref t)) h = refl
sized_is_type (Some (Iref t)) h = refl
sized_is_type (Some (FuncRef s)) h = refl
sized_is_type (Some StackRef) h = refl
sized_is_type (Some ThreadRef) h = refl
sized_is_type (Some (Sig takes gives)) h = cc

leaves_few : (b : Bool) (graph : List TypeDef) (t before : ℕ) → is_sized (if b then slice_get graph t else None) ≡ true → before + length (if b then leaves graph t else []) ≤ most_leaves_of_globals
    → length (leaves graph t) ≤ most_leaves_of_globals
leaves_few true graph t before s f = omega (arith, f)
leaves_few false graph t before s f = cc

cell_of : (p : Tables) (before c : ℕ) (o : Option ℕ) → is_sized (definition_in p.types o) ≡ true → before + length (leaves_in p.types o) ≤ most_leaves_of_globals → or_zero (iref_in p.types o) ≡ c → Cell p c
cell_of p before c None s f e = cc
cell_of p before c (Some t) s f e =
    record {
      t = t;
      class = known (is_type_there (definition_at p.types t)) (class_like p.types.definitions (Iref t)) (sized_is_type (definition_at p.types t) s) ∙ ap (λ (x : ℕ). Some x) e;
      few = leaves_few (nat_lt t p.types.written) p.types.definitions t before s f;
    }

same_some : (x y : ℕ) → Some x ≡ Some y → x ≡ y
same_some x y h = cc

cell_at : (p : Tables) (before : ℕ) (is : List Item) (n c : ℕ) → AllMet (globals_demands p before is) → slice_get (global_entries p.types p.globals is) n ≡ Some c → Cell p c
cell_at p before [] n c m h = cc
cell_at p before (items.Typedef d ∷ is) n c m h = cell_at p before is n c m h
cell_at p before (items.Funcsig d ∷ is) n c m h = cell_at p before is n c m h
cell_at p before (items.Const d ∷ is) n c m h = cell_at p before is n c m h
cell_at p before (items.GlobalCell d ∷ is) zero c m h = cell_of p before c (type_named p d.of_type) m.0.0 (met m.0.1) (same_some (or_zero (iref_in p.types (type_named p d.of_type))) c h)
  where
    met : nat_le (before + length (leaves_named p d.of_type)) most_leaves_of_globals ≡ true → before + length (leaves_named p d.of_type) ≤ most_leaves_of_globals
    met e = grind (arith, nat_tests)
cell_at p before (items.GlobalCell d ∷ is) (suc n) c m h = cell_at p (before + length (leaves_named p d.of_type)) is n c m.1 h
cell_at p before (items.Funcdecl d ∷ is) n c m h = cell_at p before is n c m h
cell_at p before (items.Funcdef d ∷ is) n c m h = cell_at p before is n c m h

all_from : {A : Type 0} (P : A → Type 0) (xs : List A) → ((n : ℕ) (x : A) → slice_get xs n ≡ Some x → P x) → All P xs
all_from P [] h = All-nil P
all_from P (x ∷ xs) h = All-cons P x xs (h 0 x refl) (all_from P xs (λ n y e. h (suc n) y e))

few_places : (graph : List TypeDef) (c t : ℕ) → slice_get graph c ≡ Some (Iref t) → length (leaf_classes graph t) < 2 ^ 32 → HasFewPlaces graph c
few_places graph c t e few = subst (λ d. AreFewPlaces graph d) (sym e) few

-- by what accepts a bundle
pub have_few_places : (bundle : List Item) → first_unmet (name_demands bundle) ≡ None → first_unmet (check_demands bundle) ≡ None → All (HasFewPlaces (type_graph (bundle_tables bundle))) (bundle_tables bundle).global_cells
unfolding check_demands tables_of
have_few_places bundle named checked =
    let graph = type_graph (bundle_tables bundle) in
    all_from (HasFewPlaces graph) (bundle_tables bundle).global_cells
    (λ n c h. let cell = cell_at (bundle_tables bundle) 0 bundle n c (all_met (check_demands bundle) checked).0.1.1.1 h in
    let places = irefs_are_defined bundle named checked cell.t c cell.class in
    let same = ap (λ (cs : List ℕ). length cs) (classes_decide_fits bundle named checked places.target cell.t places.within places.written places.class).0 in
    let few = cell.few in
    few_places graph c places.target places.definition (omega (arith, few, same, length-map (leaves graph cell.t) (class_of graph))))
