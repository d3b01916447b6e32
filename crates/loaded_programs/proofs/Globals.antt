-- The objects of the globals have the leaves of their types.
use Rattle.std.proofs.Common.{◌≡◌, ℕ, ◌+◌, Bool, true, false, nat_lt, List, [], ◌∷◌, length, map, Option, Some, None, slice_get, if◌then◌else◌, refl, sym, ap, ◌∙◌}
use Rattle.demands.specs.Demands.{AllMet, first_unmet}
use Rattle.demands.specs.Lemmas.Meeting.{all_met}
use Rattle.ir_tree.specs.declared.items.Item.{Item}
use Rattle.ir_tree.specs.declared.items.Item.TheVariants as items
use Rattle.type_definitions.specs.declared.definition.TypeDef.{TypeDef}
use Rattle.type_definitions.specs.declared.definition.TypeDef.TheVariants.{Int, Struct, Array, Hybrid, Void, Ref, Iref, FuncRef, StackRef, ThreadRef, Sig}
use Rattle.type_definitions.specs.Class.{class_of}
use Rattle.mu_types.specs.Graph.{Table}
use Rattle.bundle_names.specs.Naming.{name_demands}
use Rattle.check_tables.specs.declared.tables.Tables.{Tables}
use Rattle.check_tables.specs.Types.{class_like, definition_at, definition_in, is_type_there, iref_at, iref_in, class_at, class_in}
use Rattle.check_tables.specs.Lookups.{or_zero, type_named, leaves_named}
use Rattle.check_tables.specs.TypeTests.{is_sized}
use Rattle.checked_code.specs.Entries.{global_entries, tables_of}
use Rattle.checked_code.specs.Rules.{globals_demands}
use Rattle.checked_code.specs.Answers.{global_classes}
use Rattle.checked_code.specs.Checking.{bundle_tables, check_demands}
use Rattle.typed_heap.specs.Objects.{HeapObject, leaf_classes, object_of}
use Rattle.mu_model.specs.Types.{class_definition}
use Rattle.mu_model.specs.Run.{target_leaves}
use Rattle.bundle_facts.specs.Lemmas.Completed.{IsComplete, is_complete}
use Rattle.bundle_facts.specs.Lemmas.References.{iref_refers}
use Rattle.bundle_facts.specs.Lemmas.Shapes.{class_leaves, class_within, class_own}
use Rattle.loaded_programs.specs.Laws.{BeginsWithGlobals}

sized_is_type : (d : Option TypeDef) → is_sized d ≡ true → is_type_there d ≡ true
sized_is_type None h = cc
sized_is_type (Some (Int width)) h = refl
sized_is_type (Some (Struct fields)) h = refl
sized_is_type (Some (Array element size)) h = refl
sized_is_type (Some (Hybrid fixed element)) h = cc
sized_is_type (Some Void) h = cc
sized_is_type (Some (Ref t)) h = refl
sized_is_type (Some (Iref t)) h = refl
sized_is_type (Some (FuncRef s)) h = refl
sized_is_type (Some StackRef) h = refl
sized_is_type (Some ThreadRef) h = refl
sized_is_type (Some (Sig takes gives)) h = cc

known : (b : Bool) (c : ℕ) → b ≡ true → (if b then Some c else None) ≡ Some (or_zero (if b then Some c else None))
known true c h = refl
known false c h = cc

-- what is written has a class
pub classed : (p : Table) (t : ℕ) → is_sized (definition_at p t) ≡ true → or_zero (class_at p t) ≡ class_of p.definitions t
classed p t h = by (nat_lt t p.written) h
  where
    by : (b : Bool) → is_sized (if b then slice_get p.definitions t else None) ≡ true → or_zero (if b then Some (class_of p.definitions t) else None) ≡ class_of p.definitions t
    by true k = refl
    by false k = cc

-- the leaves of a global are those of its type
pub leaves_same : (p : Tables) → IsComplete p.types → (o : Option ℕ) → is_sized (definition_in p.types o) ≡ true →
    target_leaves p (class_definition p (or_zero (iref_in p.types o))) ≡ leaf_classes p.types.definitions (or_zero (class_in p.types o))
leaves_same p full None h = cc
leaves_same p full (Some t) h =
    let g = p.types.definitions in
    let there = known (is_type_there (definition_at p.types t)) (class_like g (Iref t)) (sized_is_type (definition_at p.types t) h) in
    let refers = iref_refers p.types t (or_zero (iref_at p.types t)) full there in
    let within = class_within g full.graph t refers.written in
    let class : class_of g refers.target ≡ class_of g (class_of g t) = refers.class ∙ sym (class_own g full.graph t refers.written) in
    ap (λ (d : Option TypeDef). target_leaves p d) refers.definition
    ∙ class_leaves g full.graph refers.target (class_of g t) refers.within within class
    ∙ ap (leaf_classes g) (sym (classed p.types t h))

objects_same : (p : Tables) (leaves : ℕ) (is : List Item) → IsComplete p.types → AllMet (globals_demands p leaves is) →
    map (λ c. object_of p.types.definitions (target_leaves p (class_definition p c))) (global_entries p.types p.globals is)
    ≡ map (λ t. object_of p.types.definitions (leaf_classes p.types.definitions t)) (global_classes p is)
objects_same p leaves [] full m = refl
objects_same p leaves (items.Typedef d ∷ is) full m = objects_same p leaves is full m
objects_same p leaves (items.Funcsig d ∷ is) full m = objects_same p leaves is full m
objects_same p leaves (items.Const d ∷ is) full m = objects_same p leaves is full m
objects_same p leaves (items.GlobalCell d ∷ is) full m =
    let g = p.types.definitions in
    let rest = objects_same p (leaves + length (leaves_named p d.of_type)) is full m.1 in
    let here : object_of g (target_leaves p (class_definition p (or_zero (iref_in p.types (type_named p d.of_type))))) ≡ object_of g (leaf_classes g (or_zero (class_in p.types (type_named p d.of_type)))) =
    ap (object_of g) (leaves_same p full (type_named p d.of_type) m.0.0) in
    ap (λ (o : HeapObject). o ∷ map (λ c. object_of g (target_leaves p (class_definition p c))) (global_entries p.types p.globals is)) here
    ∙ ap (λ (os : List HeapObject). object_of g (leaf_classes g (or_zero (class_in p.types (type_named p d.of_type)))) ∷ os) rest
objects_same p leaves (items.Funcdecl d ∷ is) full m = objects_same p leaves is full m
objects_same p leaves (items.Funcdef d ∷ is) full m = objects_same p leaves is full m

pub begins_with_globals : (bundle : List Item) → first_unmet (name_demands bundle) ≡ None → first_unmet (check_demands bundle) ≡ None → BeginsWithGlobals bundle
unfolding check_demands tables_of
begins_with_globals bundle names checked =
    let rules = (all_met (check_demands bundle) checked).0 in
    objects_same (bundle_tables bundle) 0 bundle (is_complete bundle checked) rules.1.1.1
