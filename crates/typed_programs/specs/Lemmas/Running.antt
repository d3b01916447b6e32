-- Runs of accepted bundles have endings.
use Rattle.std.specs.Prelude.{◌≢◌}
use Rattle.std.proofs.Common.{◌≡◌, ℕ, suc, true, List, [], ◌∷◌, Option, Some, None, slice_get, map, option_map, refl, sym, ◌∙◌, ap, subst, arith}
use Rattle.std.specs.List.{All}
use Rattle.std.proofs.lemmas.Option.{slice_get-map}
use Rattle.std.proofs.lemmas.List.Elements.{All-nil, All-cons}
use Rattle.demands.specs.Demands.{first_unmet}
use Rattle.ir_tree.specs.declared.items.Item.{Item}
use Rattle.type_definitions.specs.declared.definition.TypeDef.{TypeDef}
use Rattle.type_definitions.specs.declared.definition.TypeDef.TheVariants as types
use Rattle.mu_values.specs.declared.scalars.Scalar.TheVariants.{Place}
use Rattle.bundle_names.specs.Naming.{name_demands}
use Rattle.check_tables.specs.declared.tables.Tables.{Tables}
use Rattle.checked_code.specs.Checking.{bundle_tables, check_demands}
use Rattle.type_definitions.specs.Same.{IsGraph}
use Rattle.typed_heap.specs.Objects.{HeapObject, leaf_classes, object_of}
use Rattle.typed_heap.specs.Fits.{World, DefinitionFits, ScalarFits, place_fits}
use Rattle.typed_heap.specs.Lemmas.Fitted.{object_fits}
use Rattle.mu_model.specs.Types.{type_graph, class_definition, classes_taken}
use Rattle.mu_model.specs.Clients.{Client, ScriptEntry}
use Rattle.mu_model.specs.Configuration.{Configuration}
use Rattle.mu_model.specs.Programs.{named}
use Rattle.mu_model.specs.Run.{Setting, Run, Breaks, target_leaves, global_objects, run_from, program_run}
use Rattle.model_laws.specs.LogFits.{ObjectFits}
use Rattle.model_laws.specs.ClientsFit.{ClientFits, ScriptEntryFits}
use Rattle.model_laws.specs.Laws.{first_world}
use Rattle.model_laws.specs.Bounds.{HasEnding}
use Rattle.model_laws.specs.Lemmas.Basics.{some_is}
use Rattle.model_laws.specs.Lemmas.Proved.{first_well}
use Rattle.model_laws.specs.Lemmas.Bounded.{runs_end}
use Rattle.bundle_laws.specs.Lemmas.Tables.{tables_fit}
use Rattle.bundle_facts.specs.Lemmas.Accepted as facts
use Rattle.typed_programs.specs.PlacesOf.{places_of}
use Rattle.typed_programs.specs.Laws.{AcceptedIsTyped, SettingFits, RunsHaveAnEnding, NeverBreaks, IsPlain, PlainRunsHaveAnEnding, PlainRunsNeverBreak}
use Rattle.typed_programs.specs.Lemmas.Shapes.{fits_alone, place_first}
use Rattle.typed_programs.specs.Lemmas.Typed.{named_is_typed}

pub accepted_is_typed : AcceptedIsTyped
accepted_is_typed bundle names checked have = named_is_typed bundle names checked have

-- ---- runs

no_break : (r : Run) → HasEnding r → r ≢ Breaks
no_break r h e = subst HasEnding e h

pub runs_have_an_ending : RunsHaveAnEnding
runs_have_an_ending bundle names checked have s f c fit first =
    let typed = accepted_is_typed bundle names checked have in
    subst (λ (o : Option Configuration). HasEnding (run_from (named bundle) o)) (sym first)
    (runs_end (named bundle) (places_of bundle) c (suc c.budget) typed
    (first_well (named bundle) (places_of bundle) s f c typed fit.setting.globals fit.setting.objects fit.setting.client fit.takes first) (omega arith))

pub never_breaks : NeverBreaks
never_breaks bundle names checked have s f c fit first = no_break (program_run (named bundle) s f) (runs_have_an_ending bundle names checked have s f c fit first)

-- ---- the objects of globals

objects_fit : (p : Tables) (w : World) (cs : List ℕ) → IsGraph p.types.definitions →
    All (ObjectFits (type_graph p) w) (map (λ c. object_of (type_graph p) (target_leaves p (class_definition p c))) cs)
objects_fit p w [] graph = All-nil (ObjectFits (type_graph p) w)
objects_fit p w (c ∷ cs) graph =
    All-cons (ObjectFits (type_graph p) w) (object_of (type_graph p) (target_leaves p (class_definition p c))) (map (λ c. object_of (type_graph p) (target_leaves p (class_definition p c))) cs)
    (one (class_definition p c)) (objects_fit p w cs graph)
  where
    one : (d : Option TypeDef) → ObjectFits (type_graph p) w (object_of (type_graph p) (target_leaves p d))
    one (Some (types.Iref t)) = object_fits (type_graph p) w t graph
    one _ = tt

global_place : (bundle : List Item) → first_unmet (name_demands bundle) ≡ None → first_unmet (check_demands bundle) ≡ None → (w : World) → w.objects ≡ global_objects (bundle_tables bundle) →
    (n c : ℕ) → slice_get (bundle_tables bundle).global_cells n ≡ Some c → ScalarFits (type_graph (bundle_tables bundle)) w c (Place n 0)
global_place bundle names checked w same n c e =
    let p : Tables = bundle_tables bundle in
    let cell = (tables_fit bundle names checked).cells n c e in
    let refers = facts.irefs_are_defined bundle names checked cell.0 c cell.1 in
    let made : HeapObject = object_of (type_graph p) (leaf_classes (type_graph p) refers.target) in
    let there : slice_get w.objects n ≡ Some made =
    ap (λ (os : List HeapObject). slice_get os n) same
    ∙ slice_get-map (λ c. object_of (type_graph p) (target_leaves p (class_definition p c))) p.global_cells n
    ∙ ap (option_map (λ c. object_of (type_graph p) (target_leaves p (class_definition p c)))) e
    ∙ ap (λ (d : Option TypeDef). Some (object_of (type_graph p) (target_leaves p d))) refers.definition in
    some_is _ (λ d. DefinitionFits (type_graph p) w d (Place n 0)) (types.Iref refers.target) refers.definition
    (some_is (slice_get w.objects n) (λ o. place_fits (type_graph p) refers.target o 0 ≡ true) made there (place_first (type_graph p) refers.target made (fits_alone (type_graph p) refers.target)))

no_entries : (p : Tables) (k : Client) → k.entries ≡ [] → ClientFits p k
no_entries p k e w globals = subst (λ (es : List ScriptEntry). All (ScriptEntryFits p w) es) (sym e) (All-nil (ScriptEntryFits p w))

pub plain_fits : (bundle : List Item) → first_unmet (name_demands bundle) ≡ None → first_unmet (check_demands bundle) ≡ None → (s : Setting) → IsPlain bundle s →
    SettingFits bundle s
plain_fits bundle names checked s plain = record {
  globals = record { functions = refl; places = global_place bundle names checked (first_world (bundle_tables bundle) s) plain.objects };
  objects = subst (λ (os : List HeapObject). All (ObjectFits (type_graph (bundle_tables bundle)) (first_world (bundle_tables bundle) s)) os) (sym plain.objects)
      (objects_fit (bundle_tables bundle) (first_world (bundle_tables bundle) s) (bundle_tables bundle).global_cells (tables_fit bundle names checked).graph);
  client = no_entries (bundle_tables bundle) s.client plain.entries;
}

pub plain_runs_have_an_ending : PlainRunsHaveAnEnding
plain_runs_have_an_ending bundle names checked have s f c plain none first = runs_have_an_ending bundle names checked have s f c (record { setting = plain_fits bundle names checked s plain; takes = none }) first

pub plain_runs_never_break : PlainRunsNeverBreak
plain_runs_never_break bundle names checked have s f c plain none first = no_break (program_run (named bundle) s f) (plain_runs_have_an_ending bundle names checked have s f c plain none first)
