-- What a script makes of an accepted text is what a run may begin with.
use Rattle.std.proofs.Common.{◌≡◌, ℕ, false, List, [], None, slice_get, refl, sym, subst}
use Rattle.std.specs.List.{All}
use Rattle.demands.specs.Demands.{first_unmet}
use Rattle.ir_tree.specs.declared.items.Item.{Item}
use Rattle.mu_values.specs.declared.scalars.Scalar.TheVariants.{Place}
use Rattle.bundle_names.specs.Naming.{name_demands}
use Rattle.checked_code.specs.Checking.{bundle_tables, check_demands}
use Rattle.bundle_laws.specs.Lemmas.Tables.{tables_fit}
use Rattle.bundle_facts.specs.Lemmas.Accepted as facts
use Rattle.typed_heap.specs.Objects.{HeapObject}
use Rattle.typed_heap.specs.Laws.{ObjectFits, KeepsLeaves}
use Rattle.typed_heap.specs.Lemmas.Fitted.{some_and, scalar_grows}
use Rattle.hail_load.specs.Code.{Code, code_of}
use Rattle.hail_load.specs.Lemmas.Knowing.{is_known}
use Rattle.mu_model.specs.Types.{type_graph}
use Rattle.mu_model.specs.Run.{Setting, global_objects}
use Rattle.typed_programs.specs.Laws.{SettingFits}
use Rattle.typed_programs.specs.Lemmas.Running.{plain_fits}
use Rattle.loaded_programs.specs.Laws.{LoadedSettingFits, ScriptsBeginWithGlobals, LoadedSettingsFit}
use Rattle.loaded_programs.proofs.Scripts.{scripted_fits}
use Rattle.loaded_programs.proofs.Globals.{begins_with_globals}
use Rattle.loaded_programs.proofs.Sources.{Lawful, world_of}
use Rattle.loaded_programs.proofs.Loading.{IsSound, grown, load_sound}

lawful : (bundle : List Item) → first_unmet (name_demands bundle) ≡ None → first_unmet (check_demands bundle) ≡ None → Lawful (code_of bundle)
lawful bundle names checked = record {
  graph = (tables_fit bundle names checked).graph;
  leaves = facts.leaves_of_classes bundle names checked;
  constants = λ n d e w. facts.constant_values_fit bundle names checked n d e w;
}

keeps_all : (os : List HeapObject) → KeepsLeaves os os
keeps_all os n o e = some_and (λ (p : HeapObject). p.leaves ≡ o.leaves) (slice_get os n) o e refl

first_sound : (c : Code) (os : List HeapObject) (cells : ℕ) → All (ObjectFits c.graph (world_of c os)) os → IsSound c os (record { objects = os; left = cells; made = [] })
first_sound c os cells fit = record { objects = fit; keeps = keeps_all os; made = λ name m e. cc }

pub loaded_setting_fits : (bundle : List Item) → first_unmet (name_demands bundle) ≡ None → first_unmet (check_demands bundle) ≡ None → LoadedSettingFits bundle
loaded_setting_fits bundle names checked s commands cells same scripted =
    let c = code_of bundle in
    let p = bundle_tables bundle in
    let base : List HeapObject = global_objects p in
    let alone : Setting = record s { objects = base; client = record { entries = []; auto = false } } in
    let plain : SettingFits bundle alone = plain_fits bundle names checked alone (record { objects = refl; entries = refl }) in
    let sound = load_sound c (lawful bundle names checked) (is_known bundle checked) base (begins_with_globals bundle names checked) (record { objects = base; left = cells; made = [] }) commands
    (first_sound c base cells plain.objects) in
    let keeps : KeepsLeaves base s.objects = subst (KeepsLeaves base) (sym same) sound.keeps in
    record {
      globals = record {
        functions = refl;
        places = λ n d e. scalar_grows (type_graph p) (world_of c base) (world_of c s.objects) d (Place n 0) (grown c base s.objects keeps) (plain.globals.places n d e);
      };
      objects = subst (λ (os : List HeapObject). All (ObjectFits (type_graph p) (world_of c os)) os) (sym same) sound.objects;
      client = scripted_fits bundle names checked s.client scripted;
    }

pub scripts_begin_with_globals : ScriptsBeginWithGlobals
scripts_begin_with_globals bundle names checked = begins_with_globals bundle names checked

pub loaded_settings_fit : LoadedSettingsFit
loaded_settings_fit bytes bundle read names checked = loaded_setting_fits bundle names checked
