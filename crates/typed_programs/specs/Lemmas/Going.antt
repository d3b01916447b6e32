-- Instructions that say where the function goes on do what fits.
use Rattle.std.proofs.Common.{◌≡◌, ◌<◌, ◌^◌, nat_eq, ℕ, Bool, true, false, List, [], ◌∷◌, Option, Some, map, slice_get, if◌then◌else◌, refl, sym, ◌∙◌, ap, subst, arith}
use Rattle.ir_tree.specs.declared.items.Item.{Item}
use Rattle.type_definitions.specs.declared.definition.TypeDef.{TypeDef}
use Rattle.type_definitions.specs.declared.definition.TypeDef.TheVariants as types
use Rattle.mu_values.specs.declared.scalars.Scalar.{Scalar}
use Rattle.mu_values.specs.declared.scalars.Scalar.TheVariants.{Null, Func}
use Rattle.mu_values.specs.SameScalar.{same_scalar}
use Rattle.check_tables.specs.Types.{int1, ref_void}
use Rattle.check_tables.specs.declared.tables.Signature.{Signature}
use Rattle.checked_code.specs.Checking.{bundle_tables}
use Rattle.checked_code.specs.Functions.{body_of}
use Rattle.checked_code.specs.declared.code.Source.TheVariants as sources
use Rattle.checked_code.specs.declared.code.Target.{Target}
use Rattle.checked_code.specs.declared.code.CaseForm.{CaseForm}
use Rattle.checked_code.specs.declared.code.ControlForm.{ControlForm}
use Rattle.checked_code.specs.declared.code.ControlForm.TheVariants as going
use Rattle.bundle_laws.specs.Typed.{NormalFits, CasesFit, ControlFits, control_form_ends}
use Rattle.typed_heap.specs.Fits.{DefinitionFits, ScalarFits}
use Rattle.frames.specs.Activations.{Value}
use Rattle.mu_model.specs.Acts as acts
use Rattle.mu_model.specs.Acts.{Act}
use Rattle.mu_model.specs.Operands.{scalar_in, bits_in}
use Rattle.mu_model.specs.ControlForms.{branch_act, first_equal, function_act}
use Rattle.model_laws.specs.Values.{ValuesFit}
use Rattle.model_laws.specs.Places.{IsScalarClass, GoalFits}
use Rattle.model_laws.specs.Lemmas.Basics.{and_then}
use Rattle.model_numbers.specs.Sources.{value_at, values_at, classes_at, goal_at}
use Rattle.model_numbers.specs.Numbered.{numbered}
use Rattle.model_numbers.specs.Forms.{arm_at, control_at}
use Rattle.bundle_facts.specs.Lemmas.Accepted as facts
use Rattle.typed_programs.specs.PlacesOf.{places_of}
use Rattle.typed_programs.specs.Lemmas.Blocks.{Standing}
use Rattle.typed_programs.specs.Lemmas.Classes.{int_class}
use Rattle.typed_programs.specs.Lemmas.Sources.{graph_of, Moment, sources_fit, one_scalar, scalar_of, bits_fit, classes_fit}
use Rattle.typed_programs.specs.Lemmas.Computing.{DoesFit, GivesAt, known_then}
use Rattle.typed_programs.specs.Lemmas.Goals.{near, goal_fits, results_are}
use Rattle.typed_programs.specs.Lemmas.Calling.{IsCalleeOf, callee_fits}

module _ (bundle : List Item) (r : Moment bundle) (block at : ℕ) (here : Standing bundle block) where
  -- what the function of the block gives
  abbrev pub returns : List ℕ
  returns = (body_of (bundle_tables bundle) here.first here.definition).gives

  pub branch_fits : (g : Target) → NormalFits (bundle_tables bundle) (near bundle r block here) r.classes g → DoesFit bundle r.world block at (branch_act (goal_at bundle r.values g))
  branch_fits g h = and_then (goal_at bundle r.values g) _ (GoalFits (numbered bundle) (places_of bundle) r.world block) _ (goal_fits bundle r block here g h) (λ x k. k)

  either : (t : Bool) (x y : Option Act) → DoesFit bundle r.world block at x → DoesFit bundle r.world block at y → DoesFit bundle r.world block at (if t then x else y)
  either true x y h k = h
  either false x y h k = k

  -- each constant is an integer; the first case that is equal, else the default
  arms_fit : (c : ℕ) (d : TypeDef) → IsScalarClass (bundle_tables bundle) c d → (s : Scalar) (g : Target) (xs : List CaseForm) → NormalFits (bundle_tables bundle) (near bundle r block here) r.classes g →
      CasesFit (bundle_tables bundle) (near bundle r block here) r.classes c xs → DoesFit bundle r.world block at (first_equal s (goal_at bundle r.values g) (map (arm_at bundle r.values) xs))
  arms_fit c d k s g [] h hs = branch_fits g h
  arms_fit c d k s g (x ∷ xs) h hs =
      and_then (scalar_in (value_at bundle r.values (sources.Constant x.constant))) _ (DefinitionFits (graph_of bundle) r.world d) _ (one_scalar bundle r c d (sources.Constant x.constant) k hs.0.0) (λ y hy.
      either (same_scalar s y) _ _ (branch_fits x.target hs.0.1) (arms_fit c d k s g xs h hs.1))

  called : (f : Scalar) (z : Signature) (us : List Value) → IsCalleeOf bundle z f → ValuesFit (graph_of bundle) r.world z.takes us → GivesAt bundle block at z.gives →
      DoesFit bundle r.world block at (function_act (λ n. acts.Calls n us) f)
  called (Func n) z us h hu gives = (subst (λ cs. ValuesFit (graph_of bundle) r.world cs us) (sym h.takes) hu, gives ∙ ap (λ cs. Some cs) (sym h.gives), h.there)
  called Null z us h hu gives = tt
  called _ z us h hu gives = absurd h

  replaced : (f : Scalar) (z : Signature) (us : List Value) → IsCalleeOf bundle z f → ValuesFit (graph_of bundle) r.world z.takes us → z.gives ≡ returns →
      DoesFit bundle r.world block at (function_act (λ n. acts.Replaces n us) f)
  replaced (Func n) z us h hu same = (subst (λ cs. ValuesFit (graph_of bundle) r.world cs us) (sym h.takes) hu, h.gives ∙ same ∙ sym (results_are bundle block here), h.there)
  replaced Null z us h hu same = tt
  replaced _ z us h hu same = absurd h

  -- those of an instruction that goes on are among those that the place gives
  pub control_fits : (kinds : List ℕ) (f : ControlForm) (gs : List ℕ) → ((n c : ℕ) → slice_get r.classes n ≡ Some c → slice_get kinds n ≡ Some c) →
      ControlFits (bundle_tables bundle) (near bundle r block here) returns r.classes f gs → (control_form_ends f ≡ false → GivesAt bundle block at gs) →
      DoesFit bundle r.world block at (control_at bundle kinds r.values f)
  control_fits kinds (going.Branch g) gs more h gives = branch_fits g h.0
  control_fits kinds (going.Branch2 s g o) gs more h gives =
      and_then (bits_in (Some 1) (value_at bundle r.values s)) _ (λ n. n < 2 ^ 1) _
      (bits_fit bundle r (int1 (bundle_tables bundle).types) 1 s (facts.types_are_there bundle r.names r.checked).int1 (omega arith) (omega arith) h.0) (λ n low.
      either (nat_eq n 1) _ _ (branch_fits g h.1) (branch_fits o h.2))
  control_fits kinds (going.Switch c a g xs) gs more h gives =
      let k = int_class bundle r.names r.checked c h.0 in
      and_then (scalar_in (value_at bundle r.values a)) _ (DefinitionFits (graph_of bundle) r.world (types.Int k.width)) _ (one_scalar bundle r c (types.Int k.width) a k.wide.class h.1) (λ s hs.
      arms_fit c (types.Int k.width) k.wide.class s g xs h.2 h.3)
  control_fits kinds (going.Call c f vs) gs more h gives =
      and_then (scalar_in (value_at bundle r.values f)) _ (IsCalleeOf bundle h.0.entry) _ (callee_fits bundle r c f h.0 h.1) (λ x hx.
      and_then (values_at bundle r.values vs) _ (ValuesFit (graph_of bundle) r.world h.0.entry.takes) _ (sources_fit bundle r vs h.0.entry.takes h.2) (λ us hu.
      called x h.0.entry us hx hu (gives refl ∙ ap (λ cs. Some cs) h.3)))
  control_fits kinds (going.Tailcall c f vs) gs more h gives =
      and_then (scalar_in (value_at bundle r.values f)) _ (IsCalleeOf bundle h.0.entry) _ (callee_fits bundle r c f h.0 h.2) (λ x hx.
      and_then (values_at bundle r.values vs) _ (ValuesFit (graph_of bundle) r.world h.0.entry.takes) _ (sources_fit bundle r vs h.0.entry.takes h.3) (λ us hu.
      replaced x h.0.entry us hx hu h.1))
  control_fits kinds (going.Ret vs) gs more h gives =
      known_then (classes_at (bundle_tables bundle) kinds vs) returns _ _ (classes_fit bundle r kinds vs returns more h.0)
      (and_then (values_at bundle r.values vs) _ (ValuesFit (graph_of bundle) r.world returns) _ (sources_fit bundle r vs returns h.0) (λ us hu.
      (sym (results_are bundle block here), subst (λ cs. ValuesFit (graph_of bundle) r.world cs us) (sym (results_are bundle block here)) hu)))
  control_fits kinds (going.Throw s) gs more h gives =
      let void = (facts.types_are_there bundle r.names r.checked) in
      and_then (scalar_in (value_at bundle r.values s)) _ (ScalarFits (graph_of bundle) r.world (ref_void (bundle_tables bundle).types)) _
      (scalar_of bundle r (ref_void (bundle_tables bundle).types) (types.Ref void.target) s void.ref_void h.0) (λ x hx. hx)
