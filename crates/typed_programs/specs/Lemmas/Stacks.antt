-- Instructions that ask the client, that enter stacks, and those under names do what fits.
use Rattle.std.proofs.Common.{◌≡◌, ◌||◌, ℕ, Bool, true, false, not, List, [], ◌∷◌, Option, Some, None, IsSomeAnd, option_map, refl, ◌∙◌, ap}
use Rattle.ir_tree.specs.declared.items.Item.{Item}
use Rattle.type_definitions.specs.declared.definition.TypeDef.TheVariants as types
use Rattle.mu_values.specs.declared.scalars.Scalar.{Scalar}
use Rattle.mu_values.specs.declared.scalars.Scalar.TheVariants.{Null, Func}
use Rattle.check_tables.specs.Types.{stackref, ref_void}
use Rattle.check_tables.specs.declared.tables.Signature.{Signature}
use Rattle.checked_code.specs.Checking.{bundle_tables}
use Rattle.checked_code.specs.declared.code.Source.{Source}
use Rattle.checked_code.specs.declared.code.Entered.{Entered}
use Rattle.checked_code.specs.declared.code.Entered.TheVariants as entered
use Rattle.checked_code.specs.declared.code.TrappingForm.{TrappingForm}
use Rattle.checked_code.specs.declared.code.TrappingForm.TheVariants as asking
use Rattle.checked_code.specs.declared.code.SwitchForm.{SwitchForm}
use Rattle.checked_code.specs.declared.code.SwitchForm.TheVariants as switching
use Rattle.checked_code.specs.declared.code.CommonForm.{CommonForm}
use Rattle.checked_code.specs.declared.code.CommonForm.TheVariants as commons
use Rattle.bundle_laws.specs.Typed.{SourceFits, OptionalFits, TrappingFits, EnteredFits, SwitchFits, CommonFits, trapping_exits, trapping_form_ends, switch_form_ends, common_form_ends}
use Rattle.typed_heap.specs.Fits.{DefinitionFits, ScalarFits}
use Rattle.mu_model.specs.Acts as acts
use Rattle.mu_model.specs.Acts.{Act, Entering}
use Rattle.mu_model.specs.Operands.{scalar_in}
use Rattle.mu_model.specs.ControlForms.{function_act}
use Rattle.mu_model.specs.StackForms.{own_object}
use Rattle.model_laws.specs.Values.{ValuesFit}
use Rattle.model_laws.specs.Places.{GoalFits}
use Rattle.model_laws.specs.ActsFit.{EnteringFits, StackFitsIn}
use Rattle.model_laws.specs.Lemmas.Basics.{some_is, and_then}
use Rattle.model_numbers.specs.Sources.{value_at, values_at, goal_at, entering_at}
use Rattle.model_numbers.specs.Numbered.{numbered}
use Rattle.model_numbers.specs.Forms.{trapping_at, switch_at, common_at}
use Rattle.bundle_facts.specs.Lemmas.Accepted as facts
use Rattle.typed_programs.specs.PlacesOf.{places_of}
use Rattle.typed_programs.specs.Lemmas.Blocks.{Standing}
use Rattle.typed_programs.specs.Lemmas.Sources.{graph_of, Moment, sources_fit, scalar_of}
use Rattle.typed_programs.specs.Lemmas.Computing.{DoesFit, GivesAt}
use Rattle.typed_programs.specs.Lemmas.Goals.{near, goal_fits}
use Rattle.typed_programs.specs.Lemmas.Calling.{IsCalleeOf, callee_fits}
use Rattle.typed_programs.specs.Lemmas.Memory.{wait_fits, timed_wait_fits, wake_fits}

module _ (bundle : List Item) (r : Moment bundle) (block at : ℕ) (here : Standing bundle block) where
  pub trapping_fits : (f : TrappingForm) (gs : List ℕ) (normal exceptional : Bool) → TrappingFits (bundle_tables bundle) (near bundle r block here) r.classes f gs →
      trapping_exits f normal exceptional ≡ true → ((not (trapping_form_ends f) || normal) ≡ true → GivesAt bundle block at gs) → DoesFit bundle r.world block at (trapping_at bundle r.values f)
  trapping_fits (asking.Trap cs) gs normal exceptional h told gives = gives refl ∙ ap (λ cs. Some cs) h.1
  trapping_fits (asking.Watchpoint n cs g) gs normal exceptional h told gives =
      and_then (goal_at bundle r.values g) _ (GoalFits (numbered bundle) (places_of bundle) r.world block) _ (goal_fits bundle r block here g h.2) (λ x hx.
      (gives told ∙ ap (λ cs. Some cs) h.3, hx))
  trapping_fits (asking.Wpbranch n g o) gs normal exceptional h told gives =
      and_then (goal_at bundle r.values g) _ (GoalFits (numbered bundle) (places_of bundle) r.world block) _ (goal_fits bundle r block here g h.1) (λ x hx.
      and_then (goal_at bundle r.values o) _ (GoalFits (numbered bundle) (places_of bundle) r.world block) _ (goal_fits bundle r block here o h.2) (λ y hy. (hx, hy)))

  -- ---- what is entered

  stack_of : (s : Source) → SourceFits (bundle_tables bundle) r.classes s (stackref (bundle_tables bundle).types) → IsSomeAnd (scalar_in (value_at bundle r.values s)) (StackFitsIn (bundle_tables bundle) r.world)
  stack_of s h = scalar_of bundle r (stackref (bundle_tables bundle).types) types.StackRef s (facts.types_are_there bundle r.names r.checked).stackref h

  void_of : (s : Source) → SourceFits (bundle_tables bundle) r.classes s (ref_void (bundle_tables bundle).types) →
      IsSomeAnd (scalar_in (value_at bundle r.values s)) (ScalarFits (graph_of bundle) r.world (ref_void (bundle_tables bundle).types))
  void_of s h = let there = facts.types_are_there bundle r.names r.checked in scalar_of bundle r (ref_void (bundle_tables bundle).types) (types.Ref there.target) s there.ref_void h

  entering_fits : (e : Entered) → EnteredFits (bundle_tables bundle) r.classes e → IsSomeAnd (entering_at bundle r.values e) (EnteringFits (bundle_tables bundle) r.world)
  entering_fits (entered.Values cs ss) h = and_then (values_at bundle r.values ss) _ (ValuesFit (graph_of bundle) r.world cs) _ (sources_fit bundle r ss cs h.1) (λ vs hv. hv)
  entering_fits (entered.Exception s) h = and_then (scalar_in (value_at bundle r.values s)) _ (ScalarFits (graph_of bundle) r.world (ref_void (bundle_tables bundle).types)) _ (void_of s h) (λ x hx. hx)

  own_fits : (o : Option Source) → OptionalFits (bundle_tables bundle) r.classes o (ref_void (bundle_tables bundle).types) →
      IsSomeAnd (own_object (option_map (value_at bundle r.values) o)) (ScalarFits (graph_of bundle) r.world (ref_void (bundle_tables bundle).types))
  own_fits None h = let there = facts.types_are_there bundle r.names r.checked in some_is _ (λ d. DefinitionFits (graph_of bundle) r.world d Null) (types.Ref there.target) there.ref_void.definition tt
  own_fits (Some s) h = void_of s h

  pub switch_fits : (f : SwitchForm) (gs : List ℕ) → SwitchFits (bundle_tables bundle) r.classes f gs → (switch_form_ends f ≡ false → GivesAt bundle block at gs) →
      DoesFit bundle r.world block at (switch_at bundle r.values f)
  switch_fits (switching.SwapReturning s cs e) gs h gives =
      and_then (scalar_in (value_at bundle r.values s)) _ (StackFitsIn (bundle_tables bundle) r.world) _ (stack_of s h.0) (λ x hx.
      and_then (entering_at bundle r.values e) _ (EnteringFits (bundle_tables bundle) r.world) _ (entering_fits e h.2) (λ y hy. (hx, gives refl ∙ ap (λ cs. Some cs) h.3, hy)))
  switch_fits (switching.SwapKilling s e) gs h gives =
      and_then (scalar_in (value_at bundle r.values s)) _ (StackFitsIn (bundle_tables bundle) r.world) _ (stack_of s h.0) (λ x hx.
      and_then (entering_at bundle r.values e) _ (EnteringFits (bundle_tables bundle) r.world) _ (entering_fits e h.1) (λ y hy. (hx, hy)))
  switch_fits (switching.Newthread s o e) gs h gives =
      and_then (own_object (option_map (value_at bundle r.values) o)) _ (ScalarFits (graph_of bundle) r.world (ref_void (bundle_tables bundle).types)) _ (own_fits o h.1) (λ own howned.
      and_then (scalar_in (value_at bundle r.values s)) _ (StackFitsIn (bundle_tables bundle) r.world) _ (stack_of s h.0) (λ x hx.
      and_then (entering_at bundle r.values e) _ (EnteringFits (bundle_tables bundle) r.world) _ (entering_fits e h.2) (λ y hy. (hx, howned, hy, gives refl ∙ ap (λ cs. Some cs) h.3))))

  -- ---- instructions under names

  made_of : (z : Signature) (x : Scalar) → IsCalleeOf bundle z x → GivesAt bundle block at (stackref (bundle_tables bundle).types ∷ []) → DoesFit bundle r.world block at (function_act acts.MakesStack x)
  made_of z Null h gives = tt
  made_of z (Func f) h gives = (gives, h.there)
  made_of z _ h gives = absurd h

  pub common_fits : (f : CommonForm) (gs : List ℕ) → CommonFits (bundle_tables bundle) r.classes f gs → (common_form_ends f ≡ false → GivesAt bundle block at gs) →
      DoesFit bundle r.world block at (common_at bundle r.values f)
  common_fits (commons.NewStack c f) gs h gives =
      and_then (scalar_in (value_at bundle r.values f)) _ (IsCalleeOf bundle h.0.entry) _ (callee_fits bundle r c f h.0 h.1) (λ x hx. made_of h.0.entry x hx (gives refl ∙ ap (λ cs. Some cs) h.2))
  common_fits (commons.KillStack s) gs h gives =
      and_then (scalar_in (value_at bundle r.values s)) _ (StackFitsIn (bundle_tables bundle) r.world) _ (stack_of s h.0) (λ x hx. (hx, gives refl ∙ ap (λ cs. Some cs) h.1))
  common_fits commons.ThreadExit gs h gives = tt
  common_fits commons.CurrentStack gs h gives = gives refl ∙ ap (λ cs. Some cs) h
  common_fits (commons.SetThreadlocal s) gs h gives =
      and_then (scalar_in (value_at bundle r.values s)) _ (ScalarFits (graph_of bundle) r.world (ref_void (bundle_tables bundle).types)) _ (void_of s h.0) (λ x hx. (hx, gives refl ∙ ap (λ cs. Some cs) h.1))
  common_fits commons.GetThreadlocal gs h gives = gives refl ∙ ap (λ cs. Some cs) h
  common_fits (commons.FutexWait c l v) gs h gives = wait_fits bundle r block at false c l v gs h.0 h.1 h.2 h.3 (gives refl)
  common_fits (commons.FutexWaitTimeout c l v n) gs h gives = timed_wait_fits bundle r block at c l v n gs h.0 h.1 h.2 h.3 h.4 (gives refl)
  common_fits (commons.FutexWake c l n) gs h gives = wake_fits bundle r block at c l n gs h.0 h.1 h.2 h.3 (gives refl)
