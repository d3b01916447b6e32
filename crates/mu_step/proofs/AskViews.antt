-- Lemmas of what an instruction asks, over the view of a state and its parts.
use Rattle.std.proofs.Common.{◌≡◌, ◌≢◌, ℕ, ◌<◌, List, None, Some, IsSome, Result, Ok, Err, IfOk, length, slice_get, slice_index_or, sym, ◌∙◌, ap, subst}
use Rattle.ir_tree.specs.declared.items.Item.{Item}
use Rattle.checked_code.specs.declared.code.Code.{Code}
use Rattle.checked_code.specs.declared.blocks.BlockCode.{BlockCode}
use Rattle.checked_code.specs.Checking.{bundle_tables, bundle_blocks, check_demands}
use Rattle.bundle_names.specs.Naming.{name_demands}
use Rattle.demands.specs.Demands.{first_unmet}
use Rattle.frames.specs.Activations.{Value, Activation}
use Rattle.typed_heap.specs.Places.{with_some}
use Rattle.mu_model.specs.Acts.{Act, Doing}
use Rattle.mu_model.specs.Outcomes.{Stuck}
use Rattle.model_numbers.specs.Forms.{act_at}
use Rattle.step_forms.specs.Classes.{FormIsThere, FormsAreThere}
use Rattle.run_state.specs.Held.{Held}
use Rattle.run_state.specs.Acting.{acting, stepping}
use Rattle.memory_acts.specs.Counting.{act_of}
use Rattle.run_state.specs.StepLaws.{GoesOn, step_stands, step_acts, doing_is}
use Rattle.run_state.specs.ActViews.{there_by}

-- ---- what an instruction asks

pub record AsksAt (bundle : List Item) (s : Held) (f : Activation) (b : BlockCode) (i : Code) : Type 0 where
  pub there : slice_get b.code f.at ≡ Some i
  pub asks : IsSome (act_at bundle b.classes f.vars i.form)
  pub acts : (a : Act) → act_at bundle b.classes f.vars i.form ≡ Some a → stepping bundle s ≡ acting bundle s a
  pub does : act_of bundle s ≡ act_at bundle b.classes f.vars i.form

asks_there : (bundle : List Item) (s : Held) (b : BlockCode) (xs : List Code) (i : Code) → GoesOn s → stepping bundle s ≢ Stuck
    → slice_get (bundle_blocks bundle) s.frames.top.block ≡ Some b → xs ≡ b.code → i ≡ slice_index_or xs s.frames.top.at i → AsksAt bundle s s.frames.top b i
asks_there bundle s b xs i waits h there listed is =
    let q = step_stands bundle s waits h in
    let f = s.frames.top in
    let same : q.0 ≡ b = let found = q.1 in cc in
    let within : f.at < length b.code = subst (λ (b : BlockCode). f.at < length b.code) same q.6 in
    let here : slice_get b.code f.at ≡ Some i = there_by b.code f.at i within (subst (λ xs. i ≡ slice_index_or xs f.at i) listed is) in
    let code : q.2 ≡ i = let found = subst (λ (b : BlockCode). slice_get b.code f.at ≡ Some q.2) same q.3 in cc in
    record {
      there = here;
      asks = subst (λ (i : Code). IsSome (act_at bundle b.classes f.vars i.form)) code (subst (λ (b : BlockCode). IsSome (act_at bundle b.classes f.vars q.2.form)) same q.4);
      acts = λ a asked. step_acts bundle s b i a waits there here asked;
      does = ap (λ o. with_some o (λ (d : Doing). d.act)) (doing_is bundle f b i there here);
    }

pub asks_at : (bundle : List Item) (s v : Held) (f : Activation) (b : BlockCode) (xs : List Code) (i : Code) → v ≡ s → f ≡ v.frames.top → GoesOn s → stepping bundle s ≢ Stuck
    → slice_get (bundle_blocks bundle) f.block ≡ Some b → xs ≡ b.code → i ≡ slice_index_or xs f.at i → AsksAt bundle s f b i
asks_at bundle s v f b xs i view e waits h there listed is =
    let at : s.frames.top ≡ f = sym (e ∙ ap (λ (x : Held). x.frames.top) view) in
    subst (λ f. slice_get (bundle_blocks bundle) f.block ≡ Some b → i ≡ slice_index_or xs f.at i → AsksAt bundle s f b i) at (λ there is. asks_there bundle s b xs i waits h there listed is) there is

pub asks_classes : (bundle : List Item) (s : Held) (f : Activation) (b : BlockCode) (i j : Code) → FormsAreThere → first_unmet (name_demands bundle) ≡ None → first_unmet (check_demands bundle) ≡ None
    → slice_get (bundle_blocks bundle) f.block ≡ Some b → AsksAt bundle s f b i → i ≡ j → FormIsThere (bundle_tables bundle).types.definitions j.form
asks_classes bundle s f b i j forms are met there at same = subst (λ (i : Code). FormIsThere (bundle_tables bundle).types.definitions i.form) same (forms bundle are met f.block f.at b i there at.there)

pub asks_same : (bundle : List Item) (s : Held) (f : Activation) (b : BlockCode) (i j : Code) (cs : List ℕ) (vs : List Value) → AsksAt bundle s f b i → i ≡ j → cs ≡ b.classes → vs ≡ f.vars → IsSome (act_at bundle cs vs j.form)
asks_same bundle s f b i j cs vs at same classes vars = subst (λ (j : Code). IsSome (act_at bundle cs vs j.form)) same (subst (λ cs. IsSome (act_at bundle cs vs i.form)) (sym classes) (subst (λ vs. IsSome (act_at bundle b.classes vs i.form)) (sym vars) at.asks))

pub asked_so : {A E : Type 0} (bundle : List Item) (s : Held) (f : Activation) (b : BlockCode) (i j : Code) (cs : List ℕ) (vs : List Value) (r : Result A E) (act : A → Act) → AsksAt bundle s f b i → i ≡ j → cs ≡ b.classes → vs ≡ f.vars
    → IfOk r (λ a. act_at bundle cs vs j.form ≡ Some (act a)) → IfOk r (λ a. stepping bundle s ≡ acting bundle s (act a))
asked_so bundle s f b i j cs vs (Ok a) act at same classes vars h =
    at.acts (act a) (ap (λ cs. act_at bundle cs f.vars i.form) (sym classes) ∙ ap (λ vs. act_at bundle cs vs i.form) (sym vars) ∙ ap (λ (i : Code). act_at bundle cs vs i.form) same ∙ h)
asked_so bundle s f b i j cs vs (Err e) act at same classes vars h = tt

pub act_so : {A E : Type 0} (bundle : List Item) (s : Held) (f : Activation) (b : BlockCode) (i j : Code) (cs : List ℕ) (vs : List Value) (r : Result A E) (act : A → Act) → AsksAt bundle s f b i → i ≡ j → cs ≡ b.classes → vs ≡ f.vars
    → IfOk r (λ a. act_at bundle cs vs j.form ≡ Some (act a)) → IfOk r (λ a. act_of bundle s ≡ Some (act a))
act_so bundle s f b i j cs vs (Ok a) act at same classes vars h =
    at.does ∙ ap (λ cs. act_at bundle cs f.vars i.form) (sym classes) ∙ ap (λ vs. act_at bundle cs vs i.form) (sym vars) ∙ ap (λ (i : Code). act_at bundle cs vs i.form) same ∙ h
act_so bundle s f b i j cs vs (Err e) act at same classes vars h = tt
