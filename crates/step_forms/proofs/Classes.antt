-- The classes that acts name.
use Rattle.std.proofs.Common.{◌≡◌, ℕ, ◌<◌, Bool, true, false, List, [], ◌∷◌, Option, Some, None, Result, Ok, Err, length, subst, if◌then◌else◌}
use Rattle.std.proofs.lemmas.List.Elements.{All-nil, All-cons}
use Rattle.std.specs.Prelude.{slice_get, IfOk}
use Rattle.std.specs.declared.alloc.AllocError.{AllocError}
use Rattle.demands.specs.Demands.{first_unmet}
use Rattle.ir_tree.specs.declared.items.Item.{Item}
use Rattle.type_definitions.specs.declared.definition.TypeDef.{TypeDef}
use Rattle.mu_values.specs.declared.scalars.Scalar.{Scalar}
use Rattle.mu_values.specs.declared.scalars.Scalar.TheVariants as scalars
use Rattle.bundle_names.specs.Naming.{name_demands}
use Rattle.checked_code.specs.declared.code.ComputationForm.{ComputationForm}
use Rattle.checked_code.specs.declared.code.ComputationForm.TheVariants as computing
use Rattle.checked_code.specs.declared.code.ControlForm.{ControlForm}
use Rattle.checked_code.specs.declared.code.ControlForm.TheVariants as going
use Rattle.checked_code.specs.declared.code.AllocationForm.{AllocationForm}
use Rattle.checked_code.specs.declared.code.AllocationForm.TheVariants as making
use Rattle.checked_code.specs.declared.code.AddressingForm.{AddressingForm}
use Rattle.checked_code.specs.declared.code.AddressingForm.TheVariants as finding
use Rattle.checked_code.specs.declared.code.AccessForm.{AccessForm}
use Rattle.checked_code.specs.declared.code.AccessForm.TheVariants as accessing
use Rattle.checked_code.specs.declared.code.TrappingForm.{TrappingForm}
use Rattle.checked_code.specs.declared.code.TrappingForm.TheVariants as asking
use Rattle.checked_code.specs.declared.code.SwitchForm.{SwitchForm}
use Rattle.checked_code.specs.declared.code.SwitchForm.TheVariants as switching
use Rattle.checked_code.specs.declared.code.CommonForm.{CommonForm}
use Rattle.checked_code.specs.declared.code.CommonForm.TheVariants as commons
use Rattle.checked_code.specs.declared.code.Form.{Form}
use Rattle.checked_code.specs.declared.code.Form.TheVariants as forms
use Rattle.checked_code.specs.declared.code.Code.{Code}
use Rattle.bundle_laws.specs.Typed.{Blocks, HasType, HaveValueTypes, ComputationFits, AllocationFits, AddressingFits, TrappingFits, FormFits}
use Rattle.bundle_laws.specs.Lemmas.TypedEndings.{code_at}
use Rattle.checked_code.specs.declared.blocks.BlockCode.{BlockCode}
use Rattle.checked_code.specs.Functions.{body_of}
use Rattle.checked_code.specs.Checking.{bundle_tables, bundle_blocks, check_demands}
use Rattle.bundle_laws.specs.Accepted.{CodeOf, blocks_from, head_classes}
use Rattle.bundle_laws.specs.Lemmas.Numbered.{code_fits}
use Rattle.mu_values.specs.declared.cells.CellId.{CellId}
use Rattle.typed_heap.specs.Places.{with_some, Way, Field, Element, Shift, VarPart}
use Rattle.frames.specs.Activations.{Value, Goal}
use Rattle.mu_model.specs.Acts as acts
use Rattle.mu_model.specs.ComputationForms.{result_or_fault}
use Rattle.mu_model.specs.ControlForms.{Arm, branch_act, first_equal, function_act}
use Rattle.mu_model.specs.ObjectForms.{object_act}
use Rattle.mu_model.specs.AccessForms.{cell_act}
use Rattle.model_numbers.specs.Forms.{computation_at, control_at, allocation_at, addressing_at, access_at, trapping_at, switch_at, common_at, act_at}
use Rattle.bundle_facts.specs.Lemmas.Accepted.{classes_are_defined}
use Rattle.step_forms.specs.declared.act.Act.{Act}
use Rattle.step_forms.specs.declared.act.Act.TheVariants as made
use Rattle.step_forms.specs.declared.way.Way.TheVariants as ways
use Rattle.step_forms.specs.Asked.{Lists, asked}
use Rattle.step_forms.specs.Classes.{AreThere, ActIsThere, ComputationIsThere, AllocationIsThere, AddressingIsThere, TrappingIsThere, FormIsThere, FormsAreThere}

-- ---- acts of the abstract machine

abbrev class_found : Way → ℕ
class_found (Field c n) = c
class_found (Element c i) = c
class_found (Shift c i) = c
class_found (VarPart c) = c

abbrev IsThere : List TypeDef → acts.Act → Type 0
IsThere graph (acts.Casts c s) = c < length graph
IsThere graph (acts.Finds w s) = class_found w < length graph
IsThere graph (acts.Makes c) = c < length graph
IsThere graph (acts.MakesHybrid c n) = c < length graph
IsThere graph (acts.MakesOwn c) = c < length graph
IsThere graph (acts.Traps cs) = AreThere graph cs
IsThere graph (acts.Watches n cs g) = AreThere graph cs
IsThere graph _ = Unit {0}

-- where there is an act
abbrev AnyIsThere : List TypeDef → Option acts.Act → Type 0
AnyIsThere graph None = Unit {0}
AnyIsThere graph (Some a) = IsThere graph a

module _ (graph : List TypeDef) where
  behind : {A : Type 0} (o : Option A) (f : A → Option acts.Act) → ((a : A) → AnyIsThere graph (f a)) → AnyIsThere graph (with_some o f)
  behind None f h = tt
  behind (Some a) f h = h a

  either : (b : Bool) (p q : Option acts.Act) → AnyIsThere graph p → AnyIsThere graph q → AnyIsThere graph (if b then p else q)
  either true p q h k = h
  either false p q h k = k

  -- ---- forms

  result : (w : ℕ) (o : Option ℕ) → IsThere graph (result_or_fault w o)
  result w None = tt
  result w (Some n) = tt

  computation : (bundle : List Item) (vars : List Value) (f : ComputationForm) → ComputationIsThere graph f → AnyIsThere graph (computation_at bundle vars f)
  computation bundle vars (computing.Binary op c a b) h = search (behind, result)
  computation bundle vars (computing.Compare op c a b) h = search (behind, either)
  computation bundle vars (computing.Convert op c d a) h = search (behind, either)
  computation bundle vars (computing.Refcast c d a) h = search (behind, h)
  computation bundle vars (computing.Select c s a b) h = search (behind)
  computation bundle vars (computing.Extractvalue c n a) h = search (behind)
  computation bundle vars (computing.Insertvalue c n a b) h = search (behind)

  branch : (g : Option Goal) → AnyIsThere graph (branch_act g)
  branch g = search (behind)

  cases : (s : Scalar) (d : Option Goal) (ws : List Arm) → AnyIsThere graph (first_equal s d ws)
  cases s d [] = branch d
  cases s d (w ∷ ws) = let more = cases s d ws in search (behind, either, more)

  function : (act : ℕ → acts.Act) (s : Scalar) → ((n : ℕ) → IsThere graph (act n)) → AnyIsThere graph (function_act act s)
  function act (scalars.Func f) h = h f
  function act scalars.Null h = tt
  function act _ h = tt

  control : (bundle : List Item) (types : List ℕ) (vars : List Value) (f : ControlForm) → AnyIsThere graph (control_at bundle types vars f)
  control bundle types vars (going.Branch t) = search (behind)
  control bundle types vars (going.Branch2 c t u) = search (behind, either)
  control bundle types vars (going.Switch c a t cs) = search (behind, cases)
  control bundle types vars (going.Call c f ss) = search (behind, function)
  control bundle types vars (going.Tailcall c f ss) = search (behind, function)
  control bundle types vars (going.Ret ss) = search (behind)
  control bundle types vars (going.Throw s) = search (behind)

  allocation : (bundle : List Item) (vars : List Value) (f : AllocationForm) → AllocationIsThere graph f → AnyIsThere graph (allocation_at bundle vars f)
  allocation bundle vars (making.New c) h = h
  allocation bundle vars (making.Newhybrid c d n) h = search (behind, h)
  allocation bundle vars (making.Alloca c) h = h

  object : (s : Scalar) → AnyIsThere graph (object_act s)
  object (scalars.Object n) = tt
  object scalars.Null = tt
  object _ = tt

  addressing : (bundle : List Item) (vars : List Value) (f : AddressingForm) → AddressingIsThere graph f → AnyIsThere graph (addressing_at bundle vars f)
  addressing bundle vars (finding.Getiref c r) h = search (behind, object)
  addressing bundle vars (finding.Getfieldiref c n l) h = search (behind, h)
  addressing bundle vars (finding.Getelemiref c d l x) h = search (behind, h)
  addressing bundle vars (finding.Shiftiref c d l x) h = search (behind, h)
  addressing bundle vars (finding.Getvarpartiref c l) h = search (behind, h)

  cell : (act : CellId → acts.Act) (s : Scalar) → ((at : CellId) → IsThere graph (act at)) → AnyIsThere graph (cell_act act s)
  cell act (scalars.Place o at) h = h (record { object = o; at = at })
  cell act scalars.Null h = tt
  cell act _ h = tt

  access : (bundle : List Item) (vars : List Value) (f : AccessForm) → AnyIsThere graph (access_at bundle vars f)
  access bundle vars (accessing.Load o c l) = search (behind, cell)
  access bundle vars (accessing.Store o c l a) = search (behind, cell)
  access bundle vars (accessing.Cmpxchg w o f c l a b) = search (behind, cell)
  access bundle vars (accessing.Atomicrmw o op c l a) = search (behind, cell)
  access bundle vars (accessing.Fence o) = tt

  trapping : (bundle : List Item) (vars : List Value) (f : TrappingForm) → TrappingIsThere graph f → AnyIsThere graph (trapping_at bundle vars f)
  trapping bundle vars (asking.Trap cs) h = h
  trapping bundle vars (asking.Watchpoint n cs t) h = search (behind, h)
  trapping bundle vars (asking.Wpbranch n t u) h = search (behind)

  switch : (bundle : List Item) (vars : List Value) (f : SwitchForm) → AnyIsThere graph (switch_at bundle vars f)
  switch bundle vars (switching.SwapReturning s cs e) = search (behind)
  switch bundle vars (switching.SwapKilling s e) = search (behind)
  switch bundle vars (switching.Newthread s o e) = search (behind)

  common : (bundle : List Item) (vars : List Value) (f : CommonForm) → AnyIsThere graph (common_at bundle vars f)
  common bundle vars (commons.NewStack c f) = search (behind, function)
  common bundle vars (commons.KillStack s) = search (behind)
  common bundle vars commons.ThreadExit = tt
  common bundle vars commons.CurrentStack = tt
  common bundle vars (commons.SetThreadlocal r) = search (behind)
  common bundle vars commons.GetThreadlocal = tt
  common bundle vars (commons.FutexWait c l v) = search (behind, cell)
  common bundle vars (commons.FutexWaitTimeout c l v n) = search (behind, cell)
  common bundle vars (commons.FutexWake c l n) = search (behind, cell)

  form : (bundle : List Item) (types : List ℕ) (vars : List Value) (f : Form) → FormIsThere graph f → AnyIsThere graph (act_at bundle types vars f)
  form bundle types vars (forms.Computation f) h = computation bundle vars f h
  form bundle types vars (forms.Control f) h = control bundle types vars f
  form bundle types vars (forms.Allocation f) h = allocation bundle vars f h
  form bundle types vars (forms.Addressing f) h = addressing bundle vars f h
  form bundle types vars (forms.Access f) h = access bundle vars f
  form bundle types vars (forms.Trapping f) h = trapping bundle vars f h
  form bundle types vars (forms.Switch f) h = switch bundle vars f
  form bundle types vars (forms.Common f) h = common bundle vars f

  -- ---- acts of the program

  of_asked : (act : Act) (ls : Lists) → IsThere graph (asked act ls) → ActIsThere graph ls act
  of_asked (made.Casts c s) ls h = h
  of_asked (made.Finds (ways.Field c n) s) ls h = h
  of_asked (made.Finds (ways.Element c i) s) ls h = h
  of_asked (made.Finds (ways.Shift c i) s) ls h = h
  of_asked (made.Finds (ways.VarPart c) s) ls h = h
  of_asked (made.Makes c) ls h = h
  of_asked (made.MakesHybrid c n) ls h = h
  of_asked (made.MakesOwn c) ls h = h
  of_asked made.Traps ls h = h
  of_asked (made.Watches n block) ls h = h
  of_asked _ ls h = tt

  pub act_is_there : (bundle : List Item) (types : List ℕ) (vars : List Value) (f : Form) (act : Act) (ls : Lists) → FormIsThere graph f →
      act_at bundle types vars f ≡ Some (asked act ls) → ActIsThere graph ls act
  act_is_there bundle types vars f act ls h e = of_asked act ls (subst (AnyIsThere graph) e (form bundle types vars f h))

  pub decided_is_there : (bundle : List Item) (types : List ℕ) (vars : List Value) (f : Form) (r : Result Act AllocError) (ls : Lists) → FormIsThere graph f →
      IfOk r (λ act. act_at bundle types vars f ≡ Some (asked act ls)) → IfOk r (ActIsThere graph ls)
  decided_is_there bundle types vars f (Ok act) ls h e = act_is_there bundle types vars f act ls h e
  decided_is_there bundle types vars f (Err fault) ls h e = tt

-- ---- instructions of accepted bundles

module _ (bundle : List Item) (named : first_unmet (name_demands bundle) ≡ None) (checked : first_unmet (check_demands bundle) ≡ None) where
  within : (test : Option TypeDef → Bool) (c : ℕ) → HasType (bundle_tables bundle) test c → c < length (bundle_tables bundle).types.definitions
  within test c h = (classes_are_defined bundle named checked h.number c h.class).class.within

  computation_fits : (ks : List ℕ) (f : ComputationForm) (gs : List ℕ) → ComputationFits (bundle_tables bundle) ks f gs → ComputationIsThere (bundle_tables bundle).types.definitions f
  computation_fits ks (computing.Refcast c d a) gs h = within _ d h.1
  computation_fits ks _ gs h = tt

  allocation_fits : (ks : List ℕ) (f : AllocationForm) (gs : List ℕ) → AllocationFits (bundle_tables bundle) ks f gs → AllocationIsThere (bundle_tables bundle).types.definitions f
  allocation_fits ks (making.New c) gs h = within _ c h.0
  allocation_fits ks (making.Newhybrid c d n) gs h = within _ c h.0
  allocation_fits ks (making.Alloca c) gs h = within _ c h.0

  addressing_fits : (ks : List ℕ) (f : AddressingForm) (gs : List ℕ) → AddressingFits (bundle_tables bundle) ks f gs → AddressingIsThere (bundle_tables bundle).types.definitions f
  addressing_fits ks (finding.Getiref c r) gs h = tt
  addressing_fits ks (finding.Getfieldiref c n l) gs h = within _ c h.0
  addressing_fits ks (finding.Getelemiref c d l x) gs h = within _ c h.0
  addressing_fits ks (finding.Shiftiref c d l x) gs h = within _ c h.0
  addressing_fits ks (finding.Getvarpartiref c l) gs h = within _ c h.0

  values_fit : (cs : List ℕ) → HaveValueTypes (bundle_tables bundle) cs → AreThere (bundle_tables bundle).types.definitions cs
  values_fit [] h = All-nil (λ c. c < length (bundle_tables bundle).types.definitions)
  values_fit (c ∷ cs) h = All-cons (λ c. c < length (bundle_tables bundle).types.definitions) c cs (classes_are_defined bundle named checked h.0.number c h.0.class).class.within (values_fit cs h.1)

  trapping_fits : (blocks : Blocks) (ks : List ℕ) (f : TrappingForm) (gs : List ℕ) → TrappingFits (bundle_tables bundle) blocks ks f gs → TrappingIsThere (bundle_tables bundle).types.definitions f
  trapping_fits blocks ks (asking.Trap cs) gs h = values_fit cs h.0
  trapping_fits blocks ks (asking.Watchpoint n cs t) gs h = values_fit cs h.1
  trapping_fits blocks ks (asking.Wpbranch n t u) gs h = tt

  form_fits : (blocks : Blocks) (returns ks : List ℕ) (f : Form) (gs : List ℕ) → FormFits (bundle_tables bundle) blocks returns ks f gs → FormIsThere (bundle_tables bundle).types.definitions f
  form_fits blocks returns ks (forms.Computation f) gs h = computation_fits ks f gs h
  form_fits blocks returns ks (forms.Allocation f) gs h = allocation_fits ks f gs h
  form_fits blocks returns ks (forms.Addressing f) gs h = addressing_fits ks f gs h
  form_fits blocks returns ks (forms.Trapping f) gs h = trapping_fits blocks ks f gs h
  form_fits blocks returns ks _ gs h = tt

  code_is_there : (n at : ℕ) (b : BlockCode) (code : Code) → slice_get (bundle_blocks bundle) n ≡ Some b → slice_get b.code at ≡ Some code →
      FormIsThere (bundle_tables bundle).types.definitions code.form
  code_is_there n at b code h k =
      let c : CodeOf (bundle_tables bundle) bundle (bundle_blocks bundle) n b = code_fits bundle named checked n b h in
      let x = code_at (bundle_tables bundle) (blocks_from (bundle_tables bundle) c.first c.definition.blocks) (body_of (bundle_tables bundle) c.first c.definition).gives (head_classes (bundle_tables bundle) c.block.head) b.code c.code.given at code c.code.codes k in
      form_fits _ _ _ code.form x.given x.fits.form

pub forms_are_there : FormsAreThere
forms_are_there = λ bundle named checked n at b code h k. code_is_there bundle named checked n at b code h k
