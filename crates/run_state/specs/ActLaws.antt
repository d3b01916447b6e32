-- Laws of the acts of one thread.
use Rattle.std.specs.Prelude.{◌≡◌, ◌≢◌, ℕ, zero, suc, ◌+◌, ◌<◌, Bool, true, false, List, [], ◌∷◌, ◌++◌, Option, Some, None, IsSome, IfSome, Result, Ok, Err, ok_or, is_some, length, slice_get, take, drop, fold, flat_map, refl}
use Rattle.std.proofs.Common.{sym, ◌∙◌, ap, subst, arith, add-one}
use Rattle.std.proofs.lemmas.List.{append-nil}
use Rattle.ir_tree.specs.declared.items.Item.{Item}
use Rattle.mu_values.specs.declared.scalars.Scalar.{Scalar}
use Rattle.mu_values.specs.declared.scalars.Scalar.TheVariants.{Null}
use Rattle.mu_values.specs.Slots.{TypedValues}
use Rattle.checked_code.specs.declared.code.Code.{Code}
use Rattle.checked_code.specs.declared.code.Target.{Target}
use Rattle.checked_code.specs.declared.blocks.BlockCode.{BlockCode}
use Rattle.checked_code.specs.declared.blocks.Function.{Function}
use Rattle.checked_code.specs.Checking.{bundle_blocks, bundle_functions, bundle_tables}
use Rattle.checked_code.specs.Answers.{code_at}
use Rattle.typed_heap.specs.Objects.{HeapObject, killed}
use Rattle.typed_heap.specs.Places.{with_some}
use Rattle.frames.specs.Activations.{Value, Goal, Activation}
use Rattle.frames.specs.Chains.{Chain, frames_of, nothing_kept, stands}
use Rattle.frames.specs.Handlers.{first_handler}
use Rattle.mu_model.specs.declared.lines.Line.{Line}
use Rattle.mu_model.specs.declared.lines.Line.TheVariants as lines
use Rattle.mu_model.specs.declared.lines.Note.{Note}
use Rattle.mu_model.specs.declared.lines.Note.TheVariants.{Returned, Exited}
use Rattle.mu_model.specs.declared.endings.StepEnd.TheVariants.{Went}
use Rattle.mu_model.specs.declared.endings.Case.{Case}
use Rattle.mu_model.specs.declared.endings.Ending.{Ending}
use Rattle.mu_model.specs.declared.endings.Case.TheVariants as cases
use Rattle.mu_model.specs.Types.{classes_given}
use Rattle.mu_model.specs.Configuration.{Active, Configuration}
use Rattle.mu_model.specs.Acts.{Act, Gives, Faults, Goes, Calls, Replaces, Returns, Throws, Exits, Doing, Program}
use Rattle.mu_model.specs.Turns.{Turn, waiting}
use Rattle.mu_model.specs.Frames.{called, passed, onward, arrived, caught, with_exception}
use Rattle.mu_model.specs.Changes.{changed, frames_end}
use Rattle.mu_model.specs.Outcomes.{Outcome, Next, End, Stuck, on, next, onto, excepted, faulted, refused, unless_refused, tried}
use Rattle.mu_model.specs.Exceptions.{EnteredFrames, body_or_case, finishes, returns, unwinding}
use Rattle.mu_model.specs.Step.{performed}
use Rattle.mu_model.specs.Programs.{some_goal}
use Rattle.model_numbers.specs.Sources.{goal_at}
use Rattle.model_numbers.specs.Numbered.{does_at, kept_at, optional_goal_at, numbered}
use Rattle.run_state.specs.Outcome.{outcome_of}
use Rattle.run_state.specs.Held.{Held, configuration}
use Rattle.run_state.specs.Acting.{begun, turn, doing_of, answers, went_on, acting, faulting, is_fault, undefined_at, goes_on, gets, entered, Awaited, with_awaited, awaited_by, awaits, awaited, entered_above, objects_end, thread_ended}
use Rattle.run_state.specs.StepLaws.{set_again, on_there, on_is, some_there, some_of, with_there, with_is, get_below, doing_at, doing_is, code_is, code_there, acting_there, acting_is}
use Rattle.run_state.specs.Unwinding.{Catches, catches_first, unwinds, uncaught}

-- ---- the frames that the thread goes on with

pub next_there : (c : Configuration) (u : Turn) (o : Option (List Activation)) → next c u o ≢ Stuck → (fs : List Activation) × (o ≡ Some fs)
next_there c u o h = let r = on_there o _ h in (r.0, r.1)

-- its objects are these
abbrev pub with_objects : Held → List HeapObject → Held
with_objects s os = record s { objects = os }

pub next_is : (s : Held) (d : Doing) (t : Activation) (bs : List Activation) (os : List HeapObject) (o : Option (List Activation)) → o ≡ Some (t ∷ bs)
    → next (begun (with_objects s os)) (turn s d) o ≡ went_on (record s { frames = record { top = t; below = bs }; objects = os })
unfolding on went_on
next_is s d t bs os o e =
    ap (λ o. next (begun (with_objects s os)) (turn s d) o) e
    ∙ ap (λ stacks. Next (record (begun (with_objects s os)) { stacks = stacks })) (set_again s.seats.stacks s.stack (Active s.thread (frames_of s.frames)) (Active s.thread (t ∷ bs)))

pub onto_is : (u : Turn) (o : Option Activation) (t : Activation) → o ≡ Some t → with_some o (onto u) ≡ Some (t ∷ u.below)
onto_is u o t e = ap (λ x. with_some x (onto u)) e

pub onto_there : (u : Turn) (o : Option Activation) (fs : List Activation) → with_some o (onto u) ≡ Some fs → IsSome o
onto_there u None fs h = cc
onto_there u (Some t) fs h = refl

-- ---- results

pub given_there : (bundle : List Item) (s : Held) (vs : List Value) → acting bundle s (Gives vs) ≢ Stuck → IsSome (goes_on bundle s.frames.top vs)
unfolding goes_on
given_there bundle s vs h =
    let r = acting_there bundle s (Gives vs) h in
    let n = next_there (begun s) (turn s r.0) (with_some (passed (numbered bundle) s.frames.top vs) (onto (turn s r.0))) r.2 in
    onto_there (turn s r.0) (passed (numbered bundle) s.frames.top vs) n.0 n.1

pub given_is : (bundle : List Item) (s : Held) (vs : List Value) (f : Activation) → acting bundle s (Gives vs) ≢ Stuck → goes_on bundle s.frames.top vs ≡ Some f
    → acting bundle s (Gives vs) ≡ went_on (record s { frames = record s.frames { top = f } })
unfolding goes_on
given_is bundle s vs f h e =
    let r = acting_there bundle s (Gives vs) h in
    acting_is bundle s (Gives vs) r.0 r.1
    ∙ next_is s r.0 f s.frames.below s.objects (with_some (passed (numbered bundle) s.frames.top vs) (onto (turn s r.0))) (onto_is (turn s r.0) (passed (numbered bundle) s.frames.top vs) f e)

-- ---- where a frame goes on

pub goes_on_fresh : (bundle : List Item) (f : Activation) (vs : List Value) → f.fresh ≡ true → goes_on bundle f vs ≡ Some (stands f f.block 0 vs)
unfolding goes_on
goes_on_fresh bundle f vs e = rw e refl

goes_on_behind : (bundle : List Item) (f : Activation) (vs : List Value) → f.fresh ≡ false
    → goes_on bundle f vs ≡ with_some ((numbered bundle).going_on f.block f.at (f.vars ++ vs)) (λ g. Some (onward f (f.vars ++ vs) g))
unfolding goes_on
goes_on_behind bundle f vs e = rw e refl

going_by : (bundle : List Item) (f : Activation) (vs : List Value) (i : Code) → code_at bundle f.block f.at ≡ Some i → (numbered bundle).going_on f.block f.at vs ≡ optional_goal_at bundle vs i.normal
going_by bundle f vs i e =
    let r = code_there bundle f.block f.at i e in
    with_is (slice_get (bundle_blocks bundle) f.block) r.0 (λ b. with_some (slice_get b.code f.at) (λ i. optional_goal_at bundle vs i.normal)) r.1
    ∙ with_is (slice_get r.0.code f.at) i (λ i. optional_goal_at bundle vs i.normal) r.2

pub goes_on_there : (bundle : List Item) (f : Activation) (vs : List Value) → f.fresh ≡ false → IsSome (goes_on bundle f vs) → IsSome (code_at bundle f.block f.at)
goes_on_there bundle f vs e h =
    let r = some_of (goes_on bundle f vs) h in
    let go : Option Goal → Option Activation = λ g. Some (onward f (f.vars ++ vs) g) in
    let q = with_there ((numbered bundle).going_on f.block f.at (f.vars ++ vs)) go r.0 (sym (goes_on_behind bundle f vs e) ∙ r.1) in
    let b = with_there (slice_get (bundle_blocks bundle) f.block) (λ b. with_some (slice_get b.code f.at) (λ i. optional_goal_at bundle (f.vars ++ vs) i.normal)) q.0 q.1 in
    let i = with_there (slice_get b.0.code f.at) (λ i. optional_goal_at bundle (f.vars ++ vs) i.normal) q.0 b.2 in
    some_there (code_at bundle f.block f.at) i.0 (code_is bundle f.block f.at b.0 i.0 b.1 i.1)

pub goes_on_next : (bundle : List Item) (f : Activation) (vs : List Value) (i : Code) (n : ℕ) → f.fresh ≡ false → code_at bundle f.block f.at ≡ Some i → i.normal ≡ None → n ≡ f.at + 1
    → goes_on bundle f vs ≡ Some (stands f f.block n (f.vars ++ vs))
goes_on_next bundle f vs i n e code plain at =
    let go : Option Goal → Option Activation = λ g. Some (onward f (f.vars ++ vs) g) in
    let next : suc f.at ≡ n = omega (arith, at) in
    goes_on_behind bundle f vs e
    ∙ ap (λ o. with_some o go) (going_by bundle f (f.vars ++ vs) i code ∙ ap (optional_goal_at bundle (f.vars ++ vs)) plain)
    ∙ ap (λ m. Some (stands f f.block m (f.vars ++ vs))) next

goal_of_some : (bundle : List Item) (vs : List Value) (o : Option Target) (t : Target) (g : Option Goal) → o ≡ Some t → optional_goal_at bundle vs o ≡ Some g → IsSome (goal_at bundle vs t)
goal_of_some bundle vs o t g e h =
    let there : some_goal (goal_at bundle vs t) ≡ Some g = sym (ap (optional_goal_at bundle vs) e) ∙ h in
    let r = with_there (goal_at bundle vs t) (λ goal. Some (Some goal)) g there in
    some_there (goal_at bundle vs t) r.0 r.1

optional_is : (bundle : List Item) (vs : List Value) (o : Option Target) (t : Target) (g : Goal) → o ≡ Some t → goal_at bundle vs t ≡ Some g → optional_goal_at bundle vs o ≡ Some (Some g)
optional_is bundle vs o t g e h = ap (optional_goal_at bundle vs) e ∙ ap some_goal h

pub goes_on_goal : (bundle : List Item) (f : Activation) (vs : List Value) (i : Code) (t : Target) → f.fresh ≡ false → IsSome (goes_on bundle f vs) → code_at bundle f.block f.at ≡ Some i → i.normal ≡ Some t
    → IsSome (goal_at bundle (f.vars ++ vs) t)
goes_on_goal bundle f vs i t e h code way =
    let r = some_of (goes_on bundle f vs) h in
    let go : Option Goal → Option Activation = λ g. Some (onward f (f.vars ++ vs) g) in
    let q = with_there ((numbered bundle).going_on f.block f.at (f.vars ++ vs)) go r.0 (sym (goes_on_behind bundle f vs e) ∙ r.1) in
    goal_of_some bundle (f.vars ++ vs) i.normal t q.0 way (sym (going_by bundle f (f.vars ++ vs) i code) ∙ q.1)

pub goes_on_arrives : (bundle : List Item) (f : Activation) (vs : List Value) (i : Code) (t : Target) (g : Goal) → f.fresh ≡ false → code_at bundle f.block f.at ≡ Some i → i.normal ≡ Some t
    → goal_at bundle (f.vars ++ vs) t ≡ Some g → goes_on bundle f vs ≡ Some (stands f g.block 0 g.values)
goes_on_arrives bundle f vs i t g e code way h =
    let go : Option Goal → Option Activation = λ g. Some (onward f (f.vars ++ vs) g) in
    goes_on_behind bundle f vs e ∙ ap (λ o. with_some o go) (going_by bundle f (f.vars ++ vs) i code ∙ optional_is bundle (f.vars ++ vs) i.normal t g way h)

pub given_code : (bundle : List Item) (s : Held) (vs : List Value) → acting bundle s (Gives vs) ≢ Stuck → s.frames.top.fresh ≡ false → IsSome (code_at bundle s.frames.top.block s.frames.top.at)
given_code bundle s vs h e = goes_on_there bundle s.frames.top vs e (given_there bundle s vs h)

pub given_next : (bundle : List Item) (s : Held) (vs : List Value) (i : Code) → acting bundle s (Gives vs) ≢ Stuck → s.frames.top.fresh ≡ false → code_at bundle s.frames.top.block s.frames.top.at ≡ Some i → i.normal ≡ None
    → acting bundle s (Gives vs) ≡ went_on (record s { frames = record s.frames { top = stands s.frames.top s.frames.top.block (s.frames.top.at + 1) (s.frames.top.vars ++ vs) } })
given_next bundle s vs i h e code plain = given_is bundle s vs (stands s.frames.top s.frames.top.block (s.frames.top.at + 1) (s.frames.top.vars ++ vs)) h (goes_on_next bundle s.frames.top vs i (s.frames.top.at + 1) e code plain refl)

pub ruleset giving = (given_there, given_is)

pub ruleset giving_next = (given_code, given_next)

pub ruleset going = (goes_on_fresh, goes_on_there, goes_on_next, goes_on_goal, goes_on_arrives)

-- ---- another block

pub goes_is : (bundle : List Item) (s : Held) (block : ℕ) (vs : List Value) → acting bundle s (Goes (record { block = block; values = vs })) ≢ Stuck
    → acting bundle s (Goes (record { block = block; values = vs })) ≡ went_on (record s { frames = record s.frames { top = stands s.frames.top block 0 vs } })
goes_is bundle s block vs h =
    let g : Goal = record { block = block; values = vs } in
    let r = acting_there bundle s (Goes g) h in
    acting_is bundle s (Goes g) r.0 r.1 ∙ next_is s r.0 (stands s.frames.top block 0 vs) s.frames.below s.objects (onto (turn s r.0) (arrived s.frames.top g)) refl

-- ---- undefined cases and faults

pub fault_is : (bundle : List Item) (s : Held) (k : Case) → is_fault k ≡ true → acting bundle s (Faults k) ≡ faulting bundle s (undefined_at s k)
unfolding acting faulting
fault_is bundle s cases.DivideByZero h = refl
fault_is bundle s cases.NullAccess h = refl
fault_is bundle s cases.OutOfRange h = cc
fault_is bundle s cases.BadCast h = cc
fault_is bundle s cases.DeadCell h = cc
fault_is bundle s cases.DataRace h = cc
fault_is bundle s cases.StackNotReady h = cc
fault_is bundle s cases.StackTypes h = cc
fault_is bundle s cases.Uncaught h = cc
fault_is bundle s cases.NullCall h = cc
fault_is bundle s cases.NoBody h = cc
fault_is bundle s cases.ClientMisuse h = cc

pub refused_plainly : (p : Program) (s : Held) (d : Doing) (k : Case) → is_fault k ≡ false → refused p (begun s) (turn s d) k ≡ End [] (undefined_at s k)
refused_plainly p s d cases.DivideByZero h = cc
refused_plainly p s d cases.NullAccess h = cc
refused_plainly p s d cases.OutOfRange h = refl
refused_plainly p s d cases.BadCast h = refl
refused_plainly p s d cases.DeadCell h = refl
refused_plainly p s d cases.DataRace h = refl
refused_plainly p s d cases.StackNotReady h = refl
refused_plainly p s d cases.StackTypes h = refl
refused_plainly p s d cases.Uncaught h = refl
refused_plainly p s d cases.NullCall h = refl
refused_plainly p s d cases.NoBody h = refl
refused_plainly p s d cases.ClientMisuse h = refl

pub refused_is : (bundle : List Item) (s : Held) (k : Case) → is_fault k ≡ false → acting bundle s (Faults k) ≢ Stuck → acting bundle s (Faults k) ≡ End [] (undefined_at s k)
refused_is bundle s k plain h =
    let r = acting_there bundle s (Faults k) h in
    acting_is bundle s (Faults k) r.0 r.1 ∙ refused_plainly (numbered bundle) s r.0 k plain

-- its exceptional destination
abbrev pub fault_with : List Item → Held → Ending → Option Goal → Outcome
fault_with bundle s k o = excepted (numbered bundle) (begun s) (turn s (record { act = None; exceptional = None; kept = None })) k o

with_any : (bundle : List Item) (s : Held) (k : Ending) (d : Doing) (o : Option Goal) → excepted (numbered bundle) (begun s) (turn s d) k o ≡ fault_with bundle s k o
with_any bundle s k d None = refl
with_any bundle s k d (Some g) = refl

record FaultAt (bundle : List Item) (s : Held) (k : Ending) (i : Code) : Type 0 where
  pub goal : Option Goal
  pub exceptional : optional_goal_at bundle s.frames.top.vars i.exceptional ≡ Some goal
  pub going : fault_with bundle s k goal ≢ Stuck
  pub is : faulting bundle s k ≡ fault_with bundle s k goal

fault_by : (bundle : List Item) (s : Held) (k : Ending) → faulting bundle s k ≢ Stuck
    → (b : BlockCode) × (slice_get (bundle_blocks bundle) s.frames.top.block ≡ Some b) × (i : Code) × (slice_get b.code s.frames.top.at ≡ Some i) × FaultAt bundle s k i
unfolding faulting
fault_by bundle s k h =
    let p = numbered bundle in
    let r = on_there (doing_of p s) (λ d. faulted p (begun s) (turn s d) k) h in
    let q = doing_at bundle s.frames.top r.0 r.1 in
    let o = on_there r.0.exceptional (excepted p (begun s) (turn s r.0) k) r.2 in
    let any = with_any bundle s k r.0 o.0 in (
      q.0,
      q.1,
      q.2,
      q.3,
      record {
        goal = o.0;
        exceptional = sym (ap (λ (d : Doing). d.exceptional) q.4) ∙ o.1;
        going = λ e. o.2 (any ∙ e);
        is = on_is (doing_of p s) r.0 (λ d. faulted p (begun s) (turn s d) k) r.1 ∙ on_is r.0.exceptional o.0 (excepted p (begun s) (turn s r.0) k) o.1 ∙ any;
      },
    )

pub fault_there : (bundle : List Item) (s : Held) (k : Ending) → faulting bundle s k ≢ Stuck → IsSome (code_at bundle s.frames.top.block s.frames.top.at)
fault_there bundle s k h =
    let r = fault_by bundle s k h in
    some_there (code_at bundle s.frames.top.block s.frames.top.at) r.2 (code_is bundle s.frames.top.block s.frames.top.at r.0 r.2 r.1 r.3)

fault_at : (bundle : List Item) (s : Held) (k : Ending) (i : Code) → faulting bundle s k ≢ Stuck → code_at bundle s.frames.top.block s.frames.top.at ≡ Some i → FaultAt bundle s k i
fault_at bundle s k i h e =
    let r = fault_by bundle s k h in
    let there = code_is bundle s.frames.top.block s.frames.top.at r.0 r.2 r.1 r.3 in
    let same : r.2 ≡ i = cc in
    subst (FaultAt bundle s k) same r.4

pub fault_ends : (bundle : List Item) (s : Held) (k : Ending) (i : Code) → faulting bundle s k ≢ Stuck → code_at bundle s.frames.top.block s.frames.top.at ≡ Some i → i.exceptional ≡ None
    → faulting bundle s k ≡ End [] k
fault_ends bundle s k i h e none =
    let r = fault_at bundle s k i h e in
    let same : r.goal ≡ None = let there = ap (optional_goal_at bundle s.frames.top.vars) none in let found = r.exceptional in cc in
    r.is ∙ ap (fault_with bundle s k) same

pub fault_goal : (bundle : List Item) (s : Held) (k : Ending) (i : Code) (t : Target) → faulting bundle s k ≢ Stuck → code_at bundle s.frames.top.block s.frames.top.at ≡ Some i → i.exceptional ≡ Some t
    → IsSome (goal_at bundle s.frames.top.vars t)
fault_goal bundle s k i t h e way =
    let r = fault_at bundle s k i h e in
    goal_of_some bundle s.frames.top.vars i.exceptional t r.goal way r.exceptional

fault_goal_is : (bundle : List Item) (s : Held) (k : Ending) (i : Code) (t : Target) (g : Goal) → (r : FaultAt bundle s k i) → i.exceptional ≡ Some t → goal_at bundle s.frames.top.vars t ≡ Some g → r.goal ≡ Some g
fault_goal_is bundle s k i t g r way e =
    let is = optional_is bundle s.frames.top.vars i.exceptional t g way e in
    let found = r.exceptional in
    cc

pub fault_gets : (bundle : List Item) (s : Held) (k : Ending) (i : Code) (t : Target) (g : Goal) → faulting bundle s k ≢ Stuck → code_at bundle s.frames.top.block s.frames.top.at ≡ Some i → i.exceptional ≡ Some t
    → goal_at bundle s.frames.top.vars t ≡ Some g → IsSome (gets bundle s.frames.top g Null)
unfolding gets
fault_gets bundle s k i t g h e way there =
    let r = fault_at bundle s k i h e in
    let same = fault_goal_is bundle s k i t g r way there in
    let going : fault_with bundle s k (Some g) ≢ Stuck = subst (λ o. fault_with bundle s k o ≢ Stuck) same r.going in
    let u = turn s (record { act = None; exceptional = None; kept = None }) in
    let n = next_there (begun s) u (with_some (caught (numbered bundle) s.frames.top g Null) (onto u)) going in
    onto_there u (caught (numbered bundle) s.frames.top g Null) n.0 n.1

pub fault_goes : (bundle : List Item) (s : Held) (k : Ending) (i : Code) (t : Target) (g : Goal) (f : Activation) → faulting bundle s k ≢ Stuck → code_at bundle s.frames.top.block s.frames.top.at ≡ Some i → i.exceptional ≡ Some t
    → goal_at bundle s.frames.top.vars t ≡ Some g → gets bundle s.frames.top g Null ≡ Some f → faulting bundle s k ≡ went_on (record s { frames = record s.frames { top = f } })
unfolding gets
fault_goes bundle s k i t g f h e way there caught_so =
    let r = fault_at bundle s k i h e in
    let same = fault_goal_is bundle s k i t g r way there in
    let d : Doing = record { act = None; exceptional = None; kept = None } in
    r.is ∙ ap (fault_with bundle s k) same
    ∙ next_is s d f s.frames.below s.objects (with_some (caught (numbered bundle) s.frames.top g Null) (onto (turn s d))) (onto_is (turn s d) (caught (numbered bundle) s.frames.top g Null) f caught_so)

-- ---- a frame that gets an exception

pub gets_there : (bundle : List Item) (f : Activation) (g : Goal) (e : Scalar) → IsSome (gets bundle f g e) → g.block < length (bundle_blocks bundle)
unfolding gets
gets_there bundle f g e h =
    let r = some_of (caught (numbered bundle) f g e) h in
    let go : Bool → Option Activation = λ handled. Some (stands f g.block 0 (with_exception handled e g.values)) in
    let q = with_there ((numbered bundle).has_handler g.block) go r.0 r.1 in
    let b = with_there (slice_get (bundle_blocks bundle) g.block) (λ b. Some (is_some b.handler)) q.0 q.1 in
    get_below (bundle_blocks bundle) g.block b.0 b.1

gets_by : (bundle : List Item) (f : Activation) (g : Goal) (e : Scalar) (b : BlockCode) (handled : Bool) → slice_get (bundle_blocks bundle) g.block ≡ Some b → is_some b.handler ≡ handled
    → gets bundle f g e ≡ Some (stands f g.block 0 (with_exception handled e g.values))
unfolding gets
gets_by bundle f g e b handled there is =
    let go : Bool → Option Activation = λ handled. Some (stands f g.block 0 (with_exception handled e g.values)) in
    ap (λ o. with_some o go) (with_is (slice_get (bundle_blocks bundle) g.block) b (λ b. Some (is_some b.handler)) there) ∙ ap go is

pub gets_plain : (bundle : List Item) (f : Activation) (g : Goal) (e : Scalar) (b : BlockCode) → slice_get (bundle_blocks bundle) g.block ≡ Some b → is_some b.handler ≡ false
    → gets bundle f g e ≡ Some (stands f g.block 0 g.values)
gets_plain bundle f g e b there is = gets_by bundle f g e b false there is

pub gets_exception : (bundle : List Item) (f : Activation) (g : Goal) (e : Scalar) (b : BlockCode) → slice_get (bundle_blocks bundle) g.block ≡ Some b → is_some b.handler ≡ true
    → gets bundle f g e ≡ Some (stands f g.block 0 (g.values ++ (e ∷ []) ∷ []))
gets_exception bundle f g e b there is = gets_by bundle f g e b true there is

pub ruleset refusals = (fault_is, refused_is)

pub ruleset faults = (fault_there, fault_ends, fault_goal, fault_gets, fault_goes, gets_there)

-- ---- what is tried

pub tried_there : (p : Program) (s : Held) (d : Doing) (A : Type 0) (o : Option (Result A Case)) (go : A → Outcome) → tried p (begun s) (turn s d) o go ≢ Stuck → (r : Result A Case) × (o ≡ Some r)
unfolding tried
tried_there p s d A o go h = let r = on_there o (unless_refused p (begun s) (turn s d) go) h in (r.0, r.1)

pub tried_is : (p : Program) (s : Held) (d : Doing) (A : Type 0) (o : Option (Result A Case)) (r : Result A Case) (go : A → Outcome) → o ≡ Some r
    → tried p (begun s) (turn s d) o go ≡ unless_refused p (begun s) (turn s d) go r
unfolding tried
tried_is p s d A o r go e = on_is o r (unless_refused p (begun s) (turn s d) go) e

-- ---- functions

abbrev pub body : List Item → ℕ → Option (Result ℕ Case)
body bundle f = body_or_case ((numbered bundle).body f)

body_by : (o : Option Function) (r : Result ℕ Case) → body_or_case (with_some o (λ f. Some f.first)) ≡ Some r → (f : Function) × (o ≡ Some f)
body_by None r h = cc
body_by (Some f) r h = (f, refl)

body_is : (bundle : List Item) (f : ℕ) (function : Function) → slice_get (bundle_functions bundle) f ≡ Some function → body bundle f ≡ Some (ok_or function.first cases.NoBody)
body_is bundle f function e = ap body_or_case (with_is (slice_get (bundle_functions bundle) f) function (λ (f : Function). Some f.first) e)

pub body_there : (bundle : List Item) (f : ℕ) (r : Result ℕ Case) → body bundle f ≡ Some r → f < length (bundle_functions bundle)
body_there bundle f r h = let q = body_by (slice_get (bundle_functions bundle) f) r h in get_below (bundle_functions bundle) f q.0 q.1

pub no_body_is : (bundle : List Item) (f : ℕ) (function : Function) → slice_get (bundle_functions bundle) f ≡ Some function → function.first ≡ None → body bundle f ≡ Some (Err cases.NoBody)
no_body_is bundle f function e none = body_is bundle f function e ∙ ap (λ o. Some (ok_or o cases.NoBody)) none

pub first_is : (bundle : List Item) (f block : ℕ) (function : Function) → slice_get (bundle_functions bundle) f ≡ Some function → function.first ≡ Some block → body bundle f ≡ Some (Ok block)
first_is bundle f block function e first = body_is bundle f function e ∙ ap (λ o. Some (ok_or o cases.NoBody)) first

-- what is said of an act that tries the body of a function
pub tries_there : (bundle : List Item) (s : Held) (a : Act) (f : ℕ) (go : Doing → ℕ → Outcome)
    → ((d : Doing) → performed (numbered bundle) (begun s) (turn s d) a ≡ tried (numbered bundle) (begun s) (turn s d) (body bundle f) (go d)) → acting bundle s a ≢ Stuck → f < length (bundle_functions bundle)
tries_there bundle s a f go by h =
    let r = acting_there bundle s a h in
    let q = tried_there (numbered bundle) s r.0 ℕ (body bundle f) (go r.0) (λ k. r.2 (by r.0 ∙ k)) in
    body_there bundle f q.0 q.1

pub tries_no_body : (bundle : List Item) (s : Held) (a : Act) (f : ℕ) (function : Function) (go : Doing → ℕ → Outcome)
    → ((d : Doing) → performed (numbered bundle) (begun s) (turn s d) a ≡ tried (numbered bundle) (begun s) (turn s d) (body bundle f) (go d)) → acting bundle s a ≢ Stuck
    → slice_get (bundle_functions bundle) f ≡ Some function → function.first ≡ None → acting bundle s a ≡ End [] (undefined_at s cases.NoBody)
tries_no_body bundle s a f function go by h e none =
    let r = acting_there bundle s a h in
    acting_is bundle s a r.0 r.1 ∙ by r.0 ∙ tried_is (numbered bundle) s r.0 ℕ (body bundle f) (Err cases.NoBody) (go r.0) (no_body_is bundle f function e none)

-- ---- calls

call_go : List Item → Held → Doing → ℕ → List Value → ℕ → Outcome
call_go bundle s d f vs b = next (begun s) (turn s d) (with_some (waiting (turn s d) (classes_given (bundle_tables bundle) f)) (λ w. Some (called (numbered bundle) f vs b ∷ w ∷ s.frames.below)))

pub call_there : (bundle : List Item) (s : Held) (f : ℕ) (vs : List Value) → acting bundle s (Calls f vs) ≢ Stuck → f < length (bundle_functions bundle)
unfolding call_go
call_there bundle s f vs h = tries_there bundle s (Calls f vs) f (λ d. call_go bundle s d f vs) (λ d. refl) h

pub call_without_body : (bundle : List Item) (s : Held) (f : ℕ) (vs : List Value) (function : Function) → acting bundle s (Calls f vs) ≢ Stuck → slice_get (bundle_functions bundle) f ≡ Some function → function.first ≡ None
    → acting bundle s (Calls f vs) ≡ End [] (undefined_at s cases.NoBody)
unfolding call_go
call_without_body bundle s f vs function h e none = tries_no_body bundle s (Calls f vs) f function (λ d. call_go bundle s d f vs) (λ d. refl) h e none

-- what a frame waits for, and the frame that waits
pub waits_by : (o : Option (Option Goal)) (ks : Option TypedValues) (f : Activation) (cs : List ℕ) (w : Awaited)
    → with_some o (λ h. with_some ks (λ k. Some (record { waits = cs; handler = h; kept = k }))) ≡ Some w
    → with_some o (λ h. with_some ks (λ k. Some (record f { waits = cs; handler = h; kept = k }))) ≡ Some (with_awaited f w)
waits_by None ks f cs w h = cc
waits_by (Some o) None f cs w h = cc
waits_by (Some o) (Some k) f cs w h =
    let is : Awaited = record { waits = cs; handler = o; kept = k } in
    let same : is ≡ w = cc in
    ap (λ w. Some (with_awaited f w)) same

pub waits_there : (o : Option (Option Goal)) (ks : Option TypedValues) (f g : Activation) (cs : List ℕ)
    → with_some o (λ h. with_some ks (λ k. Some (record f { waits = cs; handler = h; kept = k }))) ≡ Some g
    → (w : Awaited) × (with_some o (λ h. with_some ks (λ k. Some (record { waits = cs; handler = h; kept = k }))) ≡ Some w)
waits_there None ks f g cs h = cc
waits_there (Some o) None f g cs h = cc
waits_there (Some o) (Some k) f g cs h = (record { waits = cs; handler = o; kept = k }, refl)

pub call_awaits : (bundle : List Item) (s : Held) (f block : ℕ) (vs : List Value) (function : Function) → acting bundle s (Calls f vs) ≢ Stuck → slice_get (bundle_functions bundle) f ≡ Some function → function.first ≡ Some block
    → IsSome (awaited bundle s.frames.top f)
unfolding call_go awaits
call_awaits bundle s f block vs function h e first =
    let r = acting_there bundle s (Calls f vs) h in
    let is = tried_is (numbered bundle) s r.0 ℕ (body bundle f) (Ok block) (call_go bundle s r.0 f vs) (first_is bundle f block function e first) in
    let cs = classes_given (bundle_tables bundle) f in
    let go : Activation → Option (List Activation) = λ w. Some (called (numbered bundle) f vs block ∷ w ∷ s.frames.below) in
    let n = next_there (begun s) (turn s r.0) (with_some (waiting (turn s r.0) cs) go) (λ k. r.2 (is ∙ k)) in
    let w = with_there (waiting (turn s r.0) cs) go n.0 n.1 in
    let a = waits_there r.0.exceptional r.0.kept s.frames.top w.0 cs w.1 in
    some_there (awaited bundle s.frames.top f) a.0 (with_is (doing_of (numbered bundle) s) r.0 (awaited_by (classes_given (bundle_tables bundle) f)) r.1 ∙ a.1)

pub call_is : (bundle : List Item) (s : Held) (f block : ℕ) (vs : List Value) (function : Function) (w : Awaited) → acting bundle s (Calls f vs) ≢ Stuck → slice_get (bundle_functions bundle) f ≡ Some function → function.first ≡ Some block
    → awaited bundle s.frames.top f ≡ Some w → acting bundle s (Calls f vs) ≡ went_on (record s { frames = entered_above s.frames (entered block vs) w })
unfolding call_go awaits
call_is bundle s f block vs function w h e first await =
    let r = acting_there bundle s (Calls f vs) h in
    let cs = classes_given (bundle_tables bundle) f in
    let go : Activation → Option (List Activation) = λ w. Some (called (numbered bundle) f vs block ∷ w ∷ s.frames.below) in
    let by : awaited_by (classes_given (bundle_tables bundle) f) r.0 ≡ Some w = sym (with_is (doing_of (numbered bundle) s) r.0 (awaited_by (classes_given (bundle_tables bundle) f)) r.1) ∙ await in
    let waits : waiting (turn s r.0) cs ≡ Some (with_awaited s.frames.top w) = waits_by r.0.exceptional r.0.kept s.frames.top cs w by in
    acting_is bundle s (Calls f vs) r.0 r.1 ∙ tried_is (numbered bundle) s r.0 ℕ (body bundle f) (Ok block) (call_go bundle s r.0 f vs) (first_is bundle f block function e first)
    ∙ next_is s r.0 (entered block vs) (with_awaited s.frames.top w ∷ s.frames.below) s.objects (with_some (waiting (turn s r.0) cs) go) (ap (λ o. with_some o go) waits)

-- what the answer of a call says
pub call_so : (bundle : List Item) (s : Held) (f block : ℕ) (vs : List Value) (function : Function) (o : Outcome) → acting bundle s (Calls f vs) ≢ Stuck → slice_get (bundle_functions bundle) f ≡ Some function → function.first ≡ Some block
    → IfSome (awaited bundle s.frames.top f) (λ w. o ≡ went_on (record s { frames = entered_above s.frames (entered block vs) w })) → o ≡ acting bundle s (Calls f vs)
call_so bundle s f block vs function o h e first so =
    let w = some_of (awaited bundle s.frames.top f) (call_awaits bundle s f block vs function h e first) in
    let is : o ≡ went_on (record s { frames = entered_above s.frames (entered block vs) w.0 }) = subst (λ x. IfSome x (λ w. o ≡ went_on (record s { frames = entered_above s.frames (entered block vs) w }))) w.1 so in
    is ∙ sym (call_is bundle s f block vs function w.0 h e first w.1)

pub ruleset calling = (call_there, call_without_body, call_awaits, call_so)

-- ---- what a frame waits for

awaits_by : (cs : List ℕ) (d : Doing) (w : Awaited) → awaited_by cs d ≡ Some w → IsSome d.exceptional × IsSome d.kept
awaits_by cs d w h =
    let o = with_there d.exceptional (λ h. with_some d.kept (λ ks. Some (record { waits = cs; handler = h; kept = ks }))) w h in
    let k = with_there d.kept (λ ks. Some (record { waits = cs; handler = o.0; kept = ks })) w o.2 in
    (some_there d.exceptional o.0 o.1, some_there d.kept k.0 k.1)

pub awaited_there : (bundle : List Item) (f : Activation) (cs : List ℕ) → IsSome (awaits bundle f cs)
    → (b : BlockCode) × (slice_get (bundle_blocks bundle) f.block ≡ Some b) × (i : Code) × (slice_get b.code f.at ≡ Some i)
    × IsSome (optional_goal_at bundle f.vars i.exceptional) × IsSome (kept_at b.classes f.vars i.keepalive) × (f.block < length (bundle_blocks bundle)) × (f.at < length b.code)
unfolding awaits
awaited_there bundle f cs h =
    let r = some_of (awaits bundle f cs) h in
    let d = with_there ((numbered bundle).doing f.block f.at f.vars) (awaited_by cs) r.0 r.1 in
    let q = doing_at bundle f d.0 d.1 in
    let both = awaits_by cs d.0 r.0 d.2 in
    let exceptional : IsSome (optional_goal_at bundle f.vars q.2.exceptional) = subst (λ (d : Doing). IsSome d.exceptional) q.4 both.0 in
    let kept : IsSome (kept_at q.0.classes f.vars q.2.keepalive) = subst (λ (d : Doing). IsSome d.kept) q.4 both.1 in
    (q.0, q.1, q.2, q.3, exceptional, kept, get_below (bundle_blocks bundle) f.block q.0 q.1, get_below q.0.code f.at q.2 q.3)

pub awaited_is : (bundle : List Item) (f : Activation) (cs : List ℕ) (b : BlockCode) (i : Code) (w : Awaited) → slice_get (bundle_blocks bundle) f.block ≡ Some b → slice_get b.code f.at ≡ Some i
    → w.waits ≡ cs → optional_goal_at bundle f.vars i.exceptional ≡ Some w.handler → kept_at b.classes f.vars i.keepalive ≡ Some w.kept → awaits bundle f cs ≡ Some w
unfolding awaits
awaited_is bundle f cs b i w there at waits handler kept =
    with_is ((numbered bundle).doing f.block f.at f.vars) (does_at bundle b.classes f.vars i) (awaited_by cs) (doing_is bundle f b i there at)
    ∙ with_is (optional_goal_at bundle f.vars i.exceptional) w.handler (λ h. with_some (kept_at b.classes f.vars i.keepalive) (λ ks. Some (record { waits = cs; handler = h; kept = ks }))) handler
    ∙ with_is (kept_at b.classes f.vars i.keepalive) w.kept (λ ks. Some (record { waits = cs; handler = w.handler; kept = ks })) kept
    ∙ ap (λ cs. Some (record { waits = cs; handler = w.handler; kept = w.kept })) (sym waits)

pub awaited_waits : (bundle : List Item) (f : Activation) (cs : List ℕ) (w : Awaited) → awaits bundle f cs ≡ Some w → w.waits ≡ cs
unfolding awaits
awaited_waits bundle f cs w h =
    let d = with_there ((numbered bundle).doing f.block f.at f.vars) (awaited_by cs) w h in
    let o = with_there d.0.exceptional (λ h. with_some d.0.kept (λ ks. Some (record { waits = cs; handler = h; kept = ks }))) w d.2 in
    let k = with_there d.0.kept (λ ks. Some (record { waits = cs; handler = o.0; kept = ks })) w o.2 in
    let is : Awaited = record { waits = cs; handler = o.0; kept = k.0 } in
    let same : is ≡ w = cc in
    ap (λ (w : Awaited). w.waits) (sym same)

pub ruleset awaiting = (awaited_there, awaited_is)

pub awaited_code : (bundle : List Item) (f : Activation) (cs : List ℕ) → IsSome (awaits bundle f cs) → IsSome (code_at bundle f.block f.at)
awaited_code bundle f cs h =
    let r = awaited_there bundle f cs h in
    some_there (code_at bundle f.block f.at) r.2 (code_is bundle f.block f.at r.0 r.2 r.1 r.3)

-- a frame whose instruction has no exceptional destination, and keeps nothing, waits for values alone
pub awaits_values : (bundle : List Item) (f : Activation) (i : Code) → code_at bundle f.block f.at ≡ Some i → i.exceptional ≡ None → i.keepalive ≡ []
    → (cs : List ℕ) → awaits bundle f cs ≡ Some (record { waits = cs; handler = None; kept = nothing_kept })
awaits_values bundle f i code plain none cs =
    let b = code_there bundle f.block f.at i code in
    awaited_is bundle f cs b.0 i (record { waits = cs; handler = None; kept = nothing_kept }) b.1 b.2 refl (ap (optional_goal_at bundle f.vars) plain) (ap (kept_at b.0.classes f.vars) none)

pub ruleset plain = (awaited_code, awaits_values)

-- ---- objects that end

top_ends : (f : Activation) (os : List HeapObject) → fold (λ os n. changed killed n os) os (flat_map (λ (f : Activation). f.objects) (f ∷ [])) ≡ objects_end os f.objects
unfolding objects_end
top_ends f os = ap (fold (λ os n. changed killed n os) os) (append-nil f.objects)

-- ---- calls in place

replace_go : List Item → Held → Doing → ℕ → List Value → ℕ → Outcome
replace_go bundle s d f vs b = next (frames_end (s.frames.top ∷ []) (begun s)) (turn s d) (onto (turn s d) (called (numbered bundle) f vs b))

pub replace_there : (bundle : List Item) (s : Held) (f : ℕ) (vs : List Value) → acting bundle s (Replaces f vs) ≢ Stuck → f < length (bundle_functions bundle)
unfolding replace_go
replace_there bundle s f vs h = tries_there bundle s (Replaces f vs) f (λ d. replace_go bundle s d f vs) (λ d. refl) h

pub replace_without_body : (bundle : List Item) (s : Held) (f : ℕ) (vs : List Value) (function : Function) → acting bundle s (Replaces f vs) ≢ Stuck → slice_get (bundle_functions bundle) f ≡ Some function → function.first ≡ None
    → acting bundle s (Replaces f vs) ≡ End [] (undefined_at s cases.NoBody)
unfolding replace_go
replace_without_body bundle s f vs function h e none = tries_no_body bundle s (Replaces f vs) f function (λ d. replace_go bundle s d f vs) (λ d. refl) h e none

pub replace_is : (bundle : List Item) (s : Held) (f block : ℕ) (vs : List Value) (function : Function) → acting bundle s (Replaces f vs) ≢ Stuck → slice_get (bundle_functions bundle) f ≡ Some function → function.first ≡ Some block
    → acting bundle s (Replaces f vs) ≡ went_on (record s { frames = record s.frames { top = entered block vs }; objects = objects_end s.objects s.frames.top.objects })
unfolding replace_go
replace_is bundle s f block vs function h e first =
    let r = acting_there bundle s (Replaces f vs) h in
    let os = fold (λ os n. changed killed n os) s.objects (flat_map (λ (f : Activation). f.objects) (s.frames.top ∷ [])) in
    acting_is bundle s (Replaces f vs) r.0 r.1 ∙ tried_is (numbered bundle) s r.0 ℕ (body bundle f) (Ok block) (replace_go bundle s r.0 f vs) (first_is bundle f block function e first)
    ∙ next_is s r.0 (entered block vs) s.frames.below os (onto (turn s r.0) (called (numbered bundle) f vs block)) refl
    ∙ ap (λ os. went_on (record s { frames = record s.frames { top = entered block vs }; objects = os })) (top_ends s.frames.top s.objects)

pub ruleset replacing = (replace_there, replace_without_body, replace_is)

-- ---- how many frames there are

none_by : (bs : List Activation) → length bs ≡ 0 → bs ≡ []
none_by [] e = refl
none_by (b ∷ bs) e = absurd (omega (arith, e))

some_by : (bs : List Activation) → length bs ≢ 0 → 0 < length bs
some_by [] e = absurd (e refl)
some_by (b ∷ bs) e = omega arith

-- ---- returns

-- what an answer says once the thread has ended
finished_is : (s t : Held) (d : Doing) (n : Note) (rest : Chain) (ls : List Line) → t ≡ record (thread_ended s rest) { steps = s.steps + 1 } → ls ≡ lines.Note n ∷ []
    → answers (Went ls) t ≡ finishes (begun s) (turn s d) n
unfolding answers objects_end
finished_is s t d n rest ls same told =
    ap (λ x. outcome_of (Went x) (configuration t)) told ∙ ap (λ x. outcome_of (Went (lines.Note n ∷ [])) (configuration x)) same
    ∙ ap (λ m. outcome_of (Went (lines.Note n ∷ [])) (configuration (record (thread_ended s rest) { steps = m }))) (add-one s.steps)

pub return_finishes : (bundle : List Item) (s t : Held) (vs : TypedValues) (rest : Chain) (ls : List Line) → acting bundle s (Returns vs) ≢ Stuck → s.frames.below ≡ []
    → t ≡ record (thread_ended s rest) { steps = s.steps + 1 } → ls ≡ lines.Note (Returned s.thread vs) ∷ [] → answers (Went ls) t ≡ acting bundle s (Returns vs)
return_finishes bundle s t vs rest ls h bottom same told =
    let r = acting_there bundle s (Returns vs) h in
    finished_is s t r.0 (Returned s.thread vs) rest ls same told ∙ ap (returns (numbered bundle) (begun s) (turn s r.0) vs) (sym bottom) ∙ sym (acting_is bundle s (Returns vs) r.0 r.1)

pub exit_finishes : (bundle : List Item) (s t : Held) (rest : Chain) (ls : List Line) → acting bundle s Exits ≢ Stuck → t ≡ record (thread_ended s rest) { steps = s.steps + 1 }
    → ls ≡ lines.Note (Exited s.thread) ∷ [] → answers (Went ls) t ≡ acting bundle s Exits
exit_finishes bundle s t rest ls h same told =
    let r = acting_there bundle s Exits h in
    finished_is s t r.0 (Exited s.thread) rest ls same told ∙ sym (acting_is bundle s Exits r.0 r.1)

returned_below : (bundle : List Item) (s : Held) (d : Doing) (vs : TypedValues) (f : Activation) (fs bs : List Activation) → bs ≡ f ∷ fs
    → returns (numbered bundle) (begun s) (turn s d) vs bs ≡ next (frames_end (s.frames.top ∷ []) (begun s)) (turn s d) (with_some (goes_on bundle f vs.values) (λ g. Some (g ∷ fs)))
unfolding goes_on
returned_below bundle s d vs f fs bs e = ap (returns (numbered bundle) (begun s) (turn s d) vs) e

second_by : (bs : List Activation) (f : Activation) → slice_get bs 0 ≡ Some f → (fs : List Activation) × (bs ≡ f ∷ fs)
second_by [] f h = cc
second_by (b ∷ bs) f h = let same : b ≡ f = cc in (bs, ap (λ x. x ∷ bs) same)

pub return_there : (bundle : List Item) (s : Held) (vs : TypedValues) (f : Activation) → acting bundle s (Returns vs) ≢ Stuck → slice_get (frames_of s.frames) 1 ≡ Some f → IsSome (goes_on bundle f vs.values)
return_there bundle s vs f h e =
    let r = acting_there bundle s (Returns vs) h in
    let q = second_by s.frames.below f e in
    let go : Activation → Option (List Activation) = λ g. Some (g ∷ q.0) in
    let n = next_there (frames_end (s.frames.top ∷ []) (begun s)) (turn s r.0) (with_some (goes_on bundle f vs.values) go) (λ k. r.2 (returned_below bundle s r.0 vs f q.0 s.frames.below q.1 ∙ k)) in
    let g = with_there (goes_on bundle f vs.values) go n.0 n.1 in
    some_there (goes_on bundle f vs.values) g.0 g.1

pub return_is : (bundle : List Item) (s : Held) (vs : TypedValues) (c : Chain) (g : Activation) → acting bundle s (Returns vs) ≢ Stuck → frames_of c ≡ s.frames.below → goes_on bundle c.top vs.values ≡ Some g
    → acting bundle s (Returns vs) ≡ went_on (record s { frames = record c { top = g }; objects = objects_end s.objects s.frames.top.objects })
return_is bundle s vs c g h e way =
    let r = acting_there bundle s (Returns vs) h in
    let os = fold (λ os n. changed killed n os) s.objects (flat_map (λ (f : Activation). f.objects) (s.frames.top ∷ [])) in
    let go : Activation → Option (List Activation) = λ g. Some (g ∷ c.below) in
    acting_is bundle s (Returns vs) r.0 r.1 ∙ returned_below bundle s r.0 vs c.top c.below s.frames.below (sym e)
    ∙ next_is s r.0 g c.below os (with_some (goes_on bundle c.top vs.values) go) (ap (λ o. with_some o go) way)
    ∙ ap (λ os. went_on (record s { frames = record c { top = g }; objects = os })) (top_ends s.frames.top s.objects)

-- the frame that a return goes to is the second one
pub second_is : (s : Held) (c : Chain) (f : Activation) → frames_of c ≡ s.frames.below → slice_get (frames_of s.frames) 1 ≡ Some f → f ≡ c.top
second_is s c f e h = let there : slice_get (frames_of c) 0 ≡ Some f = ap (λ bs. slice_get bs 0) e ∙ h in cc

pub ruleset returning = (return_there, return_is, second_is)

-- a return to a frame that goes on so
pub return_next : (bundle : List Item) (s : Held) (vs : TypedValues) (f g : Activation) → acting bundle s (Returns vs) ≢ Stuck → slice_get s.frames.below 0 ≡ Some f → goes_on bundle f vs.values ≡ Some g
    → acting bundle s (Returns vs) ≡ went_on (record s { frames = record { top = g; below = drop 1 s.frames.below }; objects = objects_end s.objects s.frames.top.objects })
return_next bundle s vs f g h there way =
    let q = second_by s.frames.below f there in
    let rest : drop 1 s.frames.below ≡ q.0 = ap (drop 1) q.1 in
    return_is bundle s vs (record { top = f; below = q.0 }) g h (sym q.1) way
    ∙ ap (λ (bs : List Activation). went_on (record s { frames = record { top = g; below = bs }; objects = objects_end s.objects s.frames.top.objects })) (sym rest)

pub one_frame : (c : Chain) → length (frames_of c) ≡ 1 → c.below ≡ []
one_frame c e = none_by c.below (omega (arith, e))

pub more_frames : (c : Chain) → length (frames_of c) ≢ 1 → 0 < length c.below
more_frames c e = some_by c.below (λ none. e (omega (arith, none)))

pub ruleset only_frame = (one_frame, more_frames)

-- ---- exceptions

throw_go : Held → Doing → EnteredFrames → Outcome
throw_go s d r = next (frames_end r.ended (begun s)) (turn s d) (Some r.frames)

pub throw_uncaught : (bundle : List Item) (s : Held) (e : Scalar) → acting bundle s (Throws e) ≢ Stuck → first_handler (frames_of s.frames) ≡ None → acting bundle s (Throws e) ≡ End [] (undefined_at s cases.Uncaught)
unfolding throw_go
throw_uncaught bundle s e h none =
    let r = acting_there bundle s (Throws e) h in
    acting_is bundle s (Throws e) r.0 r.1 ∙ tried_is (numbered bundle) s r.0 EnteredFrames (unwinding (numbered bundle) e (frames_of s.frames)) (Err cases.Uncaught) (throw_go s r.0) (uncaught (numbered bundle) e (frames_of s.frames) none)

caught_there : (bundle : List Item) (s : Held) (e : Scalar) (n : ℕ) → acting bundle s (Throws e) ≢ Stuck → first_handler (frames_of s.frames) ≡ Some n
    → (c : Catches (frames_of s.frames) n) × (h : Activation) × (gets bundle c.frame c.goal e ≡ Some h)
unfolding throw_go gets
caught_there bundle s e n h first =
    let p = numbered bundle in
    let c = catches_first (frames_of s.frames) n first in
    let r = acting_there bundle s (Throws e) h in
    let q = tried_there p s r.0 EnteredFrames (unwinding p e (frames_of s.frames)) (throw_go s r.0) r.2 in
    let go : Activation → Option (Result EnteredFrames Case) = λ h. Some (Ok (record { frames = h ∷ drop (suc n) (frames_of s.frames); ended = take n (frames_of s.frames) })) in
    let w = with_there (caught p c.frame c.goal e) go q.0 (sym (unwinds p e (frames_of s.frames) n c.frame c.goal first c.there c.handler) ∙ q.1) in
    (c, w.0, w.1)

pub throw_there : (bundle : List Item) (s : Held) (e : Scalar) (n : ℕ) → acting bundle s (Throws e) ≢ Stuck → first_handler (frames_of s.frames) ≡ Some n
    → (f : Activation) × (g : Goal) × (slice_get (frames_of s.frames) n ≡ Some f) × (f.handler ≡ Some g) × IsSome (gets bundle f g e) × (n < length (frames_of s.frames))
throw_there bundle s e n h first =
    let r = caught_there bundle s e n h first in
    (r.0.frame, r.0.goal, r.0.there, r.0.handler, some_there (gets bundle r.0.frame r.0.goal e) r.1 r.2, get_below (frames_of s.frames) n r.0.frame r.0.there)

pub drop_at : (fs : List Activation) (n : ℕ) (f t : Activation) (bs : List Activation) → slice_get fs n ≡ Some f → t ∷ bs ≡ drop n fs → (t ≡ f) × (bs ≡ drop (suc n) fs)
drop_at [] n f t bs h e = cc
drop_at (x ∷ fs) zero f t bs h e = let same : t ≡ x = cc in let rest : bs ≡ fs = cc in (same ∙ (let is : x ≡ f = cc in is), rest)
drop_at (x ∷ fs) (suc n) f t bs h e = drop_at fs n f t bs h e

pub throw_is : (bundle : List Item) (s : Held) (e : Scalar) (n : ℕ) (c : Chain) (f : Activation) (g : Goal) (h : Activation) → acting bundle s (Throws e) ≢ Stuck → first_handler (frames_of s.frames) ≡ Some n
    → slice_get (frames_of s.frames) n ≡ Some f → f.handler ≡ Some g → frames_of c ≡ drop n (frames_of s.frames) → gets bundle f g e ≡ Some h
    → acting bundle s (Throws e) ≡ went_on (record s { frames = record c { top = h }; objects = objects_end s.objects (flat_map (λ (f : Activation). f.objects) (take n (frames_of s.frames))) })
unfolding throw_go gets objects_end
throw_is bundle s e n c f g h going first there handler left way =
    let p = numbered bundle in
    let go : Activation → Option (Result EnteredFrames Case) = λ h. Some (Ok (record { frames = h ∷ drop (suc n) (frames_of s.frames); ended = take n (frames_of s.frames) })) in
    let rest = drop_at (frames_of s.frames) n f c.top c.below there left in
    let r = acting_there bundle s (Throws e) going in
    let os = fold (λ os n. changed killed n os) s.objects (flat_map (λ (f : Activation). f.objects) (take n (frames_of s.frames))) in
    acting_is bundle s (Throws e) r.0 r.1
    ∙ tried_is p s r.0 EnteredFrames (unwinding p e (frames_of s.frames)) (Ok (record { frames = h ∷ drop (suc n) (frames_of s.frames); ended = take n (frames_of s.frames) })) (throw_go s r.0) (unwinds p e (frames_of s.frames) n f g first there handler ∙ ap (λ o. with_some o go) way)
    ∙ next_is s r.0 h (drop (suc n) (frames_of s.frames)) os (Some (h ∷ drop (suc n) (frames_of s.frames))) refl
    ∙ ap (λ bs. went_on (record s { frames = record { top = h; below = bs }; objects = os })) (sym rest.1)

pub ruleset throwing = (throw_there, throw_is, gets_there)
