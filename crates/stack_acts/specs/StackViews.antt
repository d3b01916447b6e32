-- Lemmas of acts on stacks, over the view of a state and its parts.
use Rattle.std.proofs.Common.{◌≡◌, ◌≢◌, ℕ, ◌+◌, ◌<◌, true, List, [], ◌∷◌, ◌++◌, Some, IsSome, length, slice_get, slice_set, sym, ◌∙◌, ap, subst}
use Rattle.std.specs.List.{flat_map}
use Rattle.ir_tree.specs.declared.items.Item.{Item}
use Rattle.mu_values.specs.declared.scalars.Scalar.{Scalar}
use Rattle.mu_values.specs.declared.scalars.Scalar.TheVariants as scalars
use Rattle.checked_code.specs.declared.blocks.Function.{Function}
use Rattle.checked_code.specs.Checking.{bundle_tables, bundle_functions}
use Rattle.typed_heap.specs.Objects.{HeapObject}
use Rattle.frames.specs.Activations.{Value, Activation}
use Rattle.frames.specs.Chains.{Chain, frames_of}
use Rattle.mem_axioms.specs.declared.types.Rule.{Rule}
use Rattle.mem_axioms.specs.declared.types.Event.{Event}
use Rattle.mu_model.specs.declared.lines.Line.{Line}
use Rattle.mu_model.specs.declared.lines.Line.TheVariants as lines
use Rattle.mu_model.specs.declared.lines.Note.TheVariants.{Exited}
use Rattle.mu_model.specs.declared.endings.StepEnd.TheVariants.{Went}
use Rattle.mu_model.specs.Types.{classes_taken}
use Rattle.mu_model.specs.Configuration.{Ready, Dead}
use Rattle.mu_model.specs.Acts.{Exits, SetsOwn, MakesStack, KillsStack}
use Rattle.mu_model.specs.Outcomes.{Outcome, Stuck}
use Rattle.seats.specs.Seats.{Seats, IsReady}
use Rattle.run_state.specs.Held.{Held}
use Rattle.run_state.specs.Acting.{answers, went_on, acting, goes_on, objects_end, thread_ended}
use Rattle.run_state.specs.ActLaws.{exit_finishes}
use Rattle.stack_acts.specs.StackLaws.{with_other, sets_there, sets_is, with_stack, stack_event, stack_made, makes_goes, makes_is, kills_goes, kills_is}
use Rattle.run_state.specs.AnsweredLines.{answers_lines}

-- ---- another own object

pub own_there : (bundle : List Item) (s v : Held) (r : Scalar) (vs : List Value) → v ≡ s → acting bundle s (SetsOwn r) ≢ Stuck → vs ≡ [] → IsSome (goes_on bundle v.frames.top vs)
own_there bundle s v r vs view h none =
    let here : v.frames.top ≡ s.frames.top = ap (λ (s : Held). s.frames.top) view in
    subst (λ vs. IsSome (goes_on bundle v.frames.top vs)) (sym none) (subst (λ f. IsSome (goes_on bundle f [])) (sym here) (sets_there bundle s r h))

pub own_so : (bundle : List Item) (s v : Held) (r : Scalar) (vs : List Value) (fr : Chain) (st : Seats) (o : Outcome) → v ≡ s → acting bundle s (SetsOwn r) ≢ Stuck → vs ≡ []
    → goes_on bundle v.frames.top vs ≡ Some fr.top → fr.below ≡ v.frames.below → st ≡ with_other r v.thread v.seats → o ≡ went_on (record v { frames = fr; seats = st }) → o ≡ acting bundle s (SetsOwn r)
own_so bundle s v r vs fr st o view h none way below set is =
    let main : acting bundle v (SetsOwn r) ≢ Stuck → o ≡ acting bundle v (SetsOwn r) =
    λ k.
    is ∙ ap (λ bs. went_on (record v { frames = record { top = fr.top; below = bs }; seats = st })) below
    ∙ ap (λ st. went_on (record v { frames = record v.frames { top = fr.top }; seats = st })) set
    ∙ sym (sets_is bundle v r fr.top k (ap (goes_on bundle v.frames.top) (sym none) ∙ way)) in
    subst (λ (s : Held). acting bundle s (SetsOwn r) ≢ Stuck → o ≡ acting bundle s (SetsOwn r)) view main h

-- ---- a stack that is made

-- the list of the one result
one_value : (vs cleared : List Value) (x : Scalar) → cleared ≡ [] → vs ≡ cleared ++ (x ∷ []) ∷ [] → vs ≡ (x ∷ []) ∷ []
one_value vs cleared x none is = is ∙ ap (λ vs. vs ++ (x ∷ []) ∷ []) none

pub makes_there : (bundle : List Item) (s v : Held) (f block k : ℕ) (function : Function) (vs cleared : List Value) → v ≡ s → acting bundle s (MakesStack f) ≢ Stuck
    → slice_get (bundle_functions bundle) f ≡ Some function → function.first ≡ Some block → k ≡ length v.seats.stacks → cleared ≡ [] → vs ≡ cleared ++ (scalars.Stack k ∷ []) ∷ [] → IsSome (goes_on bundle v.frames.top vs)
makes_there bundle s v f block k function vs cleared view h body first count none is =
    let n : k ≡ length s.seats.stacks = count ∙ ap (λ (s : Held). length s.seats.stacks) view in
    let here : v.frames.top ≡ s.frames.top = ap (λ (s : Held). s.frames.top) view in
    let one : vs ≡ (scalars.Stack (length s.seats.stacks) ∷ []) ∷ [] = one_value vs cleared (scalars.Stack k) none is ∙ ap (λ k. (scalars.Stack k ∷ []) ∷ []) n in
    subst (λ vs. IsSome (goes_on bundle v.frames.top vs)) (sym one)
    (subst (λ f. IsSome (goes_on bundle f ((scalars.Stack (length s.seats.stacks) ∷ []) ∷ []))) (sym here) (makes_goes bundle s f block function h body first))

-- what was answered and changed
pub record Makes (bundle : List Item) (v : Held) (f block k number : ℕ) (vs cleared : List Value) (fr : Chain) (st : Seats) (lg after : List Event) (rl kept : Rule) (ls : List Line) : Type 0 where
  pub count : k ≡ length v.seats.stacks
  pub none : cleared ≡ []
  pub one : vs ≡ cleared ++ (scalars.Stack k ∷ []) ∷ []
  pub way : goes_on bundle v.frames.top vs ≡ Some fr.top
  pub numbered : number ≡ length v.log
  pub told : ls ≡ lines.Event number (stack_event v.thread k) ∷ []
  pub same_log : lg ≡ v.log
  pub same_rule : rl ≡ v.rule
  pub stacks : st ≡ with_stack block (classes_taken (bundle_tables bundle) f) v.seats
  pub added : after ≡ stack_event v.thread k ∷ lg
  pub rule_kept : kept ≡ rl
  pub below : fr.below ≡ v.frames.below

module _ (bundle : List Item) (v : Held) (f block k number : ℕ) (vs cleared : List Value) (fr : Chain) (st : Seats) (lg after : List Event) (rl kept : Rule) (ls : List Line)
    (q : Makes bundle v f block k number vs cleared fr st lg after rl kept ls) where
  line_is : ls ≡ lines.Event (length v.log) (stack_event v.thread (length v.seats.stacks)) ∷ []
  line_is = q.told ∙ ap (λ n. lines.Event n (stack_event v.thread k) ∷ []) q.numbered ∙ ap (λ k. lines.Event (length v.log) (stack_event v.thread k) ∷ []) q.count

  log_is : after ≡ stack_event v.thread (length v.seats.stacks) ∷ v.log
  log_is = q.added ∙ ap (λ lg. stack_event v.thread k ∷ lg) q.same_log ∙ ap (λ k. stack_event v.thread k ∷ v.log) q.count

  way_is : goes_on bundle v.frames.top ((scalars.Stack (length v.seats.stacks) ∷ []) ∷ []) ≡ Some fr.top
  way_is =
      let one : vs ≡ (scalars.Stack (length v.seats.stacks) ∷ []) ∷ [] = one_value vs cleared (scalars.Stack k) q.none q.one ∙ ap (λ k. (scalars.Stack k ∷ []) ∷ []) q.count in
      ap (goes_on bundle v.frames.top) (sym one) ∙ q.way

  all_is : answers (Went ls) (record v { frames = fr; seats = st; log = after; rule = kept; steps = v.steps + 1 })
      ≡ answers (Went (lines.Event (length v.log) (stack_event v.thread (length v.seats.stacks)) ∷ [])) (record (stack_made bundle v f block fr.top) { steps = v.steps + 1 })
  all_is =
      ap (λ ls. answers (Went ls) (record v { frames = fr; seats = st; log = after; rule = kept; steps = v.steps + 1 })) line_is
      ∙ ap (λ bs. answers (Went (lines.Event (length v.log) (stack_event v.thread (length v.seats.stacks)) ∷ [])) (record v { frames = record { top = fr.top; below = bs }; seats = st; log = after; rule = kept; steps = v.steps + 1 })) q.below
      ∙ ap (λ st. answers (Went (lines.Event (length v.log) (stack_event v.thread (length v.seats.stacks)) ∷ [])) (record v { frames = record v.frames { top = fr.top }; seats = st; log = after; rule = kept; steps = v.steps + 1 })) q.stacks
      ∙ ap (λ lg. answers (Went (lines.Event (length v.log) (stack_event v.thread (length v.seats.stacks)) ∷ [])) (record v { frames = record v.frames { top = fr.top }; seats = with_stack block (classes_taken (bundle_tables bundle) f) v.seats; log = lg; rule = kept; steps = v.steps + 1 })) log_is
      ∙ ap (λ rl. answers (Went (lines.Event (length v.log) (stack_event v.thread (length v.seats.stacks)) ∷ [])) (record (stack_made bundle v f block fr.top) { rule = rl; steps = v.steps + 1 })) (q.rule_kept ∙ q.same_rule)

  made_here : (function : Function) → v.left ≡ true → acting bundle v (MakesStack f) ≢ Stuck → slice_get (bundle_functions bundle) f ≡ Some function → function.first ≡ Some block → v.stack < length v.seats.stacks
      → answers (Went ls) (record v { frames = fr; seats = st; log = after; rule = kept; steps = v.steps + 1 }) ≡ acting bundle v (MakesStack f)
  made_here function left h body first low =
      all_is ∙ answers_lines (stack_made bundle v f block fr.top) (lines.Event (length v.log) (stack_event v.thread (length v.seats.stacks)) ∷ []) left
      ∙ sym (makes_is bundle v f block function fr.top h body first low way_is)

  pub made_so : (s : Held) (function : Function) → v ≡ s → s.left ≡ true → acting bundle s (MakesStack f) ≢ Stuck → slice_get (bundle_functions bundle) f ≡ Some function → function.first ≡ Some block → v.stack < length v.seats.stacks
      → answers (Went ls) (record v { frames = fr; seats = st; log = after; rule = kept; steps = v.steps + 1 }) ≡ acting bundle s (MakesStack f)
  made_so s function view left h body first low =
      subst (λ (s : Held). s.left ≡ true → acting bundle s (MakesStack f) ≢ Stuck → answers (Went ls) (record v { frames = fr; seats = st; log = after; rule = kept; steps = v.steps + 1 }) ≡ acting bundle s (MakesStack f)) view
      (λ left h. made_here function left h body first low) left h

-- ---- a stack that is killed

pub kills_there : (bundle : List Item) (s v : Held) (x : Scalar) (n : ℕ) (vs : List Value) → v ≡ s → acting bundle s (KillsStack x) ≢ Stuck → x ≡ scalars.Stack n → n ≢ s.stack → IsReady (slice_get s.seats.stacks n)
    → vs ≡ [] → IsSome (goes_on bundle v.frames.top vs)
kills_there bundle s v x n vs view h named other there none =
    let here : v.frames.top ≡ s.frames.top = ap (λ (s : Held). s.frames.top) view in
    subst (λ vs. IsSome (goes_on bundle v.frames.top vs)) (sym none) (subst (λ f. IsSome (goes_on bundle f [])) (sym here) (kills_goes bundle s x n h named other there))

pub killed_so : (bundle : List Item) (s v : Held) (x : Scalar) (n : ℕ) (vs : List Value) (fr gone : Chain) (st : Seats) (os : List HeapObject) (cs : ℕ) (o : Outcome)
    → v ≡ s → acting bundle s (KillsStack x) ≢ Stuck → x ≡ scalars.Stack n → n ≢ s.stack → vs ≡ [] → goes_on bundle v.frames.top vs ≡ Some fr.top → fr.below ≡ v.frames.below
    → slice_get v.seats.stacks n ≡ Some (Ready (frames_of gone)) → st ≡ record v.seats { stacks = slice_set v.seats.stacks n Dead } → os ≡ objects_end v.objects (flat_map (λ (f : Activation). f.objects) (frames_of gone)) → cs ≡ v.cells
    → o ≡ went_on (record v { frames = fr; seats = st; objects = os; cells = cs }) → o ≡ acting bundle s (KillsStack x)
killed_so bundle s v x n vs fr gone st os cs o view h named other none way below there dead ended cells is =
    let seats : Seats = record v.seats { stacks = slice_set v.seats.stacks n Dead } in
    let ends : List HeapObject = objects_end v.objects (flat_map (λ (f : Activation). f.objects) (frames_of gone)) in
    let main : acting bundle v (KillsStack x) ≢ Stuck → n ≢ v.stack → o ≡ acting bundle v (KillsStack x) =
    λ k other.
    is ∙ ap (λ bs. went_on (record v { frames = record { top = fr.top; below = bs }; seats = st; objects = os; cells = cs })) below
    ∙ ap (λ st. went_on (record v { frames = record v.frames { top = fr.top }; seats = st; objects = os; cells = cs })) dead
    ∙ ap (λ os. went_on (record v { frames = record v.frames { top = fr.top }; seats = seats; objects = os; cells = cs })) ended
    ∙ ap (λ m. went_on (record v { frames = record v.frames { top = fr.top }; seats = seats; objects = ends; cells = m })) cells
    ∙ sym (kills_is bundle v x n (frames_of gone) fr.top k named other there (ap (goes_on bundle v.frames.top) (sym none) ∙ way)) in
    subst (λ (s : Held). acting bundle s (KillsStack x) ≢ Stuck → n ≢ s.stack → o ≡ acting bundle s (KillsStack x)) view main h other

-- ---- a thread that exits

pub exits_so : (bundle : List Item) (s v t w : Held) (rest : Chain) (ls : List Line) → v ≡ s → w ≡ t → t ≡ thread_ended s rest → ls ≡ lines.Note (Exited v.thread) ∷ [] → acting bundle s Exits ≢ Stuck
    → answers (Went ls) (record w { steps = w.steps + 1 }) ≡ acting bundle s Exits
exits_so bundle s v t w rest ls view after same told h =
    exit_finishes bundle s (record w { steps = w.steps + 1 }) rest ls h (ap (λ (x : Held). record x { steps = x.steps + 1 }) (after ∙ same)) (told ∙ ap (λ (x : Held). lines.Note (Exited x.thread) ∷ []) view)
