-- Lemmas of acts over objects, over the view of a state and its parts.
use Rattle.std.proofs.Common.{◌≡◌, ◌≢◌, ℕ, ◌+◌, ◌-◌, ◌^◌, ◌<◌, ◌≤◌, Bool, List, [], ◌∷◌, ◌++◌, IsSome, Some, Result, Ok, Err, IfOk, OnOk, length, take, sym, ◌∙◌, ap, subst, arith}
use Rattle.ir_tree.specs.declared.items.Item.{Item}
use Rattle.mu_values.specs.declared.scalars.Scalar.{Scalar}
use Rattle.checked_code.specs.Checking.{bundle_tables}
use Rattle.typed_heap.specs.declared.faults.HeapFault.{HeapFault}
use Rattle.typed_heap.specs.declared.faults.HeapFault.TheVariants as heaps
use Rattle.typed_heap.specs.Objects.{HeapObject, object_of}
use Rattle.typed_heap.specs.Heap.{HeapContents, newest_cells}
use Rattle.typed_heap.specs.Lemmas.Fitted.{newest_counted}
use Rattle.typed_heap.specs.Lemmas.Fitted as fitted
use Rattle.typed_heap.specs.Places.{Way, move, find_place}
use Rattle.frames.specs.Activations.{Value}
use Rattle.frames.specs.Chains.{Chain}
use Rattle.mem_axioms.specs.declared.types.Rule.{Rule}
use Rattle.mem_axioms.specs.declared.types.Event.{Event}
use Rattle.mu_model.specs.declared.endings.StepEnd.{StepEnd}
use Rattle.mu_model.specs.declared.endings.Ending.TheVariants.{HeapFull}
use Rattle.mu_model.specs.Clients.{Client}
use Rattle.mu_model.specs.Acts.{Gives, Finds, Casts}
use Rattle.mu_model.specs.Objects.{cast_any}
use Rattle.mu_model.specs.Outcomes.{Outcome, Stuck}
use Rattle.mu_model.specs.Types.{class_definition}
use Rattle.object_acts.specs.declared.making.Making.{Making}
use Rattle.seats.specs.Seats.{Seats}
use Rattle.run_state.specs.Held.{Held}
use Rattle.run_state.specs.Acting.{answers, went_on, acting, faulting, goes_on}
use Rattle.object_acts.specs.Making.{graph_of, made, act_of, leaves_made, result_made, frame_made, state_made, IsFull}
use Rattle.run_state.specs.ActLaws.{given_there, given_is}
use Rattle.object_acts.specs.ObjectLaws.{finds_there, casts_there, told_exact}
use Rattle.object_acts.specs.CellsAsked.{making_is}

pub finds_at : (bundle : List Item) (s v : Held) (way : Way) (x : Scalar) → v ≡ s → acting bundle s (Finds way x) ≢ Stuck → IsSome (find_place (graph_of bundle) v.objects (move (graph_of bundle) way) x)
finds_at bundle s v way x view h = subst (λ (s : Held). IsSome (find_place (graph_of bundle) s.objects (move (graph_of bundle) way) x)) (sym view) (finds_there bundle s way x h)

pub casts_at : (bundle : List Item) (s v : Held) (class : ℕ) (x : Scalar) → v ≡ s → acting bundle s (Casts class x) ≢ Stuck → IsSome (cast_any (bundle_tables bundle) v.objects (class_definition (bundle_tables bundle) class) x)
casts_at bundle s v class x view h = subst (λ (s : Held). IsSome (cast_any (bundle_tables bundle) s.objects (class_definition (bundle_tables bundle) class) x)) (sym view) (casts_there bundle s class x h)

-- a heap that is as before
pub heap_same : (i k : ℕ) (fr : Chain) (left : Bool) (seats : Seats) (skip : ℕ) (lg : List Event) (ws : List ℕ) (cl : Client) (ps : List ℕ) (rl : Rule) (steps budget : ℕ) (h j : HeapContents) (s : Held) → h ≡ j
    → record { thread = i; stack = k; frames = fr; left = left; seats = seats; objects = j.objects; log = lg; watched = ws; client = cl; picks = ps; skip = skip; rule = rl; cells = j.left; steps = steps; budget = budget } ≡ s
    → record { thread = i; stack = k; frames = fr; left = left; seats = seats; objects = h.objects; log = lg; watched = ws; client = cl; picks = ps; skip = skip; rule = rl; cells = h.left; steps = steps; budget = budget } ≡ s
heap_same i k fr left seats skip lg ws cl ps rl steps budget h j s e view =
    ap (λ (h : HeapContents). record { thread = i; stack = k; frames = fr; left = left; seats = seats; objects = h.objects; log = lg; watched = ws; client = cl; picks = ps; skip = skip; rule = rl; cells = h.left; steps = steps; budget = budget }) e ∙ view

-- so many cells were left
pub full_here : (s v : Held) (f : HeapFault) (n : ℕ) → v ≡ s → IsFull f n v.cells → IsFull f n s.cells
full_here s v f n view h = subst (λ (s : Held). IsFull f n s.cells) view h

-- ---- objects that are made

pub made_there : (bundle : List Item) (s v : Held) (t : ℕ) (m : Making) (n : ℕ) → v ≡ s → length (leaves_made (graph_of bundle) t m) ≤ v.cells → n ≡ length v.objects → acting bundle s (act_of t m) ≢ Stuck
    → IsSome (goes_on bundle (frame_made m v.frames.top n) ((result_made m n ∷ []) ∷ []))
made_there bundle s v t m n view enough number h =
    given_there bundle (state_made bundle v t m n) ((result_made m n ∷ []) ∷ [])
    (λ stuck. subst (λ (s : Held). acting bundle s (act_of t m) ≢ Stuck) (sym view) h (making_is bundle v t m n enough number ∙ stuck))

gave_at : (bundle : List Item) (u : Held) (vs : List Value) (fr : Chain) → acting bundle u (Gives vs) ≢ Stuck → goes_on bundle u.frames.top vs ≡ Some fr.top → fr.below ≡ u.frames.below → went_on (record u { frames = fr }) ≡ acting bundle u (Gives vs)
gave_at bundle u vs fr h way below =
    ap (λ bs. went_on (record u { frames = record { top = fr.top; below = bs } })) below ∙ sym (given_is bundle u vs fr.top h way)

-- what the state holds once the object is made and given
abbrev pub gave_state : Held → List HeapObject → ℕ → List Event → Rule → Chain → Held
gave_state v os left lg rl fr = record v { frames = fr; objects = os; cells = left; log = lg; rule = rl }

gave_same : (bundle : List Item) (v : Held) (cs : List ℕ) (os : List HeapObject) (left : ℕ) (lg : List Event) (rl : Rule) (fr : Chain) → os ≡ v.objects ++ object_of (graph_of bundle) cs ∷ [] → left ≡ v.cells - length cs → lg ≡ v.log → rl ≡ v.rule
    → gave_state v os left lg rl fr ≡ record (made bundle v cs) { frames = fr }
gave_same bundle v cs os left lg rl fr objects cells log rule =
    ap (λ os. gave_state v os left lg rl fr) objects ∙ ap (λ n. gave_state v (v.objects ++ object_of (graph_of bundle) cs ∷ []) n lg rl fr) cells
    ∙ ap (λ lg. gave_state v (v.objects ++ object_of (graph_of bundle) cs ∷ []) (v.cells - length cs) lg rl fr) log
    ∙ ap (λ rl. gave_state v (v.objects ++ object_of (graph_of bundle) cs ∷ []) (v.cells - length cs) v.log rl fr) rule

pub gave_made : (bundle : List Item) (s v : Held) (t : ℕ) (m : Making) (n : ℕ) (os : List HeapObject) (left : ℕ) (lg : List Event) (rl : Rule) (fr : Chain) (o : Outcome) → v ≡ s → length (leaves_made (graph_of bundle) t m) ≤ v.cells → n ≡ length v.objects
    → acting bundle s (act_of t m) ≢ Stuck → os ≡ v.objects ++ object_of (graph_of bundle) (leaves_made (graph_of bundle) t m) ∷ [] → left ≡ v.cells - length (leaves_made (graph_of bundle) t m) → lg ≡ v.log → rl ≡ v.rule
    → goes_on bundle (frame_made m v.frames.top n) ((result_made m n ∷ []) ∷ []) ≡ Some fr.top → fr.below ≡ v.frames.below → o ≡ went_on (gave_state v os left lg rl fr) → o ≡ acting bundle s (act_of t m)
gave_made bundle s v t m n os left lg rl fr o view enough number h objects cells log rule way below e =
    let is : acting bundle v (act_of t m) ≡ acting bundle (state_made bundle v t m n) (Gives ((result_made m n ∷ []) ∷ [])) = making_is bundle v t m n enough number in
    let there : acting bundle v (act_of t m) ≢ Stuck = subst (λ (s : Held). acting bundle s (act_of t m) ≢ Stuck) (sym view) h in
    e ∙ ap went_on (gave_same bundle v (leaves_made (graph_of bundle) t m) os left lg rl fr objects cells log rule)
    ∙ gave_at bundle (state_made bundle v t m n) ((result_made m n ∷ []) ∷ []) fr (λ stuck. there (is ∙ stuck)) way below ∙ sym is ∙ ap (λ (s : Held). acting bundle s (act_of t m)) view

-- where no memory is found the object is taken back
pub back_so : (s v : Held) (fr : Chain) (os : List HeapObject) (left : ℕ) (lg : List Event) (rl : Rule) → v ≡ s → fr ≡ v.frames → os ≡ v.objects → left ≡ v.cells → lg ≡ v.log → rl ≡ v.rule → gave_state v os left lg rl fr ≡ s
back_so s v fr os left lg rl view frames objects cells log rule =
    ap (gave_state v os left lg rl) frames ∙ ap (λ os. gave_state v os left lg rl v.frames) objects ∙ ap (λ n. gave_state v v.objects n lg rl v.frames) cells ∙ ap (λ lg. gave_state v v.objects v.cells lg rl v.frames) log
    ∙ ap (λ rl. gave_state v v.objects v.cells v.log rl v.frames) rule ∙ view

pub back_cells : (bundle : List Item) (os ps : List HeapObject) (cs : List ℕ) (left now : ℕ) → ps ≡ os ++ object_of (graph_of bundle) cs ∷ [] → now ≡ left - length cs → length cs ≤ left → now + newest_cells ps ≡ left
back_cells bundle os ps cs left now is cells enough =
    let newest : newest_cells ps ≡ length cs = ap newest_cells is ∙ newest_counted os (object_of (graph_of bundle) cs) in
    omega (arith, newest, cells, enough)

pub back_objects : (bundle : List Item) (os ps qs : List HeapObject) (cs : List ℕ) → ps ≡ os ++ object_of (graph_of bundle) cs ∷ [] → qs ≡ take (length ps - 1) ps → qs ≡ os
back_objects bundle os ps qs cs is back = back ∙ ap (λ (ps : List HeapObject). take (length ps - 1) ps) is ∙ fitted.taken_back os (object_of (graph_of bundle) cs)

-- ---- cells that are refused

refused_is : (bundle : List Item) (s t : Held) (cs : List ℕ) (asked left : ℕ) (o : Outcome) → (s.cells < length cs → o ≡ faulting bundle s (HeapFull s.thread (length cs) s.cells)) → t ≡ s
    → IsFull (heaps.HeapFull asked left) (length cs) s.cells → asked < 2 ^ 128 - 1 → o ≡ faulting bundle t (HeapFull t.thread asked left)
refused_is bundle s t cs asked left o is same full exact =
    is full.0
    ∙ ap (λ n. faulting bundle s (HeapFull s.thread n s.cells)) (sym (told_exact (length cs) asked full.2 exact))
    ∙ ap (λ n. faulting bundle s (HeapFull s.thread asked n)) (sym full.1)
    ∙ ap (λ (s : Held). faulting bundle s (HeapFull s.thread asked left)) (sym same)

pub refused_there : (bundle : List Item) (s t : Held) (cs : List ℕ) (f : HeapFault) (asked left : ℕ) (o : Outcome) → (s.cells < length cs → o ≡ faulting bundle s (HeapFull s.thread (length cs) s.cells)) → t ≡ s
    → IsFull f (length cs) s.cells → f ≡ heaps.HeapFull asked left → o ≢ Stuck → asked < 2 ^ 128 - 1 → faulting bundle t (HeapFull t.thread asked left) ≢ Stuck
refused_there bundle s t cs f asked left o is same full fault h exact =
    λ stuck. h (refused_is bundle s t cs asked left o is same (subst (λ f. IsFull f (length cs) s.cells) fault full) exact ∙ stuck)

pub refused_so : {E : Type 0} (bundle : List Item) (r : Result StepEnd E) (s t u : Held) (cs : List ℕ) (f : HeapFault) (asked left : ℕ) (o : Outcome) → (s.cells < length cs → o ≡ faulting bundle s (HeapFull s.thread (length cs) s.cells)) → t ≡ s
    → IsFull f (length cs) s.cells → f ≡ heaps.HeapFull asked left → OnOk r (asked < 2 ^ 128 - 1) → IfOk r (λ end. answers end u ≡ faulting bundle t (HeapFull t.thread asked left)) → IfOk r (λ end. answers end u ≡ o)
refused_so bundle (Ok end) s t u cs f asked left o is same full fault exact h = h ∙ sym (refused_is bundle s t cs asked left o is same (subst (λ f. IsFull f (length cs) s.cells) fault full) exact)
refused_so bundle (Err e) s t u cs f asked left o is same full fault exact h = tt
