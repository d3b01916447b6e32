-- Lemmas of acts, over the view of a state and its parts.
use Rattle.std.proofs.Common.{◌≡◌, ◌≢◌, refl, Bool, true, ℕ, zero, suc, ◌+◌, ◌<◌, List, [], ◌∷◌, ◌++◌, None, Some, IsSome, IfSome, IsSomeAnd, length, slice_get, slice_index_or, take, drop, sym, ◌∙◌, ap, subst, arith}
use Rattle.std.specs.List.{flat_map}
use Rattle.std.specs.Prelude.{◌==◌}
use Rattle.std.proofs.lemmas.Bool.{eqb-true}
use Rattle.ir_tree.specs.declared.items.Item.{Item}
use Rattle.mu_values.specs.declared.scalars.Scalar.{Scalar}
use Rattle.mu_values.specs.declared.scalars.Scalar.TheVariants.{Null}
use Rattle.mu_values.specs.Slots.{TypedValues}
use Rattle.checked_code.specs.declared.code.Code.{Code}
use Rattle.checked_code.specs.declared.code.Target.{Target}
use Rattle.checked_code.specs.declared.blocks.BlockCode.{BlockCode}
use Rattle.checked_code.specs.Checking.{bundle_blocks}
use Rattle.checked_code.specs.Answers.{code_at}
use Rattle.typed_heap.specs.Objects.{HeapObject}
use Rattle.frames.specs.Activations.{Value, Goal, Activation}
use Rattle.frames.specs.Chains.{Chain, frames_of, nothing_kept, stands}
use Rattle.frames.specs.FrameOf.{frame_of, goal_of}
use Rattle.frames.specs.Handlers.{first_handler}
use Rattle.frames.specs.declared.frame.Frame.{Frame}
use Rattle.mu_model.specs.declared.endings.Ending.{Ending}
use Rattle.mu_model.specs.Acts.{Gives, Returns, Throws}
use Rattle.mu_model.specs.Outcomes.{Outcome, Stuck}
use Rattle.model_numbers.specs.Sources.{goal_at}
use Rattle.model_numbers.specs.Numbered.{optional_goal_at, kept_at}
use Rattle.mu_model.specs.declared.lines.Line.{Line}
use Rattle.mu_model.specs.declared.lines.Line.TheVariants as lines
use Rattle.mu_model.specs.declared.lines.Note.TheVariants.{Returned}
use Rattle.mu_model.specs.declared.endings.StepEnd.TheVariants.{Went}
use Rattle.run_state.specs.Held.{Held}
use Rattle.run_state.specs.Acting.{answers, went_on, acting, faulting, goes_on, gets, awaits, entered_above, objects_end, thread_ended}
use Rattle.run_state.specs.ActLaws.{given_there, given_is, fault_gets, fault_goes, gets_there, awaited_there, return_there, return_is, return_next, throw_is, drop_at, return_finishes}
use Rattle.run_state.specs.Passing.{handled}

-- ---- results

pub gives_there : (bundle : List Item) (s v : Held) (vs : List Value) (f : Activation) → v ≡ s → acting bundle s (Gives vs) ≢ Stuck → f ≡ v.frames.top → IsSome (goes_on bundle f vs)
gives_there bundle s v vs f view h e = subst (λ f. IsSome (goes_on bundle f vs)) (sym (e ∙ ap (λ (x : Held). x.frames.top) view)) (given_there bundle s vs h)

pub gave : (bundle : List Item) (s v : Held) (vs : List Value) (fr : Chain) (o : Outcome) → v ≡ s → acting bundle s (Gives vs) ≢ Stuck
    → goes_on bundle v.frames.top vs ≡ Some fr.top → fr.below ≡ v.frames.below → o ≡ went_on (record v { frames = fr }) → o ≡ acting bundle s (Gives vs)
gave bundle s v vs fr o view h way below is =
    let main : acting bundle v (Gives vs) ≢ Stuck → o ≡ acting bundle v (Gives vs) =
    λ k. is ∙ ap (λ bs. went_on (record v { frames = record { top = fr.top; below = bs } })) below ∙ sym (given_is bundle v vs fr.top k way) in
    subst (λ s. acting bundle s (Gives vs) ≢ Stuck → o ≡ acting bundle s (Gives vs)) view main h

-- ---- calls

no_number : (ns : List ℕ) → length ns ≡ 0 → ns ≡ []
no_number [] e = refl
no_number (n ∷ ns) e = absurd (omega (arith, e))

pub none_listed : (ks ns : List ℕ) (empty : Bool) → ks ≡ ns → empty ≡ (length ks == 0) → empty ≡ true → ns ≡ []
none_listed ks ns empty listed is e = sym listed ∙ no_number ks (eqb-true (length ks) 0 (sym is ∙ e))

-- a frame stands above the one that was there, which waits for values
pub entered_so : (s v : Held) (fr : Chain) (f g : Activation) (ws cs : List ℕ) (o : Outcome) → v ≡ s → fr.top ≡ f → fr.below ≡ record v.frames.top { waits = ws; handler = None; kept = nothing_kept } ∷ v.frames.below → ws ≡ cs → f ≡ g
    → o ≡ went_on (record v { frames = fr }) → o ≡ went_on (record s { frames = entered_above s.frames g (record { waits = cs; handler = None; kept = nothing_kept }) })
entered_so s v fr f g ws cs o view top below classes frame is =
    let main : o ≡ went_on (record v { frames = entered_above v.frames g (record { waits = cs; handler = None; kept = nothing_kept }) }) =
    is ∙ ap (λ t. went_on (record v { frames = record { top = t; below = fr.below } })) (top ∙ frame)
    ∙ ap (λ bs. went_on (record v { frames = record { top = g; below = bs } })) below
    ∙ ap (λ ws. went_on (record v { frames = entered_above v.frames g (record { waits = ws; handler = None; kept = nothing_kept }) })) classes in
    subst (λ (s : Held). o ≡ went_on (record s { frames = entered_above s.frames g (record { waits = cs; handler = None; kept = nothing_kept }) })) view main

-- ---- places that are known by an index

pub there_by : {A : Type 0} (xs : List A) (n : ℕ) (r : A) → n < length xs → r ≡ slice_index_or xs n r → slice_get xs n ≡ Some r
there_by [] n r h e = absurd (omega arith)
there_by (x ∷ xs) zero r h e = ap Some (sym e)
there_by (x ∷ xs) (suc n) r h e = there_by xs n r (omega arith) e

-- ---- what a frame waits for

pub record WaitsAt (bundle : List Item) (f : Activation) (b : BlockCode) (i : Code) : Type 0 where
  pub there : slice_get b.code f.at ≡ Some i
  pub exceptional : IsSome (optional_goal_at bundle f.vars i.exceptional)
  pub kept : IsSome (kept_at b.classes f.vars i.keepalive)

pub waits_at : (bundle : List Item) (f : Activation) (cs : List ℕ) (b : BlockCode) (xs : List Code) (i : Code) → IsSome (awaits bundle f cs) → slice_get (bundle_blocks bundle) f.block ≡ Some b
    → xs ≡ b.code → i ≡ slice_index_or xs f.at i → WaitsAt bundle f b i
waits_at bundle f cs b xs i h there listed is =
    let q = awaited_there bundle f cs h in
    let same : q.0 ≡ b = let found = q.1 in cc in
    let within : f.at < length b.code = subst (λ (b : BlockCode). f.at < length b.code) same q.7 in
    let here : slice_get b.code f.at ≡ Some i = there_by b.code f.at i within (subst (λ xs. i ≡ slice_index_or xs f.at i) listed is) in
    let code : q.2 ≡ i = let found = subst (λ (b : BlockCode). slice_get b.code f.at ≡ Some q.2) same q.3 in cc in
    record {
      there = here;
      exceptional = subst (λ (i : Code). IsSome (optional_goal_at bundle f.vars i.exceptional)) code q.4;
      kept = subst (λ (i : Code). IsSome (kept_at b.classes f.vars i.keepalive)) code (subst (λ (b : BlockCode). IsSome (kept_at b.classes f.vars q.2.keepalive)) same q.5);
    }

pub kept_same : (types cs : List ℕ) (vs : List Value) (ns ms : List ℕ) → cs ≡ types → ms ≡ ns → IsSome (kept_at types vs ns) → IsSome (kept_at cs vs ms)
kept_same types cs vs ns ms a b h = subst (λ cs. IsSome (kept_at cs vs ms)) (sym a) (subst (λ ns. IsSome (kept_at types vs ns)) (sym b) h)

pub kept_is : (types cs : List ℕ) (vs : List Value) (ns ms : List ℕ) (k : TypedValues) → cs ≡ types → ms ≡ ns → kept_at cs vs ms ≡ Some k → kept_at types vs ns ≡ Some k
kept_is types cs vs ns ms k a b h = ap (λ cs. kept_at cs vs ns) (sym a) ∙ ap (λ ns. kept_at cs vs ns) (sym b) ∙ h

-- ---- faults

pub fault_within : (bundle : List Item) (s v : Held) (k : Ending) (f : Activation) (i : Code) (t : Target) (vs out : List Value) → v ≡ s → f ≡ v.frames.top → faulting bundle s k ≢ Stuck → code_at bundle f.block f.at ≡ Some i
    → i.exceptional ≡ Some t → vs ≡ f.vars → goal_at bundle vs t ≡ Some (record { block = t.block; values = out }) → t.block < length (bundle_blocks bundle)
fault_within bundle s v k f i t vs out view e h code way vars goal =
    let g : Goal = record { block = t.block; values = out } in
    let at : s.frames.top ≡ f = sym (e ∙ ap (λ (x : Held). x.frames.top) view) in
    let aim : goal_at bundle f.vars t ≡ Some g = ap (λ vs. goal_at bundle vs t) (sym vars) ∙ goal in
    subst (λ f. code_at bundle f.block f.at ≡ Some i → goal_at bundle f.vars t ≡ Some g → t.block < length (bundle_blocks bundle)) at
    (λ code aim. gets_there bundle s.frames.top g Null (fault_gets bundle s k i t g h code way aim)) code aim

pub fault_so : (bundle : List Item) (s v : Held) (k : Ending) (f : Activation) (i : Code) (t : Target) (vs out left : List Value) (o : Outcome) → v ≡ s → f ≡ v.frames.top → faulting bundle s k ≢ Stuck → code_at bundle f.block f.at ≡ Some i
    → i.exceptional ≡ Some t → vs ≡ f.vars → goal_at bundle vs t ≡ Some (record { block = t.block; values = out })
    → ((x : Activation) → gets bundle x (record { block = t.block; values = out }) Null ≡ Some (stands x t.block 0 left))
    → o ≡ went_on (record s { frames = record s.frames { top = stands s.frames.top t.block 0 left } }) → o ≡ faulting bundle s k
fault_so bundle s v k f i t vs out left o view e h code way vars goal got is =
    let g : Goal = record { block = t.block; values = out } in
    let at : s.frames.top ≡ f = sym (e ∙ ap (λ (x : Held). x.frames.top) view) in
    let aim : goal_at bundle f.vars t ≡ Some g = ap (λ vs. goal_at bundle vs t) (sym vars) ∙ goal in
    subst (λ f. code_at bundle f.block f.at ≡ Some i → goal_at bundle f.vars t ≡ Some g → o ≡ faulting bundle s k) at
    (λ code aim. is ∙ sym (fault_goes bundle s k i t g (stands s.frames.top t.block 0 left) h code way aim (got s.frames.top))) code aim

-- ---- returns

pub returns_there : (bundle : List Item) (s v : Held) (vs : TypedValues) (f : Activation) → v ≡ s → acting bundle s (Returns vs) ≢ Stuck → slice_get (frames_of v.frames) 1 ≡ Some f → IsSome (goes_on bundle f vs.values)
returns_there bundle s v vs f view h e = return_there bundle s vs f h (ap (λ (x : Held). slice_get (frames_of x.frames) 1) (sym view) ∙ e)

pub returned_so : (bundle : List Item) (s v : Held) (vs : TypedValues) (out : List Value) (f : Activation) (block at : ℕ) (left fr : Chain) (os : List HeapObject) (cs : ℕ) (ns : List ℕ) (o : Outcome)
    → v ≡ s → acting bundle s (Returns vs) ≢ Stuck → slice_get (frames_of v.frames) 1 ≡ Some f → goes_on bundle f vs.values ≡ Some (stands f block at out) → frames_of left ≡ v.frames.below
    → os ≡ objects_end v.objects ns → ns ≡ v.frames.top.objects → cs ≡ v.cells → fr ≡ record left { top = stands left.top block at out } → o ≡ went_on (record v { frames = fr; objects = os; cells = cs }) → o ≡ acting bundle s (Returns vs)
returned_so bundle s v vs out f block at left fr os cs ns o view h second way rest ended names cells same is =
    let top : f ≡ left.top = let there : slice_get (frames_of left) 0 ≡ Some f = ap (λ bs. slice_get bs 0) rest ∙ second in cc in
    let on : goes_on bundle left.top vs.values ≡ Some (stands left.top block at out) = subst (λ f. goes_on bundle f vs.values ≡ Some (stands f block at out)) top way in
    let main : acting bundle v (Returns vs) ≢ Stuck → o ≡ acting bundle v (Returns vs) =
    λ k. is ∙ ap (λ fr. went_on (record v { frames = fr; objects = os; cells = cs })) same
    ∙ ap (λ os. went_on (record v { frames = record left { top = stands left.top block at out }; objects = os; cells = cs })) (ended ∙ ap (objects_end v.objects) names)
    ∙ ap (λ n. went_on (record v { frames = record left { top = stands left.top block at out }; objects = objects_end v.objects v.frames.top.objects; cells = n })) cells
    ∙ sym (return_is bundle v vs left (stands left.top block at out) k rest on) in
    subst (λ s. acting bundle s (Returns vs) ≢ Stuck → o ≡ acting bundle s (Returns vs)) view main h

-- a return to a frame that goes on at the next place
pub returned_next : (bundle : List Item) (s v : Held) (vs : TypedValues) (f : Activation) (at : ℕ) (o : Outcome) → v ≡ s → acting bundle s (Returns vs) ≢ Stuck → slice_get (frames_of v.frames) 1 ≡ Some f
    → goes_on bundle f vs.values ≡ Some (stands f f.block at (f.vars ++ vs.values))
    → IfSome (slice_get s.frames.below 0) (λ f. o ≡ went_on (record s { frames = record { top = stands f f.block at (f.vars ++ vs.values); below = drop 1 s.frames.below }; objects = objects_end s.objects s.frames.top.objects }))
    → o ≡ acting bundle s (Returns vs)
returned_next bundle s v vs f at o view h second way told =
    let there : slice_get s.frames.below 0 ≡ Some f = ap (λ (x : Held). slice_get x.frames.below 0) (sym view) ∙ second in
    let is : o ≡ went_on (record s { frames = record { top = stands f f.block at (f.vars ++ vs.values); below = drop 1 s.frames.below }; objects = objects_end s.objects s.frames.top.objects }) =
    subst (λ x. IfSome x (λ f. o ≡ went_on (record s { frames = record { top = stands f f.block at (f.vars ++ vs.values); below = drop 1 s.frames.below }; objects = objects_end s.objects s.frames.top.objects }))) there told in
    is ∙ sym (return_next bundle s vs f (stands f f.block at (f.vars ++ vs.values)) h there way)

-- the bottom frame returns
pub returned_last : (bundle : List Item) (s v w u : Held) (vs ws : TypedValues) (ls : List Line) → v ≡ s → w ≡ u → u ≡ thread_ended s u.frames → ls ≡ lines.Note (Returned v.thread ws) ∷ [] → ws ≡ vs
    → acting bundle s (Returns vs) ≢ Stuck → s.frames.below ≡ [] → answers (Went ls) (record w { steps = w.steps + 1 }) ≡ acting bundle s (Returns vs)
returned_last bundle s v w u vs ws ls view after is told values h bottom =
    return_finishes bundle s (record w { steps = w.steps + 1 }) vs u.frames ls h bottom (ap (λ (w : Held). record w { steps = w.steps + 1 }) (after ∙ is))
    (told ∙ ap (λ (s : Held). lines.Note (Returned s.thread ws) ∷ []) view ∙ ap (λ vs. lines.Note (Returned s.thread vs) ∷ []) values)

-- ---- exceptions

pub caught_so : (bundle : List Item) (s v : Held) (e : Scalar) (n : ℕ) (f : Frame) (block : ℕ) (out taken : List Value) (left : Chain) (os : List HeapObject) (cs : ℕ) (o : Outcome)
    → v ≡ s → acting bundle s (Throws e) ≢ Stuck → first_handler (frames_of s.frames) ≡ Some n → slice_get (frames_of v.frames) n ≡ Some (frame_of f)
    → IsSomeAnd f.handler (λ h. goal_of h ≡ record { block = block; values = out }) → ((x : Activation) → gets bundle x (record { block = block; values = out }) e ≡ Some (stands x block 0 taken))
    → frames_of left ≡ drop n (frames_of v.frames) → os ≡ objects_end v.objects (flat_map (λ (f : Activation). f.objects) (take n (frames_of v.frames))) → cs ≡ v.cells
    → o ≡ went_on (record v { frames = record left { top = stands left.top block 0 taken }; objects = os; cells = cs }) → o ≡ acting bundle s (Throws e)
caught_so bundle s v e n f block out taken left os cs o view h first there handler got rest ended cells is =
    let g : Goal = record { block = block; values = out } in
    let main : acting bundle v (Throws e) ≢ Stuck → first_handler (frames_of v.frames) ≡ Some n → o ≡ acting bundle v (Throws e) =
    λ k first.
    let top : left.top ≡ frame_of f = (drop_at (frames_of v.frames) n (frame_of f) left.top left.below there rest).0 in
    is ∙ ap (λ t. went_on (record v { frames = record left { top = stands t block 0 taken }; objects = os; cells = cs })) top
    ∙ ap (λ os. went_on (record v { frames = record left { top = stands (frame_of f) block 0 taken }; objects = os; cells = cs })) ended
    ∙ ap (λ m. went_on (record v { frames = record left { top = stands (frame_of f) block 0 taken }; objects = objects_end v.objects (flat_map (λ (f : Activation). f.objects) (take n (frames_of v.frames))); cells = m })) cells
    ∙ sym (throw_is bundle v e n left (frame_of f) g (stands (frame_of f) block 0 taken) k first there (handled f.handler g handler) rest (got (frame_of f))) in
    subst (λ s. acting bundle s (Throws e) ≢ Stuck → first_handler (frames_of s.frames) ≡ Some n → o ≡ acting bundle s (Throws e)) view main h first
