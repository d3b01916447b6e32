-- Laws of the step of the thread in hand.
use Rattle.std.specs.Prelude.{◌≡◌, ◌≢◌, ℕ, zero, suc, ◌+◌, ◌<◌, Bool, true, List, [], ◌∷◌, Option, Some, None, Result, Ok, Err, IfOk, IsSome, is_some, length, find, slice_get, slice_set, option_map, option_and_then, if◌then◌else◌, refl}
use Rattle.std.proofs.Common.{sym, ◌∙◌, ap, arith, add-one}
use Rattle.ir_tree.specs.declared.items.Item.{Item}
use Rattle.checked_code.specs.declared.code.Code.{Code}
use Rattle.checked_code.specs.declared.blocks.BlockCode.{BlockCode}
use Rattle.checked_code.specs.Checking.{bundle_blocks}
use Rattle.checked_code.specs.Answers.{code_at}
use Rattle.typed_heap.specs.declared.faults.PlaceFault.{PlaceFault}
use Rattle.typed_heap.specs.Places.{with_some}
use Rattle.frames.specs.Activations.{Activation}
use Rattle.mu_model.specs.declared.lines.Line.{Line}
use Rattle.mu_model.specs.declared.endings.StepEnd.{StepEnd}
use Rattle.mu_model.specs.declared.endings.StepEnd.TheVariants.{Went, Ended}
use Rattle.mu_model.specs.declared.endings.Case.{Case}
use Rattle.mu_model.specs.declared.endings.Ending.{Ending}
use Rattle.mu_model.specs.Clients.{Client}
use Rattle.mu_model.specs.Configuration.{Configuration}
use Rattle.mu_model.specs.Acts.{Act, Faults, Doing, Program}
use Rattle.mu_model.specs.Outcomes.{Outcome, Next, End, Stuck, on, unless_refused, tried, or_case, case_of_fault}
use Rattle.mu_model.specs.Step.{performed, turned}
use Rattle.futex.specs.Waiting.{is_of}
use Rattle.model_numbers.specs.Forms.{act_at}
use Rattle.model_numbers.specs.Numbered.{does_at, numbered}
use Rattle.client_hooks.specs.Ways.{Way}
use Rattle.run_state.specs.Outcome.{outcome_of}
use Rattle.run_state.specs.Held.{Held, held_stacks, configured, configuration}
use Rattle.run_state.specs.Acting.{told, left_configuration, begun, turn, doing_of, stepping, answers, went_on, acting, found_or}

-- ---- what goes on with something

pub on_there : {A : Type 0} (o : Option A) (go : A → Outcome) → on o go ≢ Stuck → (a : A) × (o ≡ Some a) × (go a ≢ Stuck)
unfolding on
on_there None go h = absurd (h refl)
on_there (Some a) go h = (a, refl, h)

pub on_is : {A : Type 0} (o : Option A) (a : A) (go : A → Outcome) → o ≡ Some a → on o go ≡ go a
unfolding on
on_is o a go e = ap (λ x. on x go) e

pub on_with : {A B : Type 0} (o : Option A) (f : A → B) (go : B → Outcome) → on (with_some o (λ a. Some (f a))) go ≡ on o (λ a. go (f a))
unfolding on
on_with None f go = refl
on_with (Some a) f go = refl

pub some_there : {A : Type 0} (o : Option A) (a : A) → o ≡ Some a → IsSome o
some_there o a e = ap is_some e

pub some_of : {A : Type 0} (o : Option A) → IsSome o → (a : A) × (o ≡ Some a)
some_of None h = cc
some_of (Some a) h = (a, refl)

pub with_there : {A B : Type 0} (o : Option A) (f : A → Option B) (b : B) → with_some o f ≡ Some b → (a : A) × (o ≡ Some a) × (f a ≡ Some b)
with_there None f b h = cc
with_there (Some a) f b h = (a, refl, h)

pub with_is : {A B : Type 0} (o : Option A) (a : A) (f : A → Option B) → o ≡ Some a → with_some o f ≡ f a
with_is o a f e = ap (λ x. with_some x f) e

pub get_below : {A : Type 0} (xs : List A) (n : ℕ) (x : A) → slice_get xs n ≡ Some x → n < length xs
get_below [] n x e = cc
get_below (y ∷ ys) zero x e = omega arith
get_below (y ∷ ys) (suc n) x e = let more = get_below ys n x e in omega (arith, more)

-- ---- lists with one element written

pub set_again : {A : Type 0} (xs : List A) (n : ℕ) (a b : A) → slice_set (slice_set xs n a) n b ≡ slice_set xs n b
set_again [] n a b = refl
set_again (x ∷ xs) zero a b = refl
set_again (x ∷ xs) (suc n) a b = ap (λ ys. x ∷ ys) (set_again xs n a b)

pub set_there : {A : Type 0} (xs : List A) (n : ℕ) (a : A) → n < length xs → slice_get (slice_set xs n a) n ≡ Some a
set_there [] n a h = absurd (omega (arith, h))
set_there (x ∷ xs) zero a h = refl
set_there (x ∷ xs) (suc n) a h = set_there xs n a (omega (arith, h))

pub set_same : {A : Type 0} (xs : List A) (n : ℕ) (a : A) → slice_get xs n ≡ Some a → slice_set xs n a ≡ xs
set_same [] n a h = refl
set_same (x ∷ xs) zero a h = let same : x ≡ a = cc in ap (λ y. y ∷ xs) (sym same)
set_same (x ∷ xs) (suc n) a h = ap (λ ys. x ∷ ys) (set_same xs n a h)

-- ---- configurations

pub configuration_left : (s : Held) → s.left ≡ true → configuration s ≡ left_configuration s
configuration_left s e = ap (λ (left : Bool). configured s (if left then held_stacks s else s.seats.stacks)) e

-- ---- answers

pub answers_on : (s t : Held) (ls : List Line) → s.left ≡ true → t ≡ record s { steps = s.steps + 1 } → ls ≡ [] → answers (Went ls) t ≡ went_on s
unfolding answers went_on
answers_on s t ls e same none =
    ap (λ r. outcome_of (Went r) (configuration t)) none ∙ ap (λ r. outcome_of (Went []) (configuration r)) same
    ∙ ap (outcome_of (Went [])) (configuration_left (record s { steps = s.steps + 1 }) e) ∙ ap (λ n. Next (left_configuration (record s { steps = n }))) (add-one s.steps)

pub answers_end : (s : Held) (ls : List Line) (e : Ending) → ls ≡ [] → answers (Ended ls e) s ≡ End [] e
unfolding answers
answers_end s ls e none = ap (λ r. End r e) none

pub ends_with : (c : Configuration) (s : Held) (end : StepEnd) (e : Ending) → answers end s ≡ End [] e → configuration s ≡ c → outcome_of end c ≡ End [] e
unfolding answers
ends_with c s end e h same = ap (outcome_of end) (sym same) ∙ h

-- what an answer says is no question
pub told_so : (w : Way) (bundle : List Item) (k : Client) (end : StepEnd) (s : Held) (o : Outcome) → answers end s ≡ o → answers end s ≡ told w bundle k o
unfolding answers
told_so w bundle k (Went ls) s o h = ap (told w bundle k) h
told_so w bundle k (Ended ls e) s o h = ap (told w bundle k) h

pub told_plain : {E : Type 0} (w : Way) (bundle : List Item) (k : Client) (r : Result StepEnd E) (s : Held) (o : Outcome) → IfOk r (λ end. answers end s ≡ o) → IfOk r (λ end. answers end s ≡ told w bundle k o)
told_plain w bundle k (Ok end) s o h = told_so w bundle k end s o h
told_plain w bundle k (Err e) s o h = tt

-- ---- steps

-- the thread in hand waits nowhere
abbrev pub GoesOn : Held → Type 0
GoesOn s = find (is_of s.thread) s.seats.waiters ≡ None

step_acting : (bundle : List Item) (s : Held) → GoesOn s → stepping bundle s ≡ on (doing_of (numbered bundle) s) (λ d. on d.act (performed (numbered bundle) (begun s) (turn s d)))
unfolding stepping
step_acting bundle s e = ap (λ w. on (doing_of (numbered bundle) s) (λ d. turned (numbered bundle) (begun s) w (turn s d))) e

-- ---- what stands at a place

pub doing_at : (bundle : List Item) (f : Activation) (d : Doing) → (numbered bundle).doing f.block f.at f.vars ≡ Some d
    → (b : BlockCode) × (slice_get (bundle_blocks bundle) f.block ≡ Some b) × (i : Code) × (slice_get b.code f.at ≡ Some i) × (d ≡ does_at bundle b.classes f.vars i)
doing_at bundle f d h =
    let outer = with_there (slice_get (bundle_blocks bundle) f.block) (λ b. with_some (slice_get b.code f.at) (λ i. Some (does_at bundle b.classes f.vars i))) d h in
    let inner = with_there (slice_get outer.0.code f.at) (λ i. Some (does_at bundle outer.0.classes f.vars i)) d outer.2 in
    let same : d ≡ does_at bundle outer.0.classes f.vars inner.0 = cc in
    (outer.0, outer.1, inner.0, inner.1, same)

pub doing_is : (bundle : List Item) (f : Activation) (b : BlockCode) (i : Code) → slice_get (bundle_blocks bundle) f.block ≡ Some b → slice_get b.code f.at ≡ Some i
    → (numbered bundle).doing f.block f.at f.vars ≡ Some (does_at bundle b.classes f.vars i)
doing_is bundle f b i there at =
    with_is (slice_get (bundle_blocks bundle) f.block) b (λ b. with_some (slice_get b.code f.at) (λ i. Some (does_at bundle b.classes f.vars i))) there
    ∙ with_is (slice_get b.code f.at) i (λ i. Some (does_at bundle b.classes f.vars i)) at

pub code_is : (bundle : List Item) (block at : ℕ) (b : BlockCode) (i : Code) → slice_get (bundle_blocks bundle) block ≡ Some b → slice_get b.code at ≡ Some i → code_at bundle block at ≡ Some i
code_is bundle block at b i there here = ap (λ o. option_and_then (λ (b : BlockCode). slice_get b.code at) o) there ∙ here

code_by : (at : ℕ) (o : Option BlockCode) (i : Code) → option_and_then (λ (b : BlockCode). slice_get b.code at) o ≡ Some i → (b : BlockCode) × (o ≡ Some b) × (slice_get b.code at ≡ Some i)
code_by at None i h = cc
code_by at (Some b) i h = (b, refl, h)

pub code_there : (bundle : List Item) (block at : ℕ) (i : Code) → code_at bundle block at ≡ Some i → (b : BlockCode) × (slice_get (bundle_blocks bundle) block ≡ Some b) × (slice_get b.code at ≡ Some i)
code_there bundle block at i h = code_by at (slice_get (bundle_blocks bundle) block) i h

-- a step that has a rule stands at an instruction that asks something
pub step_stands : (bundle : List Item) (s : Held) → GoesOn s → stepping bundle s ≢ Stuck
    → (b : BlockCode) × (slice_get (bundle_blocks bundle) s.frames.top.block ≡ Some b) × (i : Code) × (slice_get b.code s.frames.top.at ≡ Some i)
    × IsSome (act_at bundle b.classes s.frames.top.vars i.form) × (s.frames.top.block < length (bundle_blocks bundle)) × (s.frames.top.at < length b.code)
step_stands bundle s e h =
    let r = on_there (doing_of (numbered bundle) s) (λ d. on d.act (performed (numbered bundle) (begun s) (turn s d))) (λ k. h (step_acting bundle s e ∙ k)) in
    let q = doing_at bundle s.frames.top r.0 r.1 in
    let a = on_there r.0.act (performed (numbered bundle) (begun s) (turn s r.0)) r.2 in
    let there : IsSome (act_at bundle q.0.classes s.frames.top.vars q.2.form) = some_there (act_at bundle q.0.classes s.frames.top.vars q.2.form) a.0 (sym (ap (λ (d : Doing). d.act) q.4) ∙ a.1) in
    (q.0, q.1, q.2, q.3, there, get_below (bundle_blocks bundle) s.frames.top.block q.0 q.1, get_below q.0.code s.frames.top.at q.2 q.3)

-- and is that act
pub step_acts : (bundle : List Item) (s : Held) (b : BlockCode) (i : Code) (a : Act) → GoesOn s
    → slice_get (bundle_blocks bundle) s.frames.top.block ≡ Some b → slice_get b.code s.frames.top.at ≡ Some i → act_at bundle b.classes s.frames.top.vars i.form ≡ Some a
    → stepping bundle s ≡ acting bundle s a
unfolding acting
step_acts bundle s b i a e there at asks =
    let d = does_at bundle b.classes s.frames.top.vars i in
    let is : doing_of (numbered bundle) s ≡ Some d = doing_is bundle s.frames.top b i there at in
    step_acting bundle s e
    ∙ on_is (doing_of (numbered bundle) s) d (λ d. on d.act (performed (numbered bundle) (begun s) (turn s d))) is
    ∙ on_is d.act a (performed (numbered bundle) (begun s) (turn s d)) asks
    ∙ sym (on_is (doing_of (numbered bundle) s) d (λ d. performed (numbered bundle) (begun s) (turn s d) a) is)

pub acting_there : (bundle : List Item) (s : Held) (a : Act) → acting bundle s a ≢ Stuck
    → (d : Doing) × (doing_of (numbered bundle) s ≡ Some d) × (performed (numbered bundle) (begun s) (turn s d) a ≢ Stuck)
unfolding acting
acting_there bundle s a h = on_there (doing_of (numbered bundle) s) (λ d. performed (numbered bundle) (begun s) (turn s d) a) h

pub acting_is : (bundle : List Item) (s : Held) (a : Act) (d : Doing) → doing_of (numbered bundle) s ≡ Some d → acting bundle s a ≡ performed (numbered bundle) (begun s) (turn s d) a
unfolding acting
acting_is bundle s a d e = on_is (doing_of (numbered bundle) s) d (λ d. performed (numbered bundle) (begun s) (turn s d) a) e

-- ---- what is found, or a fault

mapped_there : {A : Type 0} (o : Option (Result A PlaceFault)) (r : Result A Case) → option_map or_case o ≡ Some r → IsSome o
mapped_there None r h = cc
mapped_there (Some a) r h = refl

pub tried_found : {A : Type 0} (p : Program) (s : Held) (d : Doing) (o : Option (Result A PlaceFault)) (go : A → Outcome) → tried p (begun s) (turn s d) (option_map or_case o) go ≢ Stuck → IsSome o
unfolding tried
tried_found p s d o go h = let r = on_there (option_map or_case o) (unless_refused p (begun s) (turn s d) go) h in mapped_there o r.0 r.1

pub tried_at : {A : Type 0} (bundle : List Item) (s : Held) (d : Doing) (o : Option (Result A PlaceFault)) (r : Result A PlaceFault) (go : Doing → A → Outcome) → doing_of (numbered bundle) s ≡ Some d → o ≡ Some r
    → tried (numbered bundle) (begun s) (turn s d) (option_map or_case o) (go d) ≡ found_or bundle s (λ (a : A). on (doing_of (numbered bundle) s) (λ d. go d a)) r
unfolding tried on
tried_at bundle s d o (Ok a) go e h = ap (λ o. tried (numbered bundle) (begun s) (turn s d) (option_map or_case o) (go d)) h ∙ sym (on_is (doing_of (numbered bundle) s) d (λ d. go d a) e)
tried_at bundle s d o (Err f) go e h = ap (λ o. tried (numbered bundle) (begun s) (turn s d) (option_map or_case o) (go d)) h ∙ sym (acting_is bundle s (Faults (case_of_fault f)) d e)

pub ruleset running = (step_stands, step_acts)
