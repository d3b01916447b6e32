-- Lemmas of threads that are started, over the view of a state and its parts.
use Rattle.std.proofs.Common.{◌≡◌, ◌≢◌, ℕ, ◌+◌, ◌<◌, arith, nat_lt, true, List, [], ◌∷◌, Option, Some, IsSome, IfSome, Result, Ok, Err, IfOk, length, slice_get, option_map, take, refl, sym, ◌∙◌, ap, subst}
use Rattle.std.proofs.lemmas.Bool.Decides.{nat_tests}
use Rattle.ir_tree.specs.declared.items.Item.{Item}
use Rattle.mu_values.specs.declared.scalars.Scalar.{Scalar}
use Rattle.mu_values.specs.declared.scalars.Scalar.TheVariants as scalars
use Rattle.typed_heap.specs.Objects.{HeapObject}
use Rattle.frames.specs.Activations.{Value, Activation}
use Rattle.frames.specs.Chains.{Chain, frames_of}
use Rattle.mem_axioms.specs.declared.types.Event.{Event}
use Rattle.mem_axioms.specs.declared.types.Rule.{Rule}
use Rattle.mu_model.specs.declared.lines.Line.{Line}
use Rattle.mu_model.specs.declared.lines.Line.TheVariants as lines
use Rattle.mu_model.specs.declared.endings.StepEnd.{StepEnd}
use Rattle.mu_model.specs.declared.endings.StepEnd.TheVariants.{Went}
use Rattle.mu_model.specs.Acts.{Entering, Starts}
use Rattle.mu_model.specs.Changes.{event}
use Rattle.mem_axioms.specs.declared.types.Kind.TheVariants.{NewThread, Enter}
use Rattle.mu_model.specs.Configuration.{Stack, Ready, Active}
use Rattle.mu_model.specs.Exceptions.{EnteredFrames}
use Rattle.mu_model.specs.Outcomes.{Stuck}
use Rattle.seats.specs.Seats.{Seats, IsReady}
use Rattle.run_state.specs.Held.{Held}
use Rattle.run_state.specs.Acting.{answers, acting, goes_on, objects_end}
use Rattle.run_state.specs.Hand.{IsSound}
use Rattle.run_state.specs.StepLaws.{some_of}
use Rattle.stack_moves.specs.declared.arriving.Arrival.{Arrival}
use Rattle.stack_moves.specs.Entering.{entered_by, arrives, frames_at, IsStarted, begins}
use Rattle.stack_moves.specs.SwapLaws.{frames_objects, two_told, frames_are}
use Rattle.mem_axioms.specs.EventFits.{is_thread, EventFits}
use Rattle.swap_acts.specs.StartLaws.{at_thread, makes, enters_new, new_thread, Begun, begun_is, start_looks, start_results, start_goes, made_fits, started_sound}
use Rattle.stack_moves.specs.Lemmas.EnteringViews.{lands_by}

pub few_threads : (n : ℕ) → n < 64 → nat_lt n 64 ≡ true
few_threads n h = grind (arith, nat_tests, h)

-- the list of the thread's results
results_so : (s : Held) (n : ℕ) (vs : List Value) → n ≡ length s.seats.threads → vs ≡ (scalars.Thread n ∷ []) ∷ [] → vs ≡ new_thread s
results_so s n vs count is = is ∙ ap (λ n. (scalars.Thread n ∷ []) ∷ []) count

pub started_results : (bundle : List Item) (s v : Held) (n to : ℕ) (own : Scalar) (e : Entering) (a : Arrival) (ws vs : List Value) → v ≡ s → acting bundle s (Starts (scalars.Stack to) own e) ≢ Stuck → n ≡ length s.seats.threads
    → length s.seats.threads < 64 → to ≢ s.stack → IsReady (slice_get s.seats.stacks to) → entered_by bundle (frames_at (slice_get s.seats.stacks to)) e ≡ option_map Ok (arrives a (frames_at (slice_get s.seats.stacks to)) ws)
    → vs ≡ (scalars.Thread n ∷ []) ∷ [] → IsSome (goes_on bundle s.frames.top vs)
started_results bundle s v n to own e a ws vs view h count few other ready lands is =
    let low = few_threads (length s.seats.threads) few in
    let fs = frames_at (slice_get s.seats.stacks to) in
    let l = lands_by (entered_by bundle fs e) (arrives a fs ws) lands (start_looks bundle s (scalars.Stack to) own e h low to refl other ready) in
    subst (λ vs. IsSome (goes_on bundle s.frames.top vs)) (sym (results_so s n vs count is)) (start_results bundle s (scalars.Stack to) own e h low to l.0 refl other ready l.2)

pub started_answered : {E : Type 0} (bundle : List Item) (s v t : Held) (n to : ℕ) (own : Scalar) (e : Entering) (a : Arrival) (ws vs : List Value) (r : Result StepEnd E) → v ≡ s → acting bundle s (Starts (scalars.Stack to) own e) ≢ Stuck
    → n ≡ length s.seats.threads → length s.seats.threads < 64 → to ≢ s.stack → IsReady (slice_get s.seats.stacks to) → entered_by bundle (frames_at (slice_get s.seats.stacks to)) e ≡ option_map Ok (arrives a (frames_at (slice_get s.seats.stacks to)) ws)
    → vs ≡ (scalars.Thread n ∷ []) ∷ []
    → IfOk r (λ end. IfSome (arrives a (frames_at (slice_get s.seats.stacks to)) ws) (λ r. IfSome (goes_on bundle s.frames.top vs) (λ f. answers end t ≡ begins s own to r f)))
    → IfOk r (λ end. answers end t ≡ acting bundle s (Starts (scalars.Stack to) own e))
started_answered bundle s v t n to own e a ws vs (Err q) view h count few other ready lands is so = tt
started_answered bundle s v t n to own e a ws vs (Ok end) view h count few other ready lands is so =
    let low = few_threads (length s.seats.threads) few in
    let fs = frames_at (slice_get s.seats.stacks to) in
    let l = lands_by (entered_by bundle fs e) (arrives a fs ws) lands (start_looks bundle s (scalars.Stack to) own e h low to refl other ready) in
    let there = some_of (goes_on bundle s.frames.top (new_thread s)) (start_results bundle s (scalars.Stack to) own e h low to l.0 refl other ready l.2) in
    let landed : IfSome (goes_on bundle s.frames.top vs) (λ f. answers end t ≡ begins s own to l.0 f) =
    subst (λ o. IfSome o (λ r. IfSome (goes_on bundle s.frames.top vs) (λ f. answers end t ≡ begins s own to r f))) l.1 so in
    let told : answers end t ≡ begins s own to l.0 there.0 =
    subst (λ (o : Option Activation). IfSome o (λ f. answers end t ≡ begins s own to l.0 f)) (ap (goes_on bundle s.frames.top) (results_so s n vs count is) ∙ there.1) landed in
    told ∙ sym (start_goes bundle s (scalars.Stack to) own e h low to l.0 there.0 refl other ready l.2 there.1)

pub begins_there : (bundle : List Item) (s v : Held) (us : List Value) → v ≡ s → IsSome (goes_on bundle s.frames.top us) → IsSome (goes_on bundle v.frames.top us)
begins_there bundle s v us view h = subst (λ (x : Held). IsSome (goes_on bundle x.frames.top us)) (sym view) h

pub begins_so : (bundle : List Item) (s v : Held) (own : Scalar) (n to : ℕ) (a : Arrival) (vs us : List Value) (f1 f2 f3 : Chain) (seats : Seats) (os : List HeapObject) (cells number : ℕ) (lg after : List Event) (rl kept : Rule) (ls : List Line)
    → v ≡ s → s.left ≡ true → to ≢ s.stack → n ≡ length s.seats.threads → goes_on bundle v.frames.top us ≡ Some f1.top → f1.below ≡ v.frames.below → slice_get v.seats.stacks to ≡ Some (Ready (frames_of f2))
    → IsStarted v.seats seats v.stack to own (Active v.thread (frames_of f1)) → arrives a (frames_of f2) vs ≡ Some (record { frames = frames_of f3; ended = take a.above (frames_of f2) })
    → os ≡ objects_end v.objects (frames_objects (take a.above (frames_of f2))) → cells ≡ v.cells → lg ≡ v.log → rl ≡ v.rule
    → after ≡ event n (Enter to) ∷ event v.thread (NewThread n) ∷ lg → kept ≡ rl → number ≡ length v.log → ls ≡ lines.Event number (event v.thread (NewThread n)) ∷ lines.Event (number + 1) (event n (Enter to)) ∷ []
    → IfSome (arrives a (frames_at (slice_get s.seats.stacks to)) vs) (λ r. IfSome (goes_on bundle s.frames.top us) (λ f. answers (Went ls) (at_thread v n to f3 seats os cells after kept) ≡ begins s own to r f))
begins_so bundle s v own n to a vs us f1 f2 f3 seats os cells number lg after rl kept ls view left other many way below ready seated arrived objects same log rule added still count told =
    let r : EnteredFrames = record { frames = frames_of f3; ended = take a.above (frames_of f2) } in
    let g = f1.top in
    let on : v.left ≡ true = ap (λ (s : Held). s.left) view ∙ left in
    let apart : to ≢ v.stack = λ e. other (e ∙ ap (λ (s : Held). s.stack) view) in
    let last : n ≡ length v.seats.threads = many ∙ ap (λ (s : Held). length s.seats.threads) (sym view) in
    let events : after ≡ enters_new v to ∷ makes v ∷ v.log = added ∙ ap (λ n. event n (Enter to) ∷ event v.thread (NewThread n) ∷ lg) last ∙ ap (λ lg. enters_new v to ∷ makes v ∷ lg) log in
    let q : Begun v own to r g f3 seats os cells after kept ls = record {
      left = on;
      other = apart;
      seated = subst (λ fs. IsStarted v.seats seats v.stack to own (Active v.thread (f1.top ∷ fs))) below seated;
      frames = refl;
      objects = objects;
      cells_same = same;
      logged = events;
      rule = still ∙ rule;
      lines = two_told (makes v) (enters_new v to) number (length v.log) ls count (told ∙ ap (λ n. lines.Event number (event v.thread (NewThread n)) ∷ lines.Event (number + 1) (event n (Enter to)) ∷ []) last);
    } in
    let is : answers (Went ls) (at_thread v n to f3 seats os cells after kept) ≡ begins v own to r g = ap (λ n. answers (Went ls) (at_thread v n to f3 seats os cells after kept)) last ∙ begun_is v own to r g f3 seats os cells after kept ls q in
    let gone : IfSome (goes_on bundle v.frames.top us) (λ f. answers (Went ls) (at_thread v n to f3 seats os cells after kept) ≡ begins v own to r f) =
    subst (λ (o : Option Activation). IfSome o (λ f. answers (Went ls) (at_thread v n to f3 seats os cells after kept) ≡ begins v own to r f)) (sym way) is in
    let found : arrives a (frames_at (slice_get v.seats.stacks to)) vs ≡ Some r = ap (λ fs. arrives a fs vs) (frames_are (slice_get v.seats.stacks to) (frames_of f2) ready) ∙ arrived in
    let main : IfSome (arrives a (frames_at (slice_get v.seats.stacks to)) vs) (λ r. IfSome (goes_on bundle v.frames.top us) (λ f. answers (Went ls) (at_thread v n to f3 seats os cells after kept) ≡ begins v own to r f)) =
    subst (λ o. IfSome o (λ r. IfSome (goes_on bundle v.frames.top us) (λ f. answers (Went ls) (at_thread v n to f3 seats os cells after kept) ≡ begins v own to r f))) (sym found) gone in
    subst (λ (s : Held). IfSome (arrives a (frames_at (slice_get s.seats.stacks to)) vs) (λ r. IfSome (goes_on bundle s.frames.top us) (λ f. answers (Went ls) (at_thread v n to f3 seats os cells after kept) ≡ begins s own to r f))) view main

pub made_at : (s v : Held) (rule : Rule) (objects : List (List Scalar)) (lg : List Event) (n : ℕ) → v ≡ s → n ≡ length s.seats.threads → length s.seats.threads < 64 → IsSound v.left v.thread v.stack v.seats v.log → lg ≡ v.log → is_thread v.log v.thread ≡ true
    → EventFits rule objects lg (event v.thread (NewThread n))
made_at s v rule objects lg n view many few sound same made =
    let last : length v.seats.threads ≡ n = ap (λ (s : Held). length s.seats.threads) view ∙ sym many in
    let low : length v.seats.threads < 64 = subst (λ (s : Held). length s.seats.threads < 64) (sym view) few in
    subst (λ n. EventFits rule objects lg (event v.thread (NewThread n))) last (made_fits rule objects v.log lg v.left v.thread v.stack v.seats sound same made low)

pub sound_at : (s v : Held) (n to : ℕ) (own : Scalar) (new : Seats) (lg after : List Event) (x : Stack) → v ≡ s → n ≡ length s.seats.threads → IsSound v.left v.thread v.stack v.seats v.log → IsStarted v.seats new v.stack to own x → lg ≡ v.log
    → after ≡ event n (Enter to) ∷ event v.thread (NewThread n) ∷ lg → IsSound v.left n to new after
sound_at s v n to own new lg after x view many sound started same added =
    let last : n ≡ length v.seats.threads = many ∙ ap (λ (s : Held). length s.seats.threads) (sym view) in
    let events : after ≡ event (length v.seats.threads) (Enter to) ∷ event v.thread (NewThread (length v.seats.threads)) ∷ lg = added ∙ ap (λ n. event n (Enter to) ∷ event v.thread (NewThread n) ∷ lg) last in
    subst (λ n. IsSound v.left n to new after) (sym last) (started_sound v.left v.thread v.stack to v.seats new v.log lg after own x sound started same events)
