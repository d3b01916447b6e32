-- Laws of stacks that are entered and left.
use Rattle.std.specs.Prelude.{◌≡◌, ◌≢◌, ℕ, zero, suc, ◌<◌, nat_lt, Bool, true, false, List, [], ◌∷◌, Option, Some, None, IsSome, IsSomeAnd, Result, Ok, Err, length, bytes_eq, option_map, slice_get, slice_set, take, drop, if◌then◌else◌, refl}
use Rattle.std.proofs.Common.{sym, ◌∙◌, ap, subst, arith, inl, inr}
use Rattle.std.proofs.lemmas.Slice.Eq.{bytes_eq-Decides}
use Rattle.std.proofs.lemmas.Bool.{cases_Bool}
use Rattle.ir_tree.specs.declared.items.Item.{Item}
use Rattle.mu_values.specs.declared.scalars.Scalar.{Scalar}
use Rattle.typed_heap.specs.Places.{with_some}
use Rattle.frames.specs.Activations.{Value, Goal, Activation}
use Rattle.frames.specs.Chains.{Chain, frames_of, stands}
use Rattle.frames.specs.Handlers.{first_handler}
use Rattle.stacks.specs.declared.entered.Entered.{Entered}
use Rattle.stacks.specs.declared.entered.Entered.TheVariants.{Values, Thrown}
use Rattle.mem_axioms.specs.EventFits.{is_thread, EventFits}
use Rattle.mem_axioms.specs.Synchronizes.{makes_thread}
use Rattle.mem_axioms.specs.Lemmas.Fitting.{others-fit, thread-same, thread-stays}
use Rattle.mem_axioms.specs.declared.types.Event.{Event}
use Rattle.mem_axioms.specs.declared.types.Kind.TheVariants.{Leave, Enter}
use Rattle.mem_axioms.specs.declared.types.Rule.{Rule}
use Rattle.mu_model.specs.declared.endings.Case.{Case}
use Rattle.mu_model.specs.declared.endings.Case.TheVariants.{StackTypes, Uncaught}
use Rattle.mu_model.specs.Acts.{Passes, ThrowsInto, Misfits}
use Rattle.mu_model.specs.Frames.{passed, caught}
use Rattle.mu_model.specs.Configuration.{Stack, Ready, Active, Dead, Thread}
use Rattle.mu_model.specs.Changes.{changed, event}
use Rattle.mu_model.specs.Exceptions.{EnteredFrames, unwinding}
use Rattle.mu_model.specs.EnteringStacks.{on_stack}
use Rattle.model_numbers.specs.Numbered.{numbered}
use Rattle.seats.specs.Seats.{Seats, IsOn, Takes, IsReadyFor, WaitsFor, left_ready, bound_to}
use Rattle.run_state.specs.Acting.{goes_on, gets}
use Rattle.run_state.specs.Hand.{IsSound, frames_back}
use Rattle.run_state.specs.StepLaws.{some_there, some_of, with_there, with_is, get_below, set_again, set_there}
use Rattle.run_state.specs.ActLaws.{drop_at}
use Rattle.run_state.specs.Unwinding.{catches_first, unwinds, uncaught}
use Rattle.stack_moves.specs.Entering.{entered_by, landed, handed, IsMoved}

-- ---- values that enter the top frame

differs : (cs ds : List ℕ) → cs ≢ ds → bytes_eq cs ds ≡ false
differs cs ds h = elim (cases_Bool (bytes_eq cs ds)) [ inl t ↦ absurd (h ((bytes_eq-Decides cs ds).0 t)) | inr f ↦ f ]

pub values_misfit : (bundle : List Item) (f : Activation) (fs : List Activation) (cs : List ℕ) (vs : List Value) → cs ≢ f.waits → entered_by bundle (f ∷ fs) (Passes cs vs) ≡ Some (Err StackTypes)
unfolding entered_by
values_misfit bundle f fs cs vs h =
    ap (λ (b : Bool). if b then with_some (passed (numbered bundle) f vs) (λ g. Some (Ok (record { frames = g ∷ fs; ended = [] }))) else Some (Err StackTypes)) (differs cs f.waits h)

values_are : (bundle : List Item) (f : Activation) (fs : List Activation) (cs : List ℕ) (vs : List Value) → cs ≡ f.waits
    → entered_by bundle (f ∷ fs) (Passes cs vs) ≡ with_some (goes_on bundle f vs) (λ g. Some (Ok (record { frames = g ∷ fs; ended = [] })))
unfolding entered_by goes_on
values_are bundle f fs cs vs same =
    ap (λ (b : Bool). if b then with_some (passed (numbered bundle) f vs) (λ g. Some (Ok (record { frames = g ∷ fs; ended = [] }))) else Some (Err StackTypes)) ((bytes_eq-Decides cs f.waits).1 same)

pub values_there : (bundle : List Item) (f : Activation) (fs : List Activation) (cs : List ℕ) (vs : List Value) → IsSome (entered_by bundle (f ∷ fs) (Passes cs vs)) → cs ≡ f.waits → IsSome (goes_on bundle f vs)
values_there bundle f fs cs vs h same =
    let r = some_of (entered_by bundle (f ∷ fs) (Passes cs vs)) h in
    let go : Activation → Option (Result EnteredFrames Case) = λ g. Some (Ok (record { frames = g ∷ fs; ended = [] })) in
    let g = with_there (goes_on bundle f vs) go r.0 (sym (values_are bundle f fs cs vs same) ∙ r.1) in
    some_there (goes_on bundle f vs) g.0 g.1

pub values_enter : (bundle : List Item) (f g : Activation) (fs : List Activation) (cs : List ℕ) (vs : List Value) → cs ≡ f.waits → goes_on bundle f vs ≡ Some g
    → entered_by bundle (f ∷ fs) (Passes cs vs) ≡ Some (Ok (record { frames = g ∷ fs; ended = [] }))
values_enter bundle f g fs cs vs same way =
    let go : Activation → Option (Result EnteredFrames Case) = λ g. Some (Ok (record { frames = g ∷ fs; ended = [] })) in
    values_are bundle f fs cs vs same ∙ ap (λ o. with_some o go) way

-- ---- exceptions

thrown : (bundle : List Item) (fs : List Activation) (e : Scalar) → entered_by bundle fs (ThrowsInto e) ≡ unwinding (numbered bundle) e fs
unfolding entered_by
thrown bundle [] e = refl
thrown bundle (f ∷ fs) e = refl

pub thrown_uncaught : (bundle : List Item) (fs : List Activation) (e : Scalar) → first_handler fs ≡ None → entered_by bundle fs (ThrowsInto e) ≡ Some (Err Uncaught)
thrown_uncaught bundle fs e none = thrown bundle fs e ∙ uncaught (numbered bundle) e fs none

pub thrown_there : (bundle : List Item) (fs : List Activation) (e : Scalar) (n : ℕ) → IsSome (entered_by bundle fs (ThrowsInto e)) → first_handler fs ≡ Some n
    → (f : Activation) × (g : Goal) × (slice_get fs n ≡ Some f) × (f.handler ≡ Some g) × IsSome (gets bundle f g e) × (n < length fs)
unfolding gets
thrown_there bundle fs e n h first =
    let p = numbered bundle in
    let c = catches_first fs n first in
    let r = some_of (entered_by bundle fs (ThrowsInto e)) h in
    let go : Activation → Option (Result EnteredFrames Case) = λ h. Some (Ok (record { frames = h ∷ drop (suc n) fs; ended = take n fs })) in
    let w = with_there (caught p c.frame c.goal e) go r.0 (sym (thrown bundle fs e ∙ unwinds p e fs n c.frame c.goal first c.there c.handler) ∙ r.1) in
    (c.frame, c.goal, c.there, c.handler, some_there (caught p c.frame c.goal e) w.0 w.1, get_below fs n c.frame c.there)

pub thrown_enters : (bundle : List Item) (fs : List Activation) (e : Scalar) (n block at : ℕ) (f : Activation) (g : Goal) (vs : List Value) → first_handler fs ≡ Some n → slice_get fs n ≡ Some f → f.handler ≡ Some g
    → gets bundle f g e ≡ Some (stands f block at vs) → entered_by bundle fs (ThrowsInto e) ≡ option_map Ok (landed fs n block at vs)
unfolding gets
thrown_enters bundle fs e n block at f g vs first there handler way =
    let p = numbered bundle in
    let go : Activation → Option (Result EnteredFrames Case) = λ h. Some (Ok (record { frames = h ∷ drop (suc n) fs; ended = take n fs })) in
    let lands : landed fs n block at vs ≡ Some (record { frames = stands f block at vs ∷ drop (suc n) fs; ended = take n fs }) =
    with_is (slice_get fs n) f (λ f. Some (record { frames = stands f block at vs ∷ drop (suc n) fs; ended = take n fs })) there in
    thrown bundle fs e ∙ unwinds p e fs n f g first there handler ∙ ap (λ o. with_some o go) way ∙ sym (ap (option_map Ok) lands)

pub misfits : (bundle : List Item) (fs : List Activation) → entered_by bundle fs Misfits ≡ Some (Err StackTypes)
unfolding entered_by
misfits bundle [] = refl
misfits bundle (f ∷ fs) = refl

-- ---- what is handed to a stack that is entered so

takes_values : (bundle : List Item) (f : Activation) (fs : List Activation) (cs : List ℕ) (vs : List Value) (r : EnteredFrames) (b : Bool) → bytes_eq cs f.waits ≡ b → entered_by bundle (f ∷ fs) (Passes cs vs) ≡ Some (Ok r) → cs ≡ f.waits
takes_values bundle f fs cs vs r true same h = (bytes_eq-Decides cs f.waits).0 same
takes_values bundle f fs cs vs r false same h =
    let no : entered_by bundle (f ∷ fs) (Passes cs vs) ≡ Some (Err StackTypes) = values_misfit bundle f fs cs vs (λ e. let yes = (bytes_eq-Decides cs f.waits).1 e in cc) in
    cc

takes_thrown : (bundle : List Item) (fs : List Activation) (e : Scalar) (r : EnteredFrames) (o : Option ℕ) → first_handler fs ≡ o → entered_by bundle fs (ThrowsInto e) ≡ Some (Ok r) → IsSome (first_handler fs)
takes_thrown bundle fs e r (Some n) same h = some_there (first_handler fs) n same
takes_thrown bundle fs e r None same h = let no = thrown_uncaught bundle fs e same in cc

pub takes_so : (bundle : List Item) (fs : List Activation) (e : Entered) (r : EnteredFrames) → entered_by bundle fs (handed e) ≡ Some (Ok r) → Takes fs e
unfolding entered_by
takes_so bundle [] (Values v) r h = cc
takes_so bundle [] (Thrown e) r h = cc
takes_so bundle (f ∷ fs) (Values v) r h = takes_values bundle f fs v.types v.values r (bytes_eq v.types f.waits) refl h
takes_so bundle (f ∷ fs) (Thrown e) r h = takes_thrown bundle (f ∷ fs) e r (first_handler (f ∷ fs)) refl h

-- ---- frames that go on so

get_there : (fs : List Activation) (n : ℕ) → n < length fs → (f : Activation) × (slice_get fs n ≡ Some f)
get_there [] n h = absurd (omega (arith, h))
get_there (f ∷ fs) zero h = (f, refl)
get_there (f ∷ fs) (suc n) h = get_there fs n (omega (arith, h))

pub arriving : (fs : List Activation) (n block at : ℕ) (c d : Chain) (vs : List Value) → n < length fs → frames_of c ≡ drop n fs → d ≡ record c { top = stands c.top block at vs }
    → landed fs n block at vs ≡ Some (record { frames = frames_of d; ended = take n fs })
arriving fs n block at c d vs low left same =
    let f = get_there fs n low in
    let rest = drop_at fs n f.0 c.top c.below f.1 left in
    with_is (slice_get fs n) f.0 (λ f. Some (record { frames = stands f block at vs ∷ drop (suc n) fs; ended = take n fs })) f.1
    ∙ ap (λ f. Some (record { frames = stands f block at vs ∷ drop (suc n) fs; ended = take n fs })) (sym rest.0)
    ∙ ap (λ bs. Some (record { frames = stands c.top block at vs ∷ bs; ended = take n fs })) (sym rest.1)
    ∙ ap (λ (d : Chain). Some (record { frames = frames_of d; ended = take n fs })) (sym same)

-- ---- lists with one element changed

pub changed_length : {A : Type 0} (f : A → A) (n : ℕ) (xs : List A) → length (changed f n xs) ≡ length xs
changed_length f n [] = refl
changed_length f zero (x ∷ xs) = refl
changed_length f (suc n) (x ∷ xs) = ap suc (changed_length f n xs)

pub set_long : {A : Type 0} (xs : List A) (n : ℕ) (a : A) → length (slice_set xs n a) ≡ length xs
set_long [] n a = refl
set_long (x ∷ xs) zero a = refl
set_long (x ∷ xs) (suc n) a = ap suc (set_long xs n a)

changed_set : {A : Type 0} (f : A → A) (n : ℕ) (xs : List A) (a : A) → changed f n (slice_set xs n a) ≡ slice_set xs n (f a)
changed_set f n [] a = refl
changed_set f zero (x ∷ xs) a = refl
changed_set f (suc n) (x ∷ xs) a = ap (λ ys. x ∷ ys) (changed_set f n xs a)

pub set_changed : {A : Type 0} (f : A → A) (n : ℕ) (xs : List A) (a : A) → slice_set (changed f n xs) n a ≡ slice_set xs n a
set_changed f n [] a = refl
set_changed f zero (x ∷ xs) a = refl
set_changed f (suc n) (x ∷ xs) a = ap (λ ys. x ∷ ys) (set_changed f n xs a)

get_changed : {A : Type 0} (f : A → A) (n : ℕ) (xs : List A) (a : A) → slice_get xs n ≡ Some a → slice_get (changed f n xs) n ≡ Some (f a)
get_changed f n [] a e = cc
get_changed f zero (x ∷ xs) a e = let same : x ≡ a = cc in ap (λ x. Some (f x)) same
get_changed f (suc n) (x ∷ xs) a e = get_changed f n xs a e

pub set_other : {A : Type 0} (xs : List A) (n m : ℕ) (a : A) → m ≢ n → slice_get (slice_set xs n a) m ≡ slice_get xs m
set_other [] n m a h = refl
set_other (x ∷ xs) zero zero a h = absurd (h refl)
set_other (x ∷ xs) zero (suc m) a h = refl
set_other (x ∷ xs) (suc n) zero a h = refl
set_other (x ∷ xs) (suc n) (suc m) a h = set_other xs n m a (λ e. h (ap suc e))

-- ---- a thread that moves

seat_by : (ts : List (Option Thread)) (i k : ℕ) → IsSomeAnd (with_some (slice_get ts i) (λ t. t)) (λ (t : Thread). t.stack ≡ k) → (t : Thread) × (slice_get ts i ≡ Some (Some t))
seat_by ts i k h = by (slice_get ts i) refl h
  where
    by : (o : Option (Option Thread)) → slice_get ts i ≡ o → IsSomeAnd (with_some o (λ t. t)) (λ (t : Thread). t.stack ≡ k) → (t : Thread) × (slice_get ts i ≡ Some (Some t))
    by None e h = absurd h
    by (Some None) e h = absurd h
    by (Some (Some t)) e h = (t, e)

is_on : (s : Seats) (i k : ℕ) (t : Thread) → slice_get s.threads i ≡ Some (Some t) → t.stack ≡ k → IsOn s i k
is_on s i k t there at = subst (λ (o : Option (Option Thread)). IsSomeAnd (with_some o (λ t. t)) (λ (t : Thread). t.stack ≡ k)) (sym there) at

-- its frames stand on its stack again
pub waits_there : (ss : List Stack) (i k : ℕ) (c : Chain) (cs : List ℕ) → k < length ss → c.top.waits ≡ cs → WaitsFor (slice_get (slice_set ss k (Active i (frames_of c))) k) cs
waits_there ss i k c cs low same = subst (λ o. WaitsFor o cs) (sym (set_there ss k (Active i (frames_of c)) low)) same

pub takes_there : (ss : List Stack) (k to : ℕ) (s : Stack) (e : Entered) → to ≢ k → IsReadyFor (slice_get ss to) e → IsReadyFor (slice_get (slice_set ss k s) to) e
takes_there ss k to s e other h = subst (λ o. IsReadyFor o e) (sym (set_other ss k to s other)) h

pub moves_on : (old new : Seats) (i n k : ℕ) → IsOn old i n → new.threads ≡ changed (option_map (on_stack k)) i old.threads → IsOn new i k
moves_on old new i n k h same =
    let t = seat_by old.threads i n h in
    is_on new i k (on_stack k t.0) (ap (λ ts. slice_get ts i) same ∙ get_changed (option_map (on_stack k)) i old.threads (Some t.0) t.1) refl

ready_by : (o : Option Stack) (e : Entered) → IsReadyFor o e → (fs : List Activation) × (o ≡ Some (Ready fs))
ready_by None e h = absurd h
ready_by (Some (Ready fs)) e h = (fs, refl)
ready_by (Some (Active i fs)) e h = absurd h
ready_by (Some Dead) e h = absurd h

-- the frames that are taken up are those of the stack that was ready
pub taken_up : (ss : List Stack) (i k to : ℕ) (s : Stack) (fs : List Activation) (e : Entered) → to ≢ k → IsReadyFor (slice_get ss to) e
    → slice_get (changed (bound_to i) to (slice_set ss k s)) to ≡ Some (Active i fs) → slice_get ss to ≡ Some (Ready fs)
taken_up ss i k to s fs e other h there =
    let r = ready_by (slice_get ss to) e h in
    let here : slice_get (slice_set ss k s) to ≡ Some (Ready r.0) = set_other ss k to s other ∙ r.1 in
    let up : Some (Active i fs) ≡ Some (Active i r.0) = sym there ∙ get_changed (bound_to i) to (slice_set ss k s) (Ready r.0) here in
    let same : r.0 ≡ fs = cc in
    r.1 ∙ ap (λ fs. Some (Ready fs)) same

pub moved_low : (ss : List Stack) (k to : ℕ) (s : Stack) (e : Entered) → IsReadyFor (slice_get ss to) e → to < length ss
moved_low ss k to s e h = let r = ready_by (slice_get ss to) e h in get_below ss to (Ready r.0) r.1

-- once it has left its stack, entered the other one, and taken up the frames there
pub moved : (old first second new : Seats) (i n k : ℕ) (e : Entered) (left a b : Stack) → IsOn old i n → IsReadyFor (slice_get old.stacks k) e
    → first ≡ record old { stacks = slice_set old.stacks n a }
    → second ≡ record first { threads = changed (option_map (on_stack k)) i first.threads; stacks = changed (bound_to i) k (slice_set old.stacks n left) }
    → new ≡ record second { stacks = slice_set second.stacks k b } → IsMoved old new i n k left
moved old first second new i n k e left a b on ready one two three =
    let threads : new.threads ≡ changed (option_map (on_stack k)) i old.threads =
    ap (λ (s : Seats). s.threads) three ∙ ap (λ (s : Seats). s.threads) two ∙ ap (λ (s : Seats). changed (option_map (on_stack k)) i s.threads) one in
    let stacks : new.stacks ≡ slice_set (changed (bound_to i) k (slice_set old.stacks n left)) k b = ap (λ (s : Seats). s.stacks) three ∙ ap (λ (s : Seats). slice_set s.stacks k b) two in
    let short : new.stacks ≡ slice_set (slice_set old.stacks n left) k b = stacks ∙ set_changed (bound_to i) k (slice_set old.stacks n left) b in
    let low = moved_low old.stacks n k left e ready in
    let long : length new.stacks ≡ length old.stacks = ap length short ∙ set_long (slice_set old.stacks n left) k b ∙ set_long old.stacks n left in
    record {
      threads = threads;
      stacks = λ s. ap (λ ss. slice_set ss k s) short ∙ set_again (slice_set old.stacks n left) k b s;
      waiters = ap (λ (s : Seats). s.waiters) three ∙ ap (λ (s : Seats). s.waiters) two ∙ ap (λ (s : Seats). s.waiters) one;
      on = moves_on old new i n k on threads;
      within = omega (arith, low, long);
    }

left_set : (ss : List Stack) (i n : ℕ) (fs : List Activation) → changed left_ready n (slice_set ss n (Active i fs)) ≡ slice_set ss n (Ready fs)
left_set ss i n fs = changed_set left_ready n ss (Active i fs)

-- the same, where its stack is ready then
pub switched : (old first second new : Seats) (i n k : ℕ) (e : Entered) (fs : List Activation) (b : Stack) → IsOn old i n → IsReadyFor (slice_get old.stacks k) e
    → first ≡ record old { stacks = slice_set old.stacks n (Active i fs) }
    → second ≡ record first { threads = changed (option_map (on_stack k)) i first.threads; stacks = changed (bound_to i) k (changed left_ready n first.stacks) }
    → new ≡ record second { stacks = slice_set second.stacks k b } → IsMoved old new i n k (Ready fs)
switched old first second new i n k e fs b on ready one two three =
    let stacks : changed left_ready n first.stacks ≡ slice_set old.stacks n (Ready fs) = ap (λ (s : Seats). changed left_ready n s.stacks) one ∙ left_set old.stacks i n fs in
    moved old first second new i n k e (Ready fs) (Active i fs) b on ready one
    (two ∙ ap (λ ss. record first { threads = changed (option_map (on_stack k)) i first.threads; stacks = changed (bound_to i) k ss }) stacks) three

pub switched_up : (old first second : Seats) (i n k : ℕ) (e : Entered) (fs gs : List Activation) → k ≢ n → IsReadyFor (slice_get old.stacks k) e
    → first ≡ record old { stacks = slice_set old.stacks n (Active i fs) }
    → second ≡ record first { threads = changed (option_map (on_stack k)) i first.threads; stacks = changed (bound_to i) k (changed left_ready n first.stacks) }
    → slice_get second.stacks k ≡ Some (Active i gs) → slice_get old.stacks k ≡ Some (Ready gs)
switched_up old first second i n k e fs gs other ready one two there =
    let stacks : second.stacks ≡ changed (bound_to i) k (slice_set old.stacks n (Ready fs)) =
    ap (λ (s : Seats). s.stacks) two ∙ ap (λ (s : Seats). changed (bound_to i) k (changed left_ready n s.stacks)) one ∙ ap (changed (bound_to i) k) (left_set old.stacks i n fs) in
    taken_up old.stacks i n k (Ready fs) gs e other ready (ap (λ ss. slice_get ss k) (sym stacks) ∙ there)

-- the same, where its stack is dead then
pub died : (old first second new : Seats) (i n k : ℕ) (e : Entered) (fs : List Activation) (b : Stack) → IsOn old i n → IsReadyFor (slice_get old.stacks k) e
    → first ≡ record old { stacks = slice_set old.stacks n (Active i fs) }
    → second ≡ record first { threads = changed (option_map (on_stack k)) i first.threads; stacks = changed (bound_to i) k (slice_set first.stacks n Dead) }
    → new ≡ record second { stacks = slice_set second.stacks k b } → IsMoved old new i n k Dead
died old first second new i n k e fs b on ready one two three =
    let stacks : slice_set first.stacks n Dead ≡ slice_set old.stacks n Dead = ap (λ (s : Seats). slice_set s.stacks n Dead) one ∙ set_again old.stacks n (Active i fs) Dead in
    moved old first second new i n k e Dead (Active i fs) b on ready one
    (two ∙ ap (λ ss. record first { threads = changed (option_map (on_stack k)) i first.threads; stacks = changed (bound_to i) k ss }) stacks) three

pub died_up : (old first second : Seats) (i n k : ℕ) (e : Entered) (fs gs : List Activation) → k ≢ n → IsReadyFor (slice_get old.stacks k) e
    → first ≡ record old { stacks = slice_set old.stacks n (Active i fs) }
    → second ≡ record first { threads = changed (option_map (on_stack k)) i first.threads; stacks = changed (bound_to i) k (slice_set first.stacks n Dead) }
    → slice_get second.stacks k ≡ Some (Active i gs) → slice_get old.stacks k ≡ Some (Ready gs)
died_up old first second i n k e fs gs other ready one two there =
    let stacks : second.stacks ≡ changed (bound_to i) k (slice_set old.stacks n Dead) =
    ap (λ (s : Seats). s.stacks) two ∙ ap (λ (s : Seats). changed (bound_to i) k (slice_set s.stacks n Dead)) one ∙ ap (changed (bound_to i) k) (set_again old.stacks n (Active i fs) Dead) in
    taken_up old.stacks i n k Dead gs e other ready (ap (λ ss. slice_get ss k) (sym stacks) ∙ there)

pub died_frames : (old first : Seats) (i n : ℕ) (fs gs : List Activation) → n < length old.stacks → first ≡ record old { stacks = slice_set old.stacks n (Active i fs) } → slice_get first.stacks n ≡ Some (Active i gs) → gs ≡ fs
died_frames old first i n fs gs low one there = frames_back old.stacks n i fs gs (ap (λ (s : Seats). slice_get s.stacks n) (sym one) ∙ there) low

-- ---- the thread in hand, once it has moved

pub moved_sound : (left : Bool) (i n k : ℕ) (old new : Seats) (log after : List Event) (x : Stack) → IsSound left i n old log → IsMoved old new i n k x → ((j : ℕ) → is_thread after j ≡ is_thread log j) → IsSound left i k new after
moved_sound left i n k old new log after x h m same =
    record {
      on_stack = λ e. m.on;
      within = λ e. m.within;
      made = λ j. same j ∙ h.made j ∙ ap (λ n. nat_lt j n) (sym (ap length m.threads ∙ changed_length (option_map (on_stack k)) i old.threads));
    }

pub ruleset moving = (waits_there, takes_there, moves_on)

-- ---- the events of a move

two_threads : (first second : Event) (log : List Event) (j : ℕ) → makes_thread j first ≡ false → makes_thread j second ≡ false → is_thread (second ∷ first ∷ log) j ≡ is_thread log j
two_threads first second log j a b = thread-same (first ∷ log) second j b ∙ thread-same log first j a

pub swapped_sound : (left : Bool) (i n k : ℕ) (old new : Seats) (log lg after : List Event) (x : Stack) → IsSound left i n old log → IsMoved old new i n k x → lg ≡ log → after ≡ event i (Enter k) ∷ event i (Leave n) ∷ lg
    → IsSound left i k new after
swapped_sound left i n k old new log lg after x h m same added =
    let now : after ≡ event i (Enter k) ∷ event i (Leave n) ∷ log = added ∙ ap (λ lg. event i (Enter k) ∷ event i (Leave n) ∷ lg) same in
    moved_sound left i n k old new log after x h m (λ j. ap (λ lg. is_thread lg j) now ∙ two_threads (event i (Leave n)) (event i (Enter k)) log j refl refl)

pub entered_sound : (left : Bool) (i n k : ℕ) (old new : Seats) (log lg after : List Event) (x : Stack) → IsSound left i n old log → IsMoved old new i n k x → lg ≡ log → after ≡ event i (Enter k) ∷ lg
    → IsSound left i k new after
entered_sound left i n k old new log lg after x h m same added =
    let now : after ≡ event i (Enter k) ∷ log = added ∙ ap (λ lg. event i (Enter k) ∷ lg) same in
    moved_sound left i n k old new log after x h m (λ j. ap (λ lg. is_thread lg j) now ∙ thread-same log (event i (Enter k)) j refl)

pub leave_fits : (rule : Rule) (objects : List (List Scalar)) (log lg : List Event) (i k : ℕ) → lg ≡ log → is_thread log i ≡ true → EventFits rule objects lg (event i (Leave k))
leave_fits rule objects log lg i k same made = ((others-fit rule objects lg i).leave k).1 (ap (λ lg. is_thread lg i) same ∙ made)

pub enter_fits : (rule : Rule) (objects : List (List Scalar)) (log lg : List Event) (i k : ℕ) → lg ≡ log → is_thread log i ≡ true → EventFits rule objects lg (event i (Enter k))
enter_fits rule objects log lg i k same made = ((others-fit rule objects lg i).enter k).1 (ap (λ lg. is_thread lg i) same ∙ made)

pub enter_fits_then : (rule : Rule) (objects : List (List Scalar)) (log lg : List Event) (e : Event) (i k : ℕ) → lg ≡ log → is_thread log i ≡ true → EventFits rule objects (e ∷ lg) (event i (Enter k))
enter_fits_then rule objects log lg e i k same made = ((others-fit rule objects (e ∷ lg) i).enter k).1 (thread-stays lg e i (ap (λ lg. is_thread lg i) same ∙ made))
