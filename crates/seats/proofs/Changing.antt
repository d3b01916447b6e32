-- What is kept stays sound, and is seen as the contracts say, when stacks are made and killed, left and entered.
use Rattle.std.specs.Prelude.{◌≡◌, ◌≢◌, ℕ, ◌+◌, ◌<◌, ◌≤◌, ◌==◌, false, List, [], ◌∷◌, ◌++◌, Option, Some, None, Result, Ok, Err, length, slice_get, option_map, IsSome, IsSomeAnd, IfSome, IfNone, IfOk, OnOk, OnErr, refl}
use Rattle.std.proofs.Common.{sym, ◌∙◌, ap, subst, arith, set, Bor}
use Rattle.std.proofs.lemmas.Option.{slice_get_within, slice_get-map, same_Some}
use Rattle.std.proofs.lemmas.List.{length-set, length-map, length_push}
use Rattle.mu_values.specs.declared.scalars.Scalar.{Scalar}
use Rattle.frames.specs.Chains.{StoredChain, frames_in}
use Rattle.stacks.specs.Stacks.{Bound, Unbound}
use Rattle.stacks.specs.Directories.{Entry, Ready, Active, Dead, state_of, ready_frames}
use Rattle.stacks.specs.declared.entered.Entered.{Entered}
use Rattle.stacks.specs.declared.state.StackState.TheVariants as states
use Rattle.stacks.specs.Lemmas.Writes.{get_written, get_unwritten, map_pushed}
use Rattle.mu_threads.specs.Threads.{Threads, there, stack_of, with_stack, with_state, IsLeft}
use Rattle.mu_threads.specs.declared.state.ThreadState.{ThreadState}
use Rattle.mu_threads.specs.declared.state.ThreadState.TheVariants.{Runs, Ended}
use Rattle.futex.specs.declared.waiters.Waiter.{Waiter}
use Rattle.mu_model.specs.Configuration as seen
use Rattle.mu_model.specs.Configuration.{Stack, Thread}
use Rattle.mu_model.specs.Changes.{changed}
use Rattle.mu_model.specs.EnteringStacks.{on_stack}
use Rattle.mu_model.specs.Step.{is_blocked}
use Rattle.seats.specs.Seats.{Seats, Takes, IsReadyFor, WaitsFor, IsReady, IsActiveOrDead, left_ready, bound_to}
use Rattle.seats.specs.Kept.{threads_seen, stacks_seen, stack_seen, seats_seen, bound_from, ready_at, dead_at, TakesThere, IsTakenBy, Agree, AreBelow, IsSound}
use Rattle.seats.proofs.Lists.{changed_at, set_twice}
use Rattle.seats.proofs.Agreeing.{IsPair, alone_free, agree_written, stacks_written, agree_more}
use Rattle.seats.proofs.Threads.{bound_elsewhere, unbound, one_more, many_states, many_seen, is_left, states_bound, states_unbound, states_more}
use Rattle.seats.proofs.Moving.{entered_by, agree_ready, agree_dead, seen_ready, seen_dead, agree_entered, seen_entered, back_there, none_there, back_elsewhere, last_there, no_more_there, last_elsewhere, stack_here, own_stack}
use Rattle.seats.proofs.Seen.{IsSeated}

-- ---- the first thread

agree_nothing : Agree [] []
agree_nothing = record { bound = λ i b e. cc; active = λ n i e. cc; ready = λ n c w e. cc }

agree_first : (c : StoredChain) → Agree (Some (entered_by 0 0 c) ∷ []) (Active 0 ∷ [])
agree_first c =
    let one = agree_more [] [] c c.top.waits agree_nothing refl in
    agree_entered [] (Some (entered_by 0 0 c) ∷ []) (Ready c c.top.waits ∷ []) 0 0 c c.top.waits one refl (last_elsewhere [] (entered_by 0 0 c)) refl refl

first_fits : (c : StoredChain) (own : Scalar) (room : ℕ) → 64 ≤ room → IsSound (Runs ∷ []) (Some (entered_by 0 0 c) ∷ []) (Active 0 ∷ []) (own ∷ []) room []
first_fits c own room enough = record { states_fit = refl; agree = agree_first c; even = refl; few = omega arith; room_fits = enough; below = tt }

pub first_sound : (ss : List ThreadState) (bs : List (Option Bound)) (b : Bound) (es : List Entry) (owns : List Scalar) (room : ℕ) (ws : List Waiter) (c : StoredChain) (own : Scalar) → ss ≡ Runs ∷ [] → bs ≡ Some b ∷ [] → b ≡ entered_by 0 0 c → es ≡ Active 0 ∷ [] → owns ≡ own ∷ [] → 64 ≤ room → ws ≡ [] → IsSound ss bs es owns room ws
first_sound ss bs b es owns room ws c own s t u e o enough w = rw (s, t ∙ ap (λ x. Some x ∷ []) u, e, o, w) (first_fits c own room enough)

-- ---- looking

pub even_states : (ss : List ThreadState) (bs : List (Option Bound)) (es : List Entry) (owns : List Scalar) (room : ℕ) (ws : List Waiter) → IsSound ss bs es owns room ws → length bs ≡ length ss
even_states ss bs es owns room ws sound = sym (ap length sound.states_fit ∙ many_states (is_blocked ws) 0 bs)

pub even_threads : (ss : List ThreadState) (bs : List (Option Bound)) (es : List Entry) (owns : List Scalar) (room : ℕ) (ws : List Waiter) (s : Seats) → seats_seen bs owns es ws ≡ s → IsSound ss bs es owns room ws → length s.threads ≡ length ss
even_threads ss bs es owns room ws s v sound = ap (λ (w : Seats). length w.threads) (sym v) ∙ many_seen bs owns sound.even ∙ even_states ss bs es owns room ws sound

pub many_stacks : (bs : List (Option Bound)) (owns : List Scalar) (es : List Entry) (ws : List Waiter) (s : Seats) → seats_seen bs owns es ws ≡ s → length es ≡ length s.stacks
many_stacks bs owns es ws s v = sym (length-map es (stack_seen bs)) ∙ ap (λ (w : Seats). length w.stacks) v

at_stack : (bs : List (Option Bound)) (owns : List Scalar) (es : List Entry) (ws : List Waiter) (s : Seats) (n : ℕ) → seats_seen bs owns es ws ≡ s → slice_get s.stacks n ≡ option_map (stack_seen bs) (slice_get es n)
at_stack bs owns es ws s n v = ap (λ (w : Seats). slice_get w.stacks n) (sym v) ∙ slice_get-map (stack_seen bs) es n

pub ready_told : (bs : List (Option Bound)) (owns : List Scalar) (es : List Entry) (ws : List Waiter) (s : Seats) (n : ℕ) (r : Option (Bor Unbound)) → seats_seen bs owns es ws ≡ s → IfSome r (λ u. slice_get es n ≡ Some (Ready u.now.frames u.now.waits)) → IfSome r (λ u. slice_get s.stacks n ≡ Some (seen.Ready (frames_in u.now.frames)))
ready_told bs owns es ws s n None v h = tt
ready_told bs owns es ws s n (Some u) v h = at_stack bs owns es ws s n v ∙ ap (option_map (stack_seen bs)) h

pub waits_told : (es : List Entry) (bs : List (Option Bound)) (n : ℕ) (r : Option (Bor Unbound)) → Agree bs es → IfSome r (λ u. slice_get es n ≡ Some (Ready u.now.frames u.now.waits)) → IfSome r (λ u. u.now.waits ≡ u.now.frames.top.waits)
waits_told es bs n None a h = tt
waits_told es bs n (Some u) a h = a.ready n u.now.frames u.now.waits h

other_state : (bs : List (Option Bound)) (o : Option Entry) → IsSomeAnd (option_map state_of o) (λ state. state ≢ states.Ready) → IsSomeAnd (option_map (stack_seen bs) o) IsActiveOrDead
other_state bs None h = absurd h
other_state bs (Some (Ready c waits)) h = absurd (h refl)
other_state bs (Some (Active i)) h = tt
other_state bs (Some Dead) h = tt

pub none_told : (bs : List (Option Bound)) (owns : List Scalar) (es : List Entry) (ws : List Waiter) (s : Seats) (n : ℕ) (r : Option (Bor Unbound)) → seats_seen bs owns es ws ≡ s → IfNone r (IsSomeAnd (option_map state_of (slice_get es n)) (λ state. state ≢ states.Ready)) → IfNone r (IsSomeAnd (slice_get s.stacks n) IsActiveOrDead)
none_told bs owns es ws s n (Some u) v h = tt
none_told bs owns es ws s n None v h = subst (λ (o : Option Stack). IsSomeAnd o IsActiveOrDead) (sym (at_stack bs owns es ws s n v)) (other_state bs (slice_get es n) h)

-- ---- making

more_sound : (ss : List ThreadState) (bs : List (Option Bound)) (es : List Entry) (owns : List Scalar) (room : ℕ) (ws : List Waiter) (c : StoredChain) (waits : List ℕ) → IsSound ss bs es owns room ws → waits ≡ c.top.waits → IsSound ss bs (es ++ Ready c waits ∷ []) owns room ws
more_sound ss bs es owns room ws c waits sound top =
    record { states_fit = sound.states_fit; agree = agree_more bs es c waits sound.agree top; even = sound.even; few = sound.few; room_fits = sound.room_fits; below = sound.below }

pub made_sound : {E : Type 0} (ss : List ThreadState) (bs : List (Option Bound)) (es new : List Entry) (owns : List Scalar) (room : ℕ) (ws : List Waiter) (c : StoredChain) (waits : List ℕ) (r : Result ℕ E) → IsSound ss bs es owns room ws → waits ≡ c.top.waits → OnOk r (new ≡ es ++ Ready c waits ∷ []) → OnErr r (new ≡ es) → IsSound ss bs new owns room ws
made_sound ss bs es new owns room ws c waits (Ok n) sound top made same = subst (λ (all : List Entry). IsSound ss bs all owns room ws) (sym made) (more_sound ss bs es owns room ws c waits sound top)
made_sound ss bs es new owns room ws c waits (Err e) sound top made same = subst (λ (all : List Entry). IsSound ss bs all owns room ws) (sym same) sound

pub made_number : {E : Type 0} (bs : List (Option Bound)) (owns : List Scalar) (es : List Entry) (ws : List Waiter) (s : Seats) (r : Result ℕ E) → seats_seen bs owns es ws ≡ s → IfOk r (λ n. n ≡ length es) → IfOk r (λ n. n ≡ length s.stacks)
made_number bs owns es ws s (Ok n) v h = h ∙ many_stacks bs owns es ws s v
made_number bs owns es ws s (Err e) v h = tt

pub made_seen : {E : Type 0} (bs : List (Option Bound)) (owns : List Scalar) (es new : List Entry) (ws : List Waiter) (s : Seats) (c : StoredChain) (waits : List ℕ) (r : Result ℕ E) → seats_seen bs owns es ws ≡ s → OnOk r (new ≡ es ++ Ready c waits ∷ []) → OnOk r (seats_seen bs owns new ws ≡ record s { stacks = s.stacks ++ seen.Ready (frames_in c) ∷ [] })
made_seen bs owns es new ws s c waits (Err e) v h = tt
made_seen bs owns es new ws s c waits (Ok n) v h =
    ap (λ ss. record { threads = threads_seen bs owns; stacks = ss; waiters = ws }) (ap (stacks_seen bs) h ∙ map_pushed (stack_seen bs) (stack_seen bs) es (Ready c waits) (λ m x at. refl))
    ∙ ap (λ (w : Seats). record w { stacks = w.stacks ++ seen.Ready (frames_in c) ∷ [] }) v

pub same_seen : {E : Type 0} (bs : List (Option Bound)) (owns : List Scalar) (es new : List Entry) (ws : List Waiter) (s : Seats) (r : Result ℕ E) → seats_seen bs owns es ws ≡ s → OnErr r (new ≡ es) → OnErr r (seats_seen bs owns new ws ≡ s)
same_seen bs owns es new ws s (Ok n) v h = tt
same_seen bs owns es new ws s (Err e) v h = ap (λ all. seats_seen bs owns all ws) h ∙ v

-- ---- killing

is_ready_there : (bs : List (Option Bound)) (o : Option Entry) → IsReady (option_map (stack_seen bs) o) → IsSome (ready_frames o)
is_ready_there bs None h = absurd h
is_ready_there bs (Some (Ready c waits)) h = refl
is_ready_there bs (Some (Active i)) h = absurd h
is_ready_there bs (Some Dead) h = absurd h

pub ready_there : (bs : List (Option Bound)) (owns : List Scalar) (es : List Entry) (ws : List Waiter) (s : Seats) (n : ℕ) → seats_seen bs owns es ws ≡ s → IsReady (slice_get s.stacks n) → IsSome (ready_frames (slice_get es n))
ready_there bs owns es ws s n v h = is_ready_there bs (slice_get es n) (subst (λ (o : Option Stack). IsReady o) (at_stack bs owns es ws s n v) h)

frames_told : (bs : List (Option Bound)) (o : Option Entry) (c : StoredChain) → ready_frames o ≡ Some c → option_map (stack_seen bs) o ≡ Some (seen.Ready (frames_in c))
frames_told bs None c h = cc
frames_told bs (Some (Ready d waits)) c h = ap (λ x. Some (seen.Ready (frames_in x))) (same_Some d c h)
frames_told bs (Some (Active i)) c h = cc
frames_told bs (Some Dead) c h = cc

pub killed_frames : (bs : List (Option Bound)) (owns : List Scalar) (es : List Entry) (ws : List Waiter) (s : Seats) (n : ℕ) (c : StoredChain) → seats_seen bs owns es ws ≡ s → ready_frames (slice_get es n) ≡ Some c → slice_get s.stacks n ≡ Some (seen.Ready (frames_in c))
killed_frames bs owns es ws s n c v h = at_stack bs owns es ws s n v ∙ frames_told bs (slice_get es n) c h

never_active : (o : Option Entry) (c : StoredChain) → ready_frames o ≡ Some c → (j : ℕ) → o ≢ Some (Active j)
never_active None c h j e = cc
never_active (Some (Ready d waits)) c h j e = cc
never_active (Some (Active i)) c h j e = cc
never_active (Some Dead) c h j e = cc

within_ready : (es : List Entry) (n : ℕ) (o : Option Entry) (c : StoredChain) → slice_get es n ≡ o → ready_frames o ≡ Some c → n < length es
within_ready es n None c e h = cc
within_ready es n (Some x) c e h = slice_get_within es n x e

dead_pair : (i n : ℕ) → IsPair None Dead i n
dead_pair i n = record { bound = λ c e. cc; active = λ j e. cc; ready = λ c ws e. cc }

pub killed_sound : (ss : List ThreadState) (bs : List (Option Bound)) (es new : List Entry) (owns : List Scalar) (room : ℕ) (ws : List Waiter) (n : ℕ) (c : StoredChain) → IsSound ss bs es owns room ws → ready_frames (slice_get es n) ≡ Some c → new ≡ set es n Dead → IsSound ss bs new owns room ws
killed_sound ss bs es new owns room ws n c sound h e =
    let alone = alone_free bs es (length bs) n sound.agree (no_more_there bs) (never_active (slice_get es n) c h) in
    let pair = subst (λ o. IsPair o Dead (length bs) n) (sym (no_more_there bs)) (dead_pair (length bs) n) in
    subst (λ (all : List Entry). IsSound ss bs all owns room ws) (sym e)
    (record {
      states_fit = sound.states_fit;
      agree = agree_written bs bs es (length bs) n Dead sound.agree alone (within_ready es n (slice_get es n) c refl h) (λ j apart. refl) pair;
      even = sound.even;
      few = sound.few;
      room_fits = sound.room_fits;
      below = sound.below;
    })

pub killed_seen : (ss : List ThreadState) (bs : List (Option Bound)) (es new : List Entry) (owns : List Scalar) (room : ℕ) (ws : List Waiter) (s : Seats) (n : ℕ) (c : StoredChain) → seats_seen bs owns es ws ≡ s → IsSound ss bs es owns room ws → ready_frames (slice_get es n) ≡ Some c → new ≡ set es n Dead → seats_seen bs owns new ws ≡ record s { stacks = set s.stacks n seen.Dead }
killed_seen ss bs es new owns room ws s n c v sound h e =
    let alone = alone_free bs es (length bs) n sound.agree (no_more_there bs) (never_active (slice_get es n) c h) in
    ap (λ ks. record { threads = threads_seen bs owns; stacks = ks; waiters = ws }) (ap (stacks_seen bs) e ∙ stacks_written bs bs es (length bs) n Dead alone (λ j apart. refl))
    ∙ ap (λ (w : Seats). record w { stacks = set w.stacks n seen.Dead }) v

-- ---- leaving

pub taken_by : (ss : List ThreadState) (bs : List (Option Bound)) (es : List Entry) (owns : List Scalar) (room : ℕ) (ws : List Waiter) (s : Seats) (i : ℕ) → IsSound ss bs es owns room ws → IsSeated bs owns s i → IsTakenBy (there (slice_get bs i)) es
taken_by ss bs es owns room ws s i sound h =
    let p = sound.agree.bound i h.stack (ap there h.listed) in
    subst (λ o. IsTakenBy (there o) es) (sym h.listed) (p.1 ∙ ap (λ k. Some (Active k)) (sym p.0))

pub left_after : (t u : Threads) (es : List Entry) (owns : List Scalar) (room : ℕ) (ws : List Waiter) (s : Seats) (i : ℕ) → IsSound t.states t.stacks es owns room ws → IsSeated t.stacks owns s i → u ≡ with_stack t i None → IsLeft (slice_get u.states i)
left_after t u es owns room ws s i sound h e =
    subst (λ (ss : List ThreadState). IsLeft (slice_get ss i)) (sym (ap (λ (w : Threads). w.states) e ∙ sound.states_fit))
    (is_left (is_blocked ws) 0 t.stacks i h.stack h.listed)

pub none_after : (t u : Threads) (owns : List Scalar) (s : Seats) (i : ℕ) → IsSeated t.stacks owns s i → u ≡ with_stack t i None → slice_get u.stacks i ≡ Some None
none_after t u owns s i h e = ap (λ (w : Threads). slice_get w.stacks i) e ∙ get_written t.stacks i None (slice_get_within t.stacks i (Some h.stack) h.listed)

-- the stack of that thread dies, and the thread ends
pub ended_sound : (t u v : Threads) (es new : List Entry) (owns : List Scalar) (room : ℕ) (ws : List Waiter) (s : Seats) (i : ℕ) → IsSound t.states t.stacks es owns room ws → IsSeated t.stacks owns s i → u ≡ with_stack t i None → new ≡ dead_at (stack_of t i) es → v ≡ with_state u i Ended → IsSound v.states v.stacks new owns room ws
ended_sound t u v es new owns room ws s i sound h e f g =
    let now : v ≡ with_state (with_stack t i None) i Ended = g ∙ ap (λ (w : Threads). with_state w i Ended) e in
    let dead : new ≡ set es h.stack.number Dead = f ∙ ap (λ o. dead_at (there o) es) h.listed in
    rw (now, dead)
    (record {
      states_fit = ap (λ ss. set ss i Ended) sound.states_fit ∙ sym (states_unbound (is_blocked ws) 0 t.stacks i);
      agree = agree_dead t.stacks es i h.stack sound.agree h.listed;
      even = sound.even ∙ sym (length-set t.stacks i None);
      few = rw (length-set t.stacks i None) sound.few;
      room_fits = sound.room_fits;
      below = rw (length-set t.stacks i None) sound.below;
    })

pub ended_seen : (t u v : Threads) (es new : List Entry) (owns : List Scalar) (room : ℕ) (ws : List Waiter) (s : Seats) (i k : ℕ) → seats_seen t.stacks owns es ws ≡ s → IsSound t.states t.stacks es owns room ws → (h : IsSeated t.stacks owns s i) → h.stack.number ≡ k → u ≡ with_stack t i None → new ≡ dead_at (stack_of t i) es → v ≡ with_state u i Ended → seats_seen v.stacks owns new ws ≡ record s { threads = set s.threads i None; stacks = set s.stacks k seen.Dead }
ended_seen t u v es new owns room ws s i k view sound h number e f g =
    let now : v ≡ with_state (with_stack t i None) i Ended = g ∙ ap (λ (w : Threads). with_state w i Ended) e in
    let dead : new ≡ set es h.stack.number Dead = f ∙ ap (λ o. dead_at (there o) es) h.listed in
    ap (λ (w : Threads). seats_seen w.stacks owns new ws) now
    ∙ ap (λ all. seats_seen (set t.stacks i None) owns all ws) dead
    ∙ ap (λ ts. record { threads = ts; stacks = stacks_seen (set t.stacks i None) (set es h.stack.number Dead); waiters = ws }) (unbound t.stacks owns i)
    ∙ ap (λ ks. record { threads = set (threads_seen t.stacks owns) i None; stacks = ks; waiters = ws }) (seen_dead t.stacks es i h.stack sound.agree h.listed ∙ ap (λ n. set (stacks_seen t.stacks es) n seen.Dead) number)
    ∙ ap (λ (w : Seats). record w { threads = set w.threads i None; stacks = set w.stacks k seen.Dead }) view

-- ---- entering

-- a stack that is ready, and takes what comes
pub record IsOpen (es : List Entry) (n : ℕ) (e : Entered) : Type 0 where
  pub frames : StoredChain
  pub waits : List ℕ
  pub there : slice_get es n ≡ Some (Ready frames waits)
  pub top : waits ≡ frames.top.waits
  pub takes : Takes (frames_in frames) e

open_at : (bs : List (Option Bound)) (es : List Entry) (n : ℕ) (o : Option Entry) (e : Entered) → Agree bs es → slice_get es n ≡ o → IsReadyFor (option_map (stack_seen bs) o) e → IsOpen es n e
open_at bs es n None e a at h = absurd h
open_at bs es n (Some (Ready c waits)) e a at h = record { frames = c; waits = waits; there = at; top = a.ready n c waits at; takes = h }
open_at bs es n (Some (Active i)) e a at h = absurd h
open_at bs es n (Some Dead) e a at h = absurd h

pub is_open : (ss : List ThreadState) (bs : List (Option Bound)) (es : List Entry) (owns : List Scalar) (room : ℕ) (ws : List Waiter) (s : Seats) (n : ℕ) (e : Entered) → seats_seen bs owns es ws ≡ s → IsSound ss bs es owns room ws → IsReadyFor (slice_get s.stacks n) e → IsOpen es n e
is_open ss bs es owns room ws s n e v sound h = open_at bs es n (slice_get es n) e sound.agree refl (subst (λ (o : Option Stack). IsReadyFor o e) (at_stack bs owns es ws s n v) h)

pub takes_there : (es : List Entry) (n : ℕ) (e : Entered) → IsOpen es n e → TakesThere (slice_get es n) e
takes_there es n e o = subst (λ x. TakesThere x e) (sym o.there) (o.top, o.takes)

ready_and_active : (o : Option Entry) (c : StoredChain) (waits : List ℕ) (i : ℕ) → o ≡ Some (Ready c waits) → o ≡ Some (Active i) → ⊥
ready_and_active o c waits i e f = cc

-- it is so after a stack was left
open_after : (bs : List (Option Bound)) (es : List Entry) (i n : ℕ) (b : Bound) (x : Entry) (e : Entered) → Agree bs es → slice_get bs i ≡ Some (Some b) → IsOpen es n e → IsOpen (set es b.number x) n e
open_after bs es i n b x e a at o =
    let P : ℕ → Type 0 = λ m. slice_get es m ≡ Some (Active i) in
    let apart : n ≢ b.number = λ k. ready_and_active (slice_get es n) o.frames o.waits i o.there (subst P (sym k) ((a.bound i b (ap there at)).1)) in
    record { frames = o.frames; waits = o.waits; there = get_unwritten es b.number n x apart ∙ o.there; top = o.top; takes = o.takes }

pub open_after_ready : (t : Threads) (es new : List Entry) (owns : List Scalar) (room : ℕ) (ws : List Waiter) (s : Seats) (i n : ℕ) (cs : List ℕ) (e : Entered) → IsSound t.states t.stacks es owns room ws → IsSeated t.stacks owns s i → IsOpen es n e → new ≡ ready_at (stack_of t i) cs es → IsOpen new n e
open_after_ready t es new owns room ws s i n cs e sound h o f =
    let now : new ≡ set es h.stack.number (Ready h.stack.frames cs) = f ∙ ap (λ x. ready_at (there x) cs es) h.listed in
    subst (λ (all : List Entry). IsOpen all n e) (sym now) (open_after t.stacks es i n h.stack (Ready h.stack.frames cs) e sound.agree h.listed o)

pub open_after_dead : (t : Threads) (es new : List Entry) (owns : List Scalar) (room : ℕ) (ws : List Waiter) (s : Seats) (i n : ℕ) (e : Entered) → IsSound t.states t.stacks es owns room ws → IsSeated t.stacks owns s i → IsOpen es n e → new ≡ dead_at (stack_of t i) es → IsOpen new n e
open_after_dead t es new owns room ws s i n e sound h o f =
    let now : new ≡ set es h.stack.number Dead = f ∙ ap (λ x. dead_at (there x) es) h.listed in
    subst (λ (all : List Entry). IsOpen all n e) (sym now) (open_after t.stacks es i n h.stack Dead e sound.agree h.listed o)

-- what the top frame waits for
pub top_waits : (ss : List ThreadState) (bs : List (Option Bound)) (es : List Entry) (owns : List Scalar) (room : ℕ) (ws : List Waiter) (s : Seats) (i k : ℕ) (cs : List ℕ) → seats_seen bs owns es ws ≡ s → IsSound ss bs es owns room ws → (h : IsSeated bs owns s i) → h.stack.number ≡ k → WaitsFor (slice_get s.stacks k) cs → cs ≡ h.stack.frames.top.waits
top_waits ss bs es owns room ws s i k cs v sound h number waits =
    let here = ap (λ (w : Seats). slice_get w.stacks k) (sym v) ∙ ap (slice_get (stacks_seen bs es)) (sym number) ∙ own_stack bs es i h.stack sound.agree h.listed in
    sym (subst (λ (o : Option Stack). WaitsFor o cs) here waits)

-- ---- a thread that has left its stack

pub agree_after_ready : (t : Threads) (es new : List Entry) (owns : List Scalar) (room : ℕ) (ws : List Waiter) (s : Seats) (i : ℕ) (cs : List ℕ) → IsSound t.states t.stacks es owns room ws → (h : IsSeated t.stacks owns s i) → cs ≡ h.stack.frames.top.waits → new ≡ ready_at (stack_of t i) cs es → Agree (set t.stacks i None) new
agree_after_ready t es new owns room ws s i cs sound h top f =
    let now : new ≡ set es h.stack.number (Ready h.stack.frames cs) = f ∙ ap (λ x. ready_at (there x) cs es) h.listed in
    subst (λ (all : List Entry). Agree (set t.stacks i None) all) (sym now) (agree_ready t.stacks es i h.stack cs sound.agree h.listed top)

pub agree_after_dead : (t : Threads) (es new : List Entry) (owns : List Scalar) (room : ℕ) (ws : List Waiter) (s : Seats) (i : ℕ) → IsSound t.states t.stacks es owns room ws → IsSeated t.stacks owns s i → new ≡ dead_at (stack_of t i) es → Agree (set t.stacks i None) new
agree_after_dead t es new owns room ws s i sound h f =
    let now : new ≡ set es h.stack.number Dead = f ∙ ap (λ x. dead_at (there x) es) h.listed in
    subst (λ (all : List Entry). Agree (set t.stacks i None) all) (sym now) (agree_dead t.stacks es i h.stack sound.agree h.listed)

pub stacks_after_ready : (t : Threads) (es new : List Entry) (owns : List Scalar) (room : ℕ) (ws : List Waiter) (s : Seats) (i k : ℕ) (cs : List ℕ) → IsSound t.states t.stacks es owns room ws → (h : IsSeated t.stacks owns s i) → h.stack.number ≡ k → new ≡ ready_at (stack_of t i) cs es → stacks_seen (set t.stacks i None) new ≡ changed left_ready k (stacks_seen t.stacks es)
stacks_after_ready t es new owns room ws s i k cs sound h number f =
    let now : new ≡ set es h.stack.number (Ready h.stack.frames cs) = f ∙ ap (λ x. ready_at (there x) cs es) h.listed in
    ap (stacks_seen (set t.stacks i None)) now
    ∙ seen_ready t.stacks es i h.stack cs sound.agree h.listed
    ∙ sym (changed_at left_ready (stacks_seen t.stacks es) h.stack.number (seen.Active i (frames_in h.stack.frames)) (own_stack t.stacks es i h.stack sound.agree h.listed))
    ∙ ap (λ n. changed left_ready n (stacks_seen t.stacks es)) number

pub stacks_after_dead : (t : Threads) (es new : List Entry) (owns : List Scalar) (room : ℕ) (ws : List Waiter) (s : Seats) (i k : ℕ) → IsSound t.states t.stacks es owns room ws → (h : IsSeated t.stacks owns s i) → h.stack.number ≡ k → new ≡ dead_at (stack_of t i) es → stacks_seen (set t.stacks i None) new ≡ set (stacks_seen t.stacks es) k seen.Dead
stacks_after_dead t es new owns room ws s i k sound h number f =
    let now : new ≡ set es h.stack.number Dead = f ∙ ap (λ x. dead_at (there x) es) h.listed in
    ap (stacks_seen (set t.stacks i None)) now
    ∙ seen_dead t.stacks es i h.stack sound.agree h.listed
    ∙ ap (λ n. set (stacks_seen t.stacks es) n seen.Dead) number

-- ---- it sits on another one

pub sat_sound : (t u v : Threads) (es left new : List Entry) (owns : List Scalar) (room : ℕ) (ws : List Waiter) (s : Seats) (i n : ℕ) (e : Entered) → IsSound t.states t.stacks es owns room ws → IsSeated t.stacks owns s i → Agree (set t.stacks i None) left → (o : IsOpen left n e) → u ≡ with_stack t i None → v ≡ with_stack u i (bound_from n i (slice_get left n)) → new ≡ set left n (Active i) → IsSound v.states v.stacks new owns room ws
sat_sound t u v es left new owns room ws s i n e sound h a o f g k =
    let b = entered_by n i o.frames in
    let within = slice_get_within t.stacks i (Some h.stack) h.listed in
    let now : v ≡ record { states = t.states; stacks = set t.stacks i (Some b) } =
    g ∙ ap (λ (w : Threads). with_stack w i (bound_from n i (slice_get left n))) f ∙ ap (λ x. with_stack (with_stack t i None) i (bound_from n i x)) o.there
    ∙ ap (λ bs. record { states = t.states; stacks = bs }) (set_twice t.stacks i None (Some b)) in
    rw (now, k)
    (record {
      states_fit = sound.states_fit ∙ sym (states_bound (is_blocked ws) 0 t.stacks i h.stack b h.listed);
      agree = agree_entered (set t.stacks i None) (set t.stacks i (Some b)) left i n o.frames o.waits a (none_there t.stacks i within) (back_elsewhere t.stacks i b) (back_there t.stacks i b within) o.there;
      even = sound.even ∙ sym (length-set t.stacks i (Some b));
      few = rw (length-set t.stacks i (Some b)) sound.few;
      room_fits = sound.room_fits;
      below = rw (length-set t.stacks i (Some b)) sound.below;
    })

pub sat_seen : (t u v : Threads) (left new : List Entry) (owns : List Scalar) (ws : List Waiter) (s : Seats) (i n : ℕ) (e : Entered) → IsSeated t.stacks owns s i → Agree (set t.stacks i None) left → (o : IsOpen left n e) → u ≡ with_stack t i None → v ≡ with_stack u i (bound_from n i (slice_get left n)) → new ≡ set left n (Active i) → seats_seen v.stacks owns new ws ≡ record { threads = changed (option_map (on_stack n)) i (threads_seen t.stacks owns); stacks = changed (bound_to i) n (stacks_seen (set t.stacks i None) left); waiters = ws }
sat_seen t u v left new owns ws s i n e h a o f g k =
    let b = entered_by n i o.frames in
    let within = slice_get_within t.stacks i (Some h.stack) h.listed in
    let now : v ≡ record { states = t.states; stacks = set t.stacks i (Some b) } =
    g ∙ ap (λ (w : Threads). with_stack w i (bound_from n i (slice_get left n))) f ∙ ap (λ x. with_stack (with_stack t i None) i (bound_from n i x)) o.there
    ∙ ap (λ bs. record { states = t.states; stacks = bs }) (set_twice t.stacks i None (Some b)) in
    ap (λ (w : Threads). seats_seen w.stacks owns new ws) now
    ∙ ap (λ all. seats_seen (set t.stacks i (Some b)) owns all ws) k
    ∙ ap (λ ts. record { threads = ts; stacks = stacks_seen (set t.stacks i (Some b)) (set left n (Active i)); waiters = ws }) (bound_elsewhere t.stacks owns i h.stack b h.listed)
    ∙ ap (λ ks. record { threads = changed (option_map (on_stack n)) i (threads_seen t.stacks owns); stacks = ks; waiters = ws })
    (seen_entered (set t.stacks i None) (set t.stacks i (Some b)) left i n o.frames o.waits a (none_there t.stacks i within) (back_elsewhere t.stacks i b) (back_there t.stacks i b within) o.there
    ∙ sym (changed_at (bound_to i) (stacks_seen (set t.stacks i None) left) n (seen.Ready (frames_in o.frames)) (stack_here (set t.stacks i None) left n (Ready o.frames o.waits) o.there)))

pub sat_after_ready : (t u v : Threads) (es left new : List Entry) (owns : List Scalar) (room : ℕ) (ws : List Waiter) (s : Seats) (i k n : ℕ) (cs : List ℕ) (e : Entered) → seats_seen t.stacks owns es ws ≡ s → IsSound t.states t.stacks es owns room ws → (h : IsSeated t.stacks owns s i) → h.stack.number ≡ k → cs ≡ h.stack.frames.top.waits → left ≡ ready_at (stack_of t i) cs es → IsOpen left n e → u ≡ with_stack t i None → v ≡ with_stack u i (bound_from n i (slice_get left n)) → new ≡ set left n (Active i) → seats_seen v.stacks owns new ws ≡ record s { threads = changed (option_map (on_stack n)) i s.threads; stacks = changed (bound_to i) n (changed left_ready k s.stacks) }
sat_after_ready t u v es left new owns room ws s i k n cs e view sound h number top l o f g m =
    sat_seen t u v left new owns ws s i n e h (agree_after_ready t es left owns room ws s i cs sound h top l) o f g m
    ∙ ap (λ ks. record { threads = changed (option_map (on_stack n)) i (threads_seen t.stacks owns); stacks = changed (bound_to i) n ks; waiters = ws }) (stacks_after_ready t es left owns room ws s i k cs sound h number l)
    ∙ ap (λ (w : Seats). record w { threads = changed (option_map (on_stack n)) i w.threads; stacks = changed (bound_to i) n (changed left_ready k w.stacks) }) view

pub sat_after_dead : (t u v : Threads) (es left new : List Entry) (owns : List Scalar) (room : ℕ) (ws : List Waiter) (s : Seats) (i k n : ℕ) (e : Entered) → seats_seen t.stacks owns es ws ≡ s → IsSound t.states t.stacks es owns room ws → (h : IsSeated t.stacks owns s i) → h.stack.number ≡ k → left ≡ dead_at (stack_of t i) es → IsOpen left n e → u ≡ with_stack t i None → v ≡ with_stack u i (bound_from n i (slice_get left n)) → new ≡ set left n (Active i) → seats_seen v.stacks owns new ws ≡ record s { threads = changed (option_map (on_stack n)) i s.threads; stacks = changed (bound_to i) n (set s.stacks k seen.Dead) }
sat_after_dead t u v es left new owns room ws s i k n e view sound h number l o f g m =
    sat_seen t u v left new owns ws s i n e h (agree_after_dead t es left owns room ws s i sound h l) o f g m
    ∙ ap (λ ks. record { threads = changed (option_map (on_stack n)) i (threads_seen t.stacks owns); stacks = changed (bound_to i) n ks; waiters = ws }) (stacks_after_dead t es left owns room ws s i k sound h number l)
    ∙ ap (λ (w : Seats). record w { threads = changed (option_map (on_stack n)) i w.threads; stacks = changed (bound_to i) n (set w.stacks k seen.Dead) }) view

-- ---- a new thread sits on a stack

below_more : (n : ℕ) (ws : List Waiter) → AreBelow n ws → AreBelow (n + 1) ws
below_more n [] h = tt
below_more n (w ∷ ws) (one, rest) = (omega (arith, one), below_more n ws rest)

never_blocked : (n i : ℕ) (ws : List Waiter) → AreBelow n ws → n ≤ i → is_blocked ws i ≡ false
never_blocked n i [] h le = refl
never_blocked n i (w ∷ ws) (one, rest) le = let apart : (w.thread == i) ≡ false = grind (arith, one, le) in rw apart (never_blocked n i ws rest le)

pub started_sound : (t u : Threads) (es new : List Entry) (owns more : List Scalar) (room wide : ℕ) (ws : List Waiter) (n : ℕ) (own : Scalar) (e : Entered) → IsSound t.states t.stacks es owns room ws → IsOpen es n e → length t.states < 64 → u.states ≡ t.states ++ Runs ∷ [] → u.stacks ≡ t.stacks ++ bound_from n (length t.states) (slice_get es n) ∷ [] → new ≡ set es n (Active (length t.states)) → more ≡ owns ++ own ∷ [] → wide ≡ room → IsSound u.states u.stacks new more wide ws
started_sound t u es new owns more room wide ws n own e sound o few f g k m w =
    let same = even_states t.states t.stacks es owns room ws sound in
    let b = entered_by n (length t.stacks) o.frames in
    let now : u.stacks ≡ t.stacks ++ Some b ∷ [] = g ∙ ap (λ x. t.stacks ++ bound_from n (length t.states) x ∷ []) o.there ∙ ap (λ j. t.stacks ++ Some (entered_by n j o.frames) ∷ []) (sym same) in
    let entry : new ≡ set es n (Active (length t.stacks)) = k ∙ ap (λ j. set es n (Active j)) (sym same) in
    let long : length (t.stacks ++ Some b ∷ []) ≡ length t.stacks + 1 = length_push t.stacks (Some b) in
    let free = never_blocked (length t.stacks) (0 + length t.stacks) ws sound.below (omega arith) in
    rw (f, now, entry, m, w)
    (record {
      states_fit = ap (λ ss. ss ++ Runs ∷ []) sound.states_fit ∙ sym (states_more (is_blocked ws) 0 t.stacks b free);
      agree = agree_entered t.stacks (t.stacks ++ Some b ∷ []) es (length t.stacks) n o.frames o.waits sound.agree (no_more_there t.stacks) (last_elsewhere t.stacks b) (last_there t.stacks b) o.there;
      even = length_push owns own ∙ ap (λ j. j + 1) sound.even ∙ sym long;
      few = omega (arith, long, same, few);
      room_fits = sound.room_fits;
      below = rw long (below_more (length t.stacks) ws sound.below);
    })

pub started_seen : (t u : Threads) (es new : List Entry) (owns more : List Scalar) (room : ℕ) (ws : List Waiter) (s : Seats) (n : ℕ) (own : Scalar) (e : Entered) → seats_seen t.stacks owns es ws ≡ s → IsSound t.states t.stacks es owns room ws → IsOpen es n e → u.stacks ≡ t.stacks ++ bound_from n (length t.states) (slice_get es n) ∷ [] → new ≡ set es n (Active (length t.states)) → more ≡ owns ++ own ∷ [] → seats_seen u.stacks more new ws ≡ record s { threads = s.threads ++ Some (record { stack = n; own = own }) ∷ []; stacks = changed (bound_to (length s.threads)) n s.stacks }
started_seen t u es new owns more room ws s n own e view sound o g k m =
    let same = even_states t.states t.stacks es owns room ws sound in
    let b = entered_by n (length t.stacks) o.frames in
    let now : u.stacks ≡ t.stacks ++ Some b ∷ [] = g ∙ ap (λ x. t.stacks ++ bound_from n (length t.states) x ∷ []) o.there ∙ ap (λ j. t.stacks ++ Some (entered_by n j o.frames) ∷ []) (sym same) in
    let entry : new ≡ set es n (Active (length t.stacks)) = k ∙ ap (λ j. set es n (Active j)) (sym same) in
    let many = many_seen t.stacks owns sound.even in
    ap (λ bs. seats_seen bs more new ws) now
    ∙ ap (λ os. seats_seen (t.stacks ++ Some b ∷ []) os new ws) m
    ∙ ap (λ all. seats_seen (t.stacks ++ Some b ∷ []) (owns ++ own ∷ []) all ws) entry
    ∙ ap (λ ts. record { threads = ts; stacks = stacks_seen (t.stacks ++ Some b ∷ []) (set es n (Active (length t.stacks))); waiters = ws }) (one_more t.stacks owns b own sound.even)
    ∙ ap (λ ks. record { threads = threads_seen t.stacks owns ++ Some (record { stack = n; own = own }) ∷ []; stacks = ks; waiters = ws })
    (seen_entered t.stacks (t.stacks ++ Some b ∷ []) es (length t.stacks) n o.frames o.waits sound.agree (no_more_there t.stacks) (last_elsewhere t.stacks b) (last_there t.stacks b) o.there
    ∙ sym (changed_at (bound_to (length t.stacks)) (stacks_seen t.stacks es) n (seen.Ready (frames_in o.frames)) (stack_here t.stacks es n (Ready o.frames o.waits) o.there))
    ∙ ap (λ j. changed (bound_to j) n (stacks_seen t.stacks es)) (sym many))
    ∙ ap (λ (w : Seats). record w { threads = w.threads ++ Some (record { stack = n; own = own }) ∷ []; stacks = changed (bound_to (length w.threads)) n w.stacks }) view
