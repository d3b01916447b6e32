-- What is seen, after the threads or their stacks have changed.
use Rattle.std.specs.Prelude.{◌≡◌, ℕ, ◌<◌, ◌==◌, true, List, Option, Some, None, length, slice_get, option_map, IsSome, IsSomeAnd, is_some, refl}
use Rattle.std.proofs.Common.{sym, ◌∙◌, ap, subst, arith, set}
use Rattle.std.proofs.lemmas.Option.{slice_get_within, same_Some}
use Rattle.std.proofs.lemmas.List.{length-set}
use Rattle.mu_values.specs.declared.scalars.Scalar.{Scalar}
use Rattle.frames.specs.Activations.{Activation}
use Rattle.frames.specs.Chains.{StoredChain, frames_in}
use Rattle.stacks.specs.Stacks.{Bound}
use Rattle.stacks.specs.Directories.{Entry}
use Rattle.mu_threads.specs.Threads.{Threads, there, stack_of, runnable_from, with_stack}
use Rattle.mu_threads.specs.declared.state.ThreadState.{ThreadState}
use Rattle.futex.specs.declared.waiters.Waiter.{Waiter}
use Rattle.mu_model.specs.Configuration.{Stack, Thread, Active}
use Rattle.mu_model.specs.Changes.{changed}
use Rattle.mu_model.specs.Turns.{active_on}
use Rattle.mu_model.specs.Step.{is_blocked}
use Rattle.seats.specs.Seats.{Seats, seat_of, IsOn, runnable_of}
use Rattle.seats.specs.Kept.{threads_seen, stacks_seen, seats_seen, with_frames, frames_held, IsSound}
use Rattle.seats.proofs.Threads.{seat, held, seat_seen, bound_again, owned, listed, states_bound}
use Rattle.seats.proofs.Moving.{agree_exchanged, seen_exchanged, own_stack}

-- ---- a thread that is left

-- what is seen and what is kept of it
pub record IsSeated (bs : List (Option Bound)) (owns : List Scalar) (s : Seats) (i : ℕ) : Type 0 where
  pub stack : Bound
  pub own : Scalar
  pub listed : slice_get bs i ≡ Some (Some stack)
  pub owned : slice_get owns i ≡ Some own
  pub seen : seat_of s i ≡ Some (record { stack = stack.number; own = own })

record IsHeldAt (bs : List (Option Bound)) (owns : List Scalar) (i : ℕ) : Type 0 where
  pub stack : Bound
  pub own : Scalar
  pub listed : slice_get bs i ≡ Some (Some stack)
  pub owned : slice_get owns i ≡ Some own

from_some : (bs : List (Option Bound)) (owns : List Scalar) (i : ℕ) (o : Option Thread) → seat (threads_seen bs owns) i ≡ o → IsSome o → IsHeldAt bs owns i
from_some bs owns i None e h = cc
from_some bs owns i (Some t) e h = let k = held bs owns i t e in record { stack = k.stack; own = t.own; listed = k.listed; owned = k.own }

pub seated : (bs : List (Option Bound)) (owns : List Scalar) (es : List Entry) (ws : List Waiter) (s : Seats) (i : ℕ) → seats_seen bs owns es ws ≡ s → IsSome (seat_of s i) → IsSeated bs owns s i
seated bs owns es ws s i e h =
    subst (λ (v : Seats). IsSome (seat_of v i) → IsSeated bs owns v i) e
    (λ k. let at = from_some bs owns i (seat (threads_seen bs owns) i) refl k in
    record { stack = at.stack; own = at.own; listed = at.listed; owned = at.owned; seen = seat_seen bs owns i at.stack at.own at.listed at.owned }) h

some_of : (o : Option Thread) (P : Thread → Type 0) → IsSomeAnd o P → IsSome o
some_of None P h = absurd h
some_of (Some t) P h = refl

fact_of : (o : Option Thread) (t : Thread) (P : Thread → Type 0) → o ≡ Some t → IsSomeAnd o P → P t
fact_of None t P e h = absurd h
fact_of (Some u) t P e h = subst P (same_Some u t e) h

-- a thread that is left and on that stack
pub on_stack : (bs : List (Option Bound)) (owns : List Scalar) (es : List Entry) (ws : List Waiter) (s : Seats) (i k : ℕ) → seats_seen bs owns es ws ≡ s → IsOn s i k → (h : IsSeated bs owns s i) × (h.stack.number ≡ k)
on_stack bs owns es ws s i k e on =
    let h = seated bs owns es ws s i e (some_of (seat_of s i) (λ t. t.stack ≡ k) on) in
    (h, fact_of (seat_of s i) (record { stack = h.stack.number; own = h.own }) (λ t. t.stack ≡ k) h.seen on)

pub holds : (bs : List (Option Bound)) (owns : List Scalar) (s : Seats) (i : ℕ) → IsSeated bs owns s i → IsSome (there (slice_get bs i))
holds bs owns s i h = ap (λ o. is_some (there o)) h.listed

-- ---- looking

pub runnable_seen : (states : List ThreadState) (bs : List (Option Bound)) (owns : List Scalar) (es : List Entry) (room : ℕ) (ws : List Waiter) (s : Seats) → seats_seen bs owns es ws ≡ s → IsSound states bs es owns room ws → runnable_from 0 states ≡ runnable_of s
runnable_seen states bs owns es room ws s e sound =
    ap (runnable_from 0) sound.states_fit ∙ listed (is_blocked ws) 0 bs owns sound.even ∙ ap (λ (v : Seats). runnable_of v) e

same_number : (bs : List (Option Bound)) (i : ℕ) (b c : Bound) → slice_get bs i ≡ Some (Some b) → there (slice_get bs i) ≡ Some c → b ≡ c
same_number bs i b c at e = same_Some b c (sym (ap there at) ∙ e)

pub number_seen : (bs : List (Option Bound)) (owns : List Scalar) (s : Seats) (i : ℕ) (b : Bound) → IsSeated bs owns s i → there (slice_get bs i) ≡ Some b → IsOn s i b.number
number_seen bs owns s i b h e =
    let P : Option Thread → Type 0 = λ o. IsSomeAnd o (λ t. t.stack ≡ b.number) in
    subst P (sym h.seen) (ap (λ (c : Bound). c.number) (same_number bs i h.stack b h.listed e))

active_here : (i : ℕ) (fs : List Activation) → IsSome (active_on i (Active i fs))
active_here i fs = let same : (i == i) ≡ true = grind arith in rw same refl

pub active_seen : (states : List ThreadState) (bs : List (Option Bound)) (owns : List Scalar) (es : List Entry) (room : ℕ) (ws : List Waiter) (s : Seats) (i : ℕ) (b : Bound) → seats_seen bs owns es ws ≡ s → IsSound states bs es owns room ws → IsSeated bs owns s i → there (slice_get bs i) ≡ Some b → IsSomeAnd (slice_get s.stacks b.number) (λ k. IsSome (active_on i k))
active_seen states bs owns es room ws s i b e sound h at =
    let P : Option Stack → Type 0 = λ o. IsSomeAnd o (λ k. IsSome (active_on i k)) in
    let Q : Bound → Type 0 = λ c. slice_get bs i ≡ Some (Some c) in
    let here = own_stack bs es i b sound.agree (subst Q (same_number bs i h.stack b h.listed at) h.listed) in
    subst P (sym (ap (λ (v : Seats). slice_get v.stacks b.number) (sym e) ∙ here)) (active_here i (frames_in b.frames))

-- ---- own objects

pub own_within : (bs : List (Option Bound)) (owns : List Scalar) (s : Seats) (i : ℕ) → IsSeated bs owns s i → i < length owns
own_within bs owns s i h = slice_get_within owns i h.own h.owned

pub own_seen : (bs : List (Option Bound)) (owns : List Scalar) (s : Seats) (i : ℕ) (own : Scalar) → IsSeated bs owns s i → slice_get owns i ≡ Some own → IsSomeAnd (seat_of s i) (λ t. t.own ≡ own)
own_seen bs owns s i own h at =
    let P : Option Thread → Type 0 = λ o. IsSomeAnd o (λ t. t.own ≡ own) in
    subst P (sym h.seen) (same_Some h.own own (sym h.owned ∙ at))

pub owns_written : (states : List ThreadState) (bs : List (Option Bound)) (owns new : List Scalar) (es : List Entry) (room more : ℕ) (ws : List Waiter) (i : ℕ) (own : Scalar) → IsSound states bs es owns room ws → new ≡ set owns i own → more ≡ room → IsSound states bs es new more ws
owns_written states bs owns new es room more ws i own sound e f =
    record {
      states_fit = sound.states_fit;
      agree = sound.agree;
      even = ap length e ∙ length-set owns i own ∙ sound.even;
      few = sound.few;
      room_fits = omega (arith, sound.room_fits, f);
      below = sound.below;
    }

pub owned_seen : (bs : List (Option Bound)) (owns new : List Scalar) (es : List Entry) (ws : List Waiter) (s : Seats) (i : ℕ) (own : Scalar) → seats_seen bs owns es ws ≡ s → new ≡ set owns i own → seats_seen bs new es ws ≡ record s { threads = changed (option_map (λ (t : Thread). record t { own = own })) i s.threads }
owned_seen bs owns new es ws s i own e f =
    ap (λ ts. record { threads = ts; stacks = stacks_seen bs es; waiters = ws }) (ap (λ os. threads_seen bs os) f ∙ owned bs owns i own)
    ∙ ap (λ (v : Seats). record v { threads = changed (option_map (λ (t : Thread). record t { own = own })) i v.threads }) e

-- ---- other frames

pub exchanged_sound : (t u : Threads) (owns : List Scalar) (es : List Entry) (room : ℕ) (ws : List Waiter) (s : Seats) (i : ℕ) (f : StoredChain) → IsSound t.states t.stacks es owns room ws → IsSeated t.stacks owns s i → u ≡ with_stack t i (with_frames f (stack_of t i)) → IsSound u.states u.stacks es owns room ws
exchanged_sound t u owns es room ws s i f sound h e =
    let now = e ∙ ap (λ o. with_stack t i (with_frames f (there o))) h.listed in
    let b = h.stack in
    subst (λ (v : Threads). IsSound v.states v.stacks es owns room ws) (sym now)
    (record {
      states_fit = sound.states_fit ∙ sym (states_bound (is_blocked ws) 0 t.stacks i b (record b { frames = f }) h.listed);
      agree = agree_exchanged t.stacks es i b f sound.agree h.listed;
      even = sound.even ∙ sym (length-set t.stacks i (Some (record b { frames = f })));
      few = rw (length-set t.stacks i (Some (record b { frames = f }))) sound.few;
      room_fits = sound.room_fits;
      below = rw (length-set t.stacks i (Some (record b { frames = f }))) sound.below;
    })

pub exchanged_seen : (t u : Threads) (owns : List Scalar) (es : List Entry) (room : ℕ) (ws : List Waiter) (s : Seats) (i k : ℕ) (f : StoredChain) → seats_seen t.stacks owns es ws ≡ s → IsSound t.states t.stacks es owns room ws → (h : IsSeated t.stacks owns s i) → h.stack.number ≡ k → u ≡ with_stack t i (with_frames f (stack_of t i)) → seats_seen u.stacks owns es ws ≡ record s { stacks = set s.stacks k (Active i (frames_in f)) }
exchanged_seen t u owns es room ws s i k f v sound h number e =
    let now = e ∙ ap (λ o. with_stack t i (with_frames f (there o))) h.listed in
    let b = h.stack in
    ap (λ (w : Threads). seats_seen w.stacks owns es ws) now
    ∙ ap (λ ts. record { threads = ts; stacks = stacks_seen (set t.stacks i (Some (record b { frames = f }))) es; waiters = ws }) (bound_again t.stacks owns i b (record b { frames = f }) h.listed refl)
    ∙ ap (λ ss. record { threads = threads_seen t.stacks owns; stacks = ss; waiters = ws }) (seen_exchanged t.stacks es i b f sound.agree h.listed ∙ ap (λ n. set (stacks_seen t.stacks es) n (Active i (frames_in f))) number)
    ∙ ap (λ (w : Seats). record w { stacks = set w.stacks k (Active i (frames_in f)) }) v

-- the frames that were there
pub frames_seen : (states : List ThreadState) (bs : List (Option Bound)) (owns : List Scalar) (es : List Entry) (room : ℕ) (ws : List Waiter) (s : Seats) (i k : ℕ) (f : StoredChain) → seats_seen bs owns es ws ≡ s → IsSound states bs es owns room ws → (h : IsSeated bs owns s i) → h.stack.number ≡ k → frames_held (there (slice_get bs i)) ≡ Some f → slice_get s.stacks k ≡ Some (Active i (frames_in f))
frames_seen states bs owns es room ws s i k f v sound h number e =
    let same : h.stack.frames ≡ f = same_Some h.stack.frames f (sym (ap (λ o. frames_held (there o)) h.listed) ∙ e) in
    ap (λ (w : Seats). slice_get w.stacks k) (sym v)
    ∙ ap (slice_get (stacks_seen bs es)) (sym number)
    ∙ own_stack bs es i h.stack sound.agree h.listed
    ∙ ap (λ c. Some (Active i (frames_in c))) same
