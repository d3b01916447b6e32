-- A thread ends, and its stack stays ready.
use Rattle.std.specs.Prelude.{◌≡◌, ℕ, List, None}
use Rattle.std.proofs.Common.{sym, ◌∙◌, ap, set}
use Rattle.std.proofs.lemmas.List.{length-set}
use Rattle.mu_values.specs.declared.scalars.Scalar.{Scalar}
use Rattle.stacks.specs.Directories.{Entry}
use Rattle.mu_threads.specs.Threads.{Threads, stack_of, with_stack, with_state}
use Rattle.mu_threads.specs.declared.state.ThreadState.TheVariants.{Ended}
use Rattle.futex.specs.declared.waiters.Waiter.{Waiter}
use Rattle.mu_model.specs.Changes.{changed}
use Rattle.mu_model.specs.Step.{is_blocked}
use Rattle.seats.specs.Seats.{Seats, left_ready}
use Rattle.seats.specs.Kept.{threads_seen, stacks_seen, seats_seen, ready_at, IsSound}
use Rattle.seats.proofs.Threads.{unbound, states_unbound}
use Rattle.seats.proofs.Seen.{IsSeated}
use Rattle.seats.proofs.Changing.{agree_after_ready, stacks_after_ready}

pub exited_sound : (t u v : Threads) (es new : List Entry) (owns : List Scalar) (room : ℕ) (ws : List Waiter) (s : Seats) (i : ℕ) (cs : List ℕ) → IsSound t.states t.stacks es owns room ws → (h : IsSeated t.stacks owns s i) → cs ≡ h.stack.frames.top.waits → u ≡ with_stack t i None → new ≡ ready_at (stack_of t i) cs es → v ≡ with_state u i Ended → IsSound v.states v.stacks new owns room ws
exited_sound t u v es new owns room ws s i cs sound h top e f g =
    let now : v ≡ with_state (with_stack t i None) i Ended = g ∙ ap (λ (w : Threads). with_state w i Ended) e in
    rw now
    (record {
      states_fit = ap (λ ss. set ss i Ended) sound.states_fit ∙ sym (states_unbound (is_blocked ws) 0 t.stacks i);
      agree = agree_after_ready t es new owns room ws s i cs sound h top f;
      even = sound.even ∙ sym (length-set t.stacks i None);
      few = rw (length-set t.stacks i None) sound.few;
      room_fits = sound.room_fits;
      below = rw (length-set t.stacks i None) sound.below;
    })

pub exited_seen : (t u v : Threads) (es new : List Entry) (owns : List Scalar) (room : ℕ) (ws : List Waiter) (s : Seats) (i k : ℕ) (cs : List ℕ) → seats_seen t.stacks owns es ws ≡ s → IsSound t.states t.stacks es owns room ws → (h : IsSeated t.stacks owns s i) → h.stack.number ≡ k → u ≡ with_stack t i None → new ≡ ready_at (stack_of t i) cs es → v ≡ with_state u i Ended → seats_seen v.stacks owns new ws ≡ record s { threads = set s.threads i None; stacks = changed left_ready k s.stacks }
exited_seen t u v es new owns room ws s i k cs view sound h number e f g =
    let now : v ≡ with_state (with_stack t i None) i Ended = g ∙ ap (λ (w : Threads). with_state w i Ended) e in
    ap (λ (w : Threads). seats_seen w.stacks owns new ws) now
    ∙ ap (λ ts. record { threads = ts; stacks = stacks_seen (set t.stacks i None) new; waiters = ws }) (unbound t.stacks owns i)
    ∙ ap (λ ks. record { threads = set (threads_seen t.stacks owns) i None; stacks = ks; waiters = ws }) (stacks_after_ready t es new owns room ws s i k cs sound h number f)
    ∙ ap (λ (w : Seats). record w { threads = set w.threads i None; stacks = changed left_ready k w.stacks }) view
