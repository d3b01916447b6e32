-- A step of the machine.
use Rattle.std.specs.Prelude.{ℕ, suc, Bool, ◌&&◌, ◌==◌, not, List, [], ◌∷◌, Option, Some, None, length, filter, find, slice_get, if◌then◌else◌}
use Rattle.std.specs.List.{list_any}
use Rattle.mu_values.specs.declared.scalars.Scalar.{Scalar}
use Rattle.mu_values.specs.declared.scalars.Scalar.TheVariants as scalars
use Rattle.mu_base.specs.declared.order.Order.{Order}
use Rattle.mem_axioms.specs.declared.types.Kind.TheVariants.{Fence}
use Rattle.mu_model.specs.declared.lines.Note.TheVariants.{Exited}
use Rattle.mu_model.specs.declared.endings.Ending.TheVariants.{Done, AllWaiting, Budget}
use Rattle.futex.specs.declared.waiters.Waiter.{Waiter}
use Rattle.mu_model.specs.Configuration.{Thread, Configuration}
use Rattle.mu_model.specs.Acts as acts
use Rattle.mu_model.specs.Acts.{Act, Program}
use Rattle.mu_threads.specs.Picks.{pick}
use Rattle.mu_model.specs.Changes.{logged, thread_changes}
use Rattle.mu_model.specs.Turns.{Turn, turn_of}
use Rattle.mu_model.specs.Outcomes.{Outcome, End, on, has_results, has_result, refused}
use Rattle.mu_model.specs.Exceptions.{calls, replaces, finishes, returns, throws}
use Rattle.mu_model.specs.EnteringStacks.{swaps, swaps_killing, starts, makes_stack, kills_stack}
use Rattle.mu_model.specs.Objects.{makes, makes_hybrid, makes_own, casts, finds}
use Rattle.mu_model.specs.Accesses.{accesses_cell}
use Rattle.futex.specs.Waiting.{is_of}
use Rattle.mu_model.specs.Waiting.{futex_waits, futex_wakes, times_out}
use Rattle.mu_model.specs.Traps.{trapped, goes, meets_watchpoint, chooses}

-- ---- acts

-- a fence is an event of the log
abbrev pub fences : Program → Configuration → Turn → Order → Outcome
fences p c u o = has_results p (logged u.thread (Fence o) c) u []

-- the stack that the thread stands on
abbrev pub tells : Program → Configuration → Turn → Outcome
tells p c u = has_result p c u (scalars.Stack u.stack)

abbrev pub exits : Configuration → Turn → Outcome
exits c u = finishes c u (Exited u.thread)

abbrev pub with_own : Scalar → Thread → Thread
with_own r t = record t { own = r }

abbrev pub sets_own : Program → Configuration → Turn → Scalar → Outcome
sets_own p c u r = has_results p (thread_changes u.thread (with_own r) c) u []

-- the thread's own object
abbrev pub tells_own : Program → Configuration → Turn → Thread → Outcome
tells_own p c u t = has_result p c u t.own

abbrev pub performed : Program → Configuration → Turn → Act → Outcome
performed p c u (acts.Gives vs) = has_results p c u vs
performed p c u (acts.Faults k) = refused p c u k
performed p c u (acts.Goes g) = goes c u g
performed p c u (acts.Calls f vs) = calls p c u f vs
performed p c u (acts.Replaces f vs) = replaces p c u f vs
performed p c u (acts.Returns vs) = returns p c u vs u.below
performed p c u (acts.Throws e) = throws p c u e
performed p c u (acts.Casts d s) = casts p c u d s
performed p c u (acts.Finds way s) = finds p c u way s
performed p c u (acts.Makes t) = makes p c u t
performed p c u (acts.MakesHybrid t many) = makes_hybrid p c u t many
performed p c u (acts.MakesOwn t) = makes_own p c u t
performed p c u (acts.Accesses a cell) = accesses_cell p c u a cell
performed p c u (acts.Fences o) = fences p c u o
performed p c u (acts.Traps cs) = trapped p c u None cs
performed p c u (acts.Watches n cs disabled) = meets_watchpoint p c u n cs disabled
performed p c u (acts.Chooses n disabled enabled) = chooses c u n disabled enabled
performed p c u (acts.Swaps s cs e) = swaps p c u s cs e
performed p c u (acts.Leaves s e) = swaps_killing p c u s e
performed p c u (acts.Starts s own e) = starts p c u s own e
performed p c u (acts.MakesStack f) = makes_stack p c u f
performed p c u (acts.KillsStack s) = kills_stack p c u s
performed p c u acts.Tells = tells p c u
performed p c u acts.Exits = exits c u
performed p c u (acts.SetsOwn r) = sets_own p c u r
performed p c u acts.TellsOwn = on (slice_get c.threads u.thread) (λ t. on t (tells_own p c u))
performed p c u (acts.Waits timed v cell) = futex_waits p c u timed v cell
performed p c u (acts.Wakes many cell) = futex_wakes p c u many cell

-- ---- the step

-- the threads that are left, and those that may be picked: all but those that wait without a limit
abbrev pub threads_from : ℕ → List (Option Thread) → List ℕ
threads_from i [] = []
threads_from i (None ∷ ts) = threads_from (suc i) ts
threads_from i (Some t ∷ ts) = i ∷ threads_from (suc i) ts

abbrev pub is_blocked : List Waiter → ℕ → Bool
is_blocked ws i = list_any (λ w. is_of i w && not w.timed) ws

abbrev pub runnable : Configuration → List ℕ
runnable c = filter (λ i. not (is_blocked c.waiters i)) (threads_from 0 c.threads)

-- a thread that waits ends its wait; another does its next instruction
abbrev pub turned : Program → Configuration → Option Waiter → Turn → Outcome
turned p c (Some w) u = times_out p c u w
turned p c None u = on u.doing.act (performed p c u)

abbrev pub turns : Program → Configuration → ℕ → Outcome
turns p c i = on (turn_of p c i) (turned p c (find (is_of i) c.waiters))

-- a step is made, and has written nothing yet
abbrev pub picked : Configuration → List ℕ → Configuration
picked c picks = record c { picks = picks; steps = suc c.steps; lines = [] }

abbrev pub picking_thread : Program → Configuration → List ℕ → Outcome
picking_thread p c is = let k = pick (length is) c.picks in on (slice_get is k.0) (turns p (picked c k.1))

-- First no thread is left; then all that are left wait without a limit; then no step may be made any more. Else a thread is picked.
abbrev pub ends_or_picks : Program → Configuration → List ℕ → List ℕ → Outcome
ends_or_picks p c [] is = End [] Done
ends_or_picks p c (t ∷ ts) [] = End [] (AllWaiting (t ∷ ts))
ends_or_picks p c (t ∷ ts) (i ∷ is) = if c.steps == c.budget then End [] (Budget c.steps) else picking_thread p c (i ∷ is)

abbrev pub step : Program → Configuration → Outcome
step p c = ends_or_picks p c (threads_from 0 c.threads) (runnable c)
