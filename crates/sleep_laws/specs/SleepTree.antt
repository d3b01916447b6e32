-- The runs that a search by sleep sets makes, as a tree of picks: those in which local steps come first, but for those that begin with a
-- move that sleeps.
use Rattle.std.specs.Prelude.{ℕ, zero, suc, ◌==◌, List, [], ◌∷◌, ◌++◌, Option, Some, None, option_map, flat_map, length, reverse, slice_get, take, if◌then◌else◌}
use Rattle.mu_model.specs.declared.endings.Ending.TheVariants.{Done, AllWaiting, Budget}
use Rattle.mu_model.specs.Configuration.{Configuration}
use Rattle.mu_model.specs.Acts.{Program}
use Rattle.mu_model.specs.Outcomes.{Outcome, Next, End, Asks, Stuck}
use Rattle.mu_model.specs.Step.{threads_from, runnable, turns, picked}
use Rattle.mu_model.specs.Run.{Run, Ends, Breaks, Unfinished, behind, client_answers, goes_on}
use Rattle.odometer.specs.Trees.{Tree, Leaf, branches, grown}
use Rattle.local_steps.specs.IsLocal.{least_local}
use Rattle.sleep_moves.specs.Moves.{Move, thread_moves, moves, move_made, asleep, sleeps}

-- A leaf is a run; or it is None, where the search leaves the run out.

abbrev pub goes_on_sleeping : (Configuration → Tree (Option Run)) → Outcome → Tree (Option Run)
goes_on_sleeping more (Next c) = grown (more c) (λ r. Leaf (option_map (behind (reverse c.lines)) r))
goes_on_sleeping more o = Leaf (Some (goes_on (λ d. Unfinished) o))

-- a move, with those that stand before it there
abbrev pub one_move : (Configuration → List Move → Tree (Option Run)) → Program → Configuration → List Move → List Move → Option Move → Tree (Option Run)
one_move more p c sleep before None = Leaf (Some Breaks)
one_move more p c sleep before (Some a) =
    if sleeps a sleep then Leaf None else goes_on_sleeping (λ d. more d (asleep c a sleep before)) (client_answers p c.client (move_made p c a))

-- the moves of a thread, behind those of the threads before it
abbrev pub moves_tree : (Configuration → List Move → Tree (Option Run)) → Program → Configuration → List Move → List Move → List Move → Tree (Option Run)
moves_tree more p c sleep before ms = branches (length ms) (λ k. one_move more p c sleep (before ++ take k ms) (slice_get ms k))

abbrev pub mover_tree : (Configuration → List Move → Tree (Option Run)) → Program → Configuration → List Move → List Move → Option ℕ → Tree (Option Run)
mover_tree more p c sleep before None = Leaf (Some Breaks)
mover_tree more p c sleep before (Some i) = moves_tree more p c sleep before (thread_moves p c i)

abbrev pub ends_or_moves : (Configuration → List Move → Tree (Option Run)) → Program → Configuration → List Move → List ℕ → List ℕ → Tree (Option Run)
ends_or_moves more p c sleep [] is = Leaf (Some (Ends [] [] Done))
ends_or_moves more p c sleep (t ∷ ts) [] = Leaf (Some (Ends [] [] (AllWaiting (t ∷ ts))))
ends_or_moves more p c sleep (t ∷ ts) (i ∷ is) =
    if c.steps == c.budget then Leaf (Some (Ends [] [] (Budget c.steps)))
    else branches (length (i ∷ is)) (λ k. mover_tree more p c sleep (flat_map (thread_moves p c) (take k (i ∷ is))) (slice_get (i ∷ is) k))

-- local steps come first, and leave what sleeps
abbrev pub first_sleeping : (Configuration → List Move → Tree (Option Run)) → Program → Configuration → List Move → Option ℕ → Tree (Option Run)
first_sleeping more p c sleep (Some i) = goes_on_sleeping (λ d. more d sleep) (client_answers p c.client (turns p (picked c []) i))
first_sleeping more p c sleep None = ends_or_moves more p c sleep (threads_from 0 c.threads) (runnable c)

abbrev pub sleep_tree : Program → ℕ → Configuration → List Move → Tree (Option Run)
sleep_tree p zero c sleep = Leaf (Some Unfinished)
sleep_tree p (suc n) c sleep = first_sleeping (sleep_tree p n) p c sleep (least_local p c)
