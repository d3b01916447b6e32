-- What a loop goes by that makes the steps of a run of the search. A step that went on with lines came from c to d.
use Rattle.std.specs.Prelude.{◌≡◌, ◌⊎◌, ◌==◌, ℕ, suc, true, false, List, [], ◌++◌, Option, Some, None, option_map, flat_map, length, slice_get, take}
use Rattle.mu_model.specs.declared.lines.Line.{Line}
use Rattle.mu_model.specs.declared.endings.Ending.{Ending}
use Rattle.mu_model.specs.Configuration.{Configuration}
use Rattle.mu_model.specs.Acts.{Program}
use Rattle.mu_model.specs.Step.{runnable}
use Rattle.mu_model.specs.Run.{Run, Ends, behind}
use Rattle.odometer.specs.Trees.{leaf, pick}
use Rattle.odometer.specs.Odometer.{path}
use Rattle.odometer.specs.declared.picks.Pick.{Pick}
use Rattle.search_laws.specs.Moved.{step_tree}
use Rattle.local_steps.specs.IsLocal.{least_local}
use Rattle.local_laws.specs.LocalLoop.{WentOn, CameToEnd, PicksThread}
use Rattle.sleep_moves.specs.Moves.{Move, thread_moves, asleep, sleeps}
use Rattle.sleep_laws.specs.SleepTree.{sleep_tree}

-- ---- what is picked

abbrev pub moves_of : Program → Configuration → Option ℕ → List Move
moves_of p c None = []
moves_of p c (Some i) = thread_moves p c i

-- which of the threads that may run is picked by these numbers; its moves; and which of them is picked by the numbers that are left
abbrev pub thread_number : Configuration → List ℕ → ℕ
thread_number c numbers = (pick (length (runnable c)) numbers).0

abbrev pub own_moves : Program → Configuration → List ℕ → List Move
own_moves p c numbers = moves_of p c (slice_get (runnable c) (thread_number c numbers))

abbrev pub move_number : Program → Configuration → List ℕ → ℕ
move_number p c numbers = (pick (length (own_moves p c numbers)) (pick (length (runnable c)) numbers).1).0

-- the moves that stand before the one that is picked, and that one
abbrev pub moves_before : Program → Configuration → List ℕ → List Move
moves_before p c numbers = flat_map (thread_moves p c) (take (thread_number c numbers) (runnable c)) ++ take (move_number p c numbers) (own_moves p c numbers)

abbrev pub move_picked : Program → Configuration → List ℕ → Option Move
move_picked p c numbers = slice_get (own_moves p c numbers) (move_number p c numbers)

-- No thread has a local step, a step may be made, and this move is picked.
pub record PicksMove (p : Program) (c : Configuration) (numbers : List ℕ) (a : Move) : Type 0 where
  pub calm : least_local p c ≡ None
  pub room : (c.steps == c.budget) ≡ false
  pub move : move_picked p c numbers ≡ Some a

-- No thread has a local step, and no move can be made: no thread may run, or no step may be made any more.
pub record PicksNone (p : Program) (c : Configuration) : Type 0 where
  pub calm : least_local p c ≡ None
  pub none : (runnable c ≡ []) ⊎ ((c.steps == c.budget) ≡ true)

-- ---- the run goes on

-- These are the picks of the step, what sleeps behind it, and the numbers that are left.
pub record GoesOn (p : Program) (n : ℕ) (c d : Configuration) (ls : List Line) (sleep after : List Move) (picks : List Pick) (numbers left : List ℕ) : Type 0 where
  pub path : path (sleep_tree p (suc n) c sleep) numbers ≡ picks ++ path (sleep_tree p n d after) left
  pub leaf : leaf (sleep_tree p (suc n) c sleep) numbers ≡ option_map (behind ls) (leaf (sleep_tree p n d after) left)

-- A local step makes no pick of the search, and leaves what sleeps.
abbrev pub FirstMovesGoOn : Type 0
FirstMovesGoOn = (p : Program) (n i : ℕ) (c d : Configuration) (ls : List Line) (sleep : List Move) (picks numbers : List ℕ) → least_local p c ≡ Some i → PicksThread c picks i → WentOn p c picks ls d → GoesOn p n c d ls sleep sleep [] numbers numbers

-- A move that does not sleep has the picks of its step.
abbrev pub MovesGoOn : Type 0
MovesGoOn = (p : Program) (n : ℕ) (c d : Configuration) (ls : List Line) (sleep : List Move) (numbers : List ℕ) (a : Move) → PicksMove p c numbers a → sleeps a sleep ≡ false → WentOn p c numbers ls d →
    GoesOn p n c d ls sleep (asleep c a sleep (moves_before p c numbers)) (path (step_tree p c) numbers) numbers d.picks

-- ---- the run is over

pub record IsOver (p : Program) (n : ℕ) (c : Configuration) (sleep : List Move) (numbers : List ℕ) (run : Option Run) : Type 0 where
  pub path : path (sleep_tree p (suc n) c sleep) numbers ≡ path (step_tree p c) numbers
  pub leaf : leaf (sleep_tree p (suc n) c sleep) numbers ≡ run

-- A move that does not sleep gives the ending ..
abbrev pub MovesEnd : Type 0
MovesEnd = (p : Program) (n : ℕ) (c : Configuration) (ls : List Line) (e : Ending) (sleep : List Move) (numbers : List ℕ) (a : Move) → PicksMove p c numbers a → sleeps a sleep ≡ false → CameToEnd p c numbers ls e →
    IsOver p n c sleep numbers (Some (Ends [] ls e))

-- .. or no move can be made ..
abbrev pub RunsEnd : Type 0
RunsEnd = (p : Program) (n : ℕ) (c : Configuration) (ls : List Line) (e : Ending) (sleep : List Move) (numbers : List ℕ) → PicksNone p c → CameToEnd p c numbers ls e → IsOver p n c sleep numbers (Some (Ends [] ls e))

-- .. or the move sleeps, and the run is left out.
abbrev pub MovesSleep : Type 0
MovesSleep = (p : Program) (n : ℕ) (c : Configuration) (sleep : List Move) (numbers : List ℕ) (a : Move) → PicksMove p c numbers a → sleeps a sleep ≡ true → IsOver p n c sleep numbers None
