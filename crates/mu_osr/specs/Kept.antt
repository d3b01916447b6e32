-- No caller reads it. It is the room that the lists of an edit have.
use Rattle.std.specs.Prelude.{◌≡◌, ◌≤◌, ℕ, suc, List, length, take}
use Rattle.std.specs.List.{All}
use Rattle.frames.specs.Activations.{Activation}
use Rattle.mu_osr.specs.Rooms.{objects_of}

-- There is room for the objects of the frames that may be popped, and for what each of them waits for, and the frame below them: one of
-- these is on top after the pop.
pub record HasPopRoom (fs : List Activation) (pops cells waits : ℕ) : Type 0 where
  pub objects : length (objects_of (take pops fs)) ≤ cells
  pub classes : All (λ (f : Activation). length f.waits ≤ waits) (take (suc pops) fs)

-- so many frames from the top have that many objects, and none of them waits for more values than this
pub record Needed (fs : List Activation) (many cells waits : ℕ) : Type 0 where
  pub objects : length (objects_of (take many fs)) ≡ cells
  pub classes : All (λ (f : Activation). length f.waits ≤ waits) (take many fs)
