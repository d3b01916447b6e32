-- Room for an edit of a stack.
use Rattle.std.specs.Prelude.{ℕ, Bool, List}
use Rattle.std.specs.List.{flat_map}
use Rattle.frames.specs.Activations.{Activation}

-- the objects of some frames, from the top down
abbrev pub objects_of : List Activation → List ℕ
objects_of fs = flat_map (λ (f : Activation). f.objects) fs

-- Room for an edit of a stack that has these frames. While no frames were popped, up to so many may be; while no frame was pushed, one of
-- a function with up to so many parameters may be. And the objects of the frames that were popped.
pub record Room : Type 0 where
  pub frames : List Activation
  pub pops : ℕ
  pub popped : Bool
  pub parameters : ℕ
  pub pushed : Bool
  pub cells : List ℕ
