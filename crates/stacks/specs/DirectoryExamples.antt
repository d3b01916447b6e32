-- Entries of a directory: computed.
use Rattle.std.specs.Prelude.{◌≡◌, false, List, [], ◌∷◌, Some, None, slice_get, slice_set, option_map, refl}
use Rattle.frames.specs.Chains.{StoredChain}
use Rattle.stacks.specs.Directories.{Entry, Ready, Active, Dead, state_of, ready_frames}
use Rattle.stacks.specs.declared.state.StackState.TheVariants as states

-- one frame, which waits for a value of class 4
abbrev one_frame : StoredChain
one_frame =
    record {
      top = record { block = 0; at = 1; vars = []; fresh = false; waits = 4 ∷ []; handler = None; kept = record { types = []; values = [] }; objects = [] };
      below = [];
      spare = 0;
    }

-- stack 0 runs on thread 0, stack 1 is ready, and stack 2 is dead
abbrev three_stacks : List Entry
three_stacks = Active 0 ∷ Ready one_frame (4 ∷ []) ∷ Dead ∷ []

state_of_a_ready_stack : option_map state_of (slice_get three_stacks 1) ≡ Some states.Ready
state_of_a_ready_stack = refl

only_a_ready_stack_has_frames : ready_frames (slice_get three_stacks 0) ≡ None
only_a_ready_stack_has_frames = refl

stack_1_taken_for_thread_5 : option_map state_of (slice_get (slice_set three_stacks 1 (Active 5)) 1) ≡ Some (states.Active 5)
stack_1_taken_for_thread_5 = refl
