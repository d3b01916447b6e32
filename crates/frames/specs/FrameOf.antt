-- Which frame of the abstract machine a frame of the program is. The room that its lists have is left out.
use Rattle.std.specs.Prelude.{option_map}
use Rattle.frames.specs.Activations.{Activation, Goal}
use Rattle.frames.specs.declared.frame.Handler.{Handler}
use Rattle.frames.specs.declared.frame.Frame.{Frame}

abbrev pub goal_of : Handler → Goal
goal_of h = record { block = h.block; values = h.args.values }

abbrev pub frame_of : Frame → Activation
frame_of f =
    record {
      block = f.block;
      at = f.at;
      vars = f.slots.values;
      fresh = f.fresh;
      waits = f.waits.members;
      handler = option_map goal_of f.handler;
      kept = f.kept;
      objects = f.cells.members;
    }
