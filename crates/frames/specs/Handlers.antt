-- Which frame an exception goes to.
use Rattle.std.specs.Prelude.{ℕ, List, Option, Some, None, is_some, position}
use Rattle.frames.specs.Activations.{Activation}
use Rattle.frames.specs.declared.unwound.Unwound.{Unwound}
use Rattle.frames.specs.declared.unwound.Unwound.TheVariants.{Caught, Uncaught}

-- how many frames stand above the first one that has a handler, looked for from the top down
abbrev pub first_handler : List Activation → Option ℕ
first_handler frames = position (λ f. is_some f.handler) frames

-- how many frames stand above the one that catches
abbrev pub caught_below : Unwound → Option ℕ
caught_below (Caught n) = Some n
caught_below Uncaught = None
