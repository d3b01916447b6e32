-- Where a frame stands next, and what it waits for.
use Rattle.std.specs.Prelude.{ℕ, suc, Bool, true, List, [], ◌∷◌, ◌++◌, Option, Some, None, if◌then◌else◌}
use Rattle.mu_values.specs.declared.scalars.Scalar.{Scalar}
use Rattle.typed_heap.specs.Places.{with_some}
use Rattle.frames.specs.Activations.{Value, Goal, Activation}
use Rattle.frames.specs.Chains.{nothing_kept, stands}
use Rattle.mu_model.specs.Types.{classes_taken}
use Rattle.mu_model.specs.Acts.{Program}

-- a frame of a function, before its parameters
abbrev pub fresh_frame : Program → ℕ → ℕ → Activation
fresh_frame p f block =
    record { block = block; at = 0; vars = []; fresh = true; waits = classes_taken p.tables f; handler = None; kept = nothing_kept; objects = [] }

-- the frame of a function that is called with these values
abbrev pub called : Program → ℕ → List Value → ℕ → Activation
called p f vs block = stands (fresh_frame p f block) block 0 vs

abbrev pub arrived : Activation → Goal → Activation
arrived f g = stands f g.block 0 g.values

-- behind its instruction, whose results stand among the values: at its destination, or at the next place
abbrev pub onward : Activation → List Value → Option Goal → Activation
onward f vars None = stands f f.block (suc f.at) vars
onward f vars (Some g) = arrived f g

-- it goes on with the values that it waits for, or that its instruction gives
abbrev pub passed : Program → Activation → List Value → Option Activation
passed p f vs =
    if f.fresh then Some (stands f f.block 0 vs)
    else with_some (p.going_on f.block f.at (f.vars ++ vs)) (λ g. Some (onward f (f.vars ++ vs) g))

-- it goes to an exceptional destination, whose handler gets the exception if there is one
abbrev pub with_exception : Bool → Scalar → List Value → List Value
with_exception handler e vs = if handler then vs ++ (e ∷ []) ∷ [] else vs

abbrev pub caught : Program → Activation → Goal → Scalar → Option Activation
caught p f g e = with_some (p.has_handler g.block) (λ h. Some (stands f g.block 0 (with_exception h e g.values)))
