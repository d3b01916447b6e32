-- A frame that is pushed, and why none is.
use Rattle.std.specs.Prelude.{◌≡◌, ◌≢◌, ℕ, true, List, [], ◌∷◌, Option, Some, None, IsSome, IsSomeAnd, slice_get}
use Rattle.ir_tree.specs.declared.items.Item.{Item}
use Rattle.checked_code.specs.declared.blocks.Function.{Function}
use Rattle.checked_code.specs.Checking.{bundle_functions, bundle_tables}
use Rattle.typed_heap.specs.Places.{with_some}
use Rattle.frames.specs.Activations.{Activation}
use Rattle.frames.specs.Chains.{frames_in, nothing_kept}
use Rattle.stacks.specs.Stacks.{Unbound}
use Rattle.mu_model.specs.Types.{classes_given, classes_taken}
use Rattle.mu_osr.specs.declared.pushing.PushFault.{PushFault}
use Rattle.mu_osr.specs.declared.pushing.PushFault.TheVariants.{NoBody, Misfit}

-- a frame that waits for the parameters of its first block, which are of these classes
abbrev pub before_parameters : ℕ → List ℕ → Activation
before_parameters block waits = record { block = block; at = 0; vars = []; fresh = true; waits = waits; handler = None; kept = nothing_kept; objects = [] }

-- the first block of a function that has a body
abbrev pub first_of : List Item → ℕ → Option ℕ
first_of bundle f = with_some (slice_get (bundle_functions bundle) f) (λ g. g.first)

-- A frame of the function stands on top of the frames of the stack, and waits for the parameters; the function gives the results that the
-- stack waited for.
abbrev pub Pushes : List Item → ℕ → Unbound → List Activation → Type 0
Pushes bundle f s fs = IsSomeAnd (first_of bundle f) (λ b. fs ≡ before_parameters b (classes_taken (bundle_tables bundle) f) ∷ frames_in s.frames) × (classes_given (bundle_tables bundle) f ≡ s.waits)

-- the function has no body; or it has one, and gives other results than the stack waits for
abbrev pub WhyNot : List Item → ℕ → Unbound → PushFault → Type 0
WhyNot bundle f s NoBody = first_of bundle f ≡ None
WhyNot bundle f s Misfit = IsSome (first_of bundle f) × (classes_given (bundle_tables bundle) f ≢ s.waits)
