-- Which frame an exception goes to, and where a frame goes on: computed.
use Rattle.std.specs.Prelude.{◌≡◌, false, [], ◌∷◌, Option, Some, None, refl}
use Rattle.mu_values.specs.declared.scalars.Scalar.TheVariants.{Int, Null}
use Rattle.frames.specs.Activations.{Activation, Goal}
use Rattle.frames.specs.Chains.{stands, nothing_kept}
use Rattle.frames.specs.Handlers.{first_handler}

-- a frame at instruction 3 of block 7 that waits for a value of class 4
abbrev waiting : Option Goal → Activation
waiting handler =
    record {
      block = 7;
      at = 3;
      vars = (Null ∷ []) ∷ [];
      fresh = false;
      waits = 4 ∷ [];
      handler = handler;
      kept = record { types = 5 ∷ []; values = (Null ∷ []) ∷ [] };
      objects = 9 ∷ [];
    }

-- to block 8, with no values
abbrev to_block_8 : Option Goal
to_block_8 = Some (record { block = 8; values = [] })

no_frame_catches : first_handler (waiting None ∷ waiting None ∷ []) ≡ None
no_frame_catches = refl

top_frame_catches : first_handler (waiting to_block_8 ∷ waiting to_block_8 ∷ []) ≡ Some 0
top_frame_catches = refl

first_from_the_top_catches : first_handler (waiting None ∷ waiting to_block_8 ∷ waiting None ∷ waiting to_block_8 ∷ []) ≡ Some 1
first_from_the_top_catches = refl

stands_at_a_block : stands (waiting to_block_8) 8 0 ((Int 8 255 ∷ []) ∷ []) ≡ record (waiting None) { block = 8; at = 0; vars = (Int 8 255 ∷ []) ∷ []; waits = []; kept = nothing_kept }
stands_at_a_block = refl
