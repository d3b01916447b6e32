-- Frames that were edited.
use Rattle.std.specs.Prelude.{◌≡◌, ℕ, List, Some, Ok, take}
use Rattle.frames.specs.Activations.{Activation}
use Rattle.mu_model.specs.Acts.{Program}
use Rattle.mu_model.specs.Clients.{Edit}
use Rattle.mu_model.specs.Edits.{edited}
use Rattle.mu_osr.specs.Rooms.{objects_of}

-- these are the frames after an edit, and the objects of the frames that it popped
abbrev pub IsEdited : Program → Edit → List Activation → List Activation → List ℕ → Type 0
IsEdited p e fs after objects = (edited p e fs ≡ Some (Ok (record { frames = after; ended = take e.pop fs }))) × (objects ≡ objects_of (take e.pop fs))
