-- Nothing that a reader believes of a run rests on this. It is the frames of a stack as an edit leaves them.
use Rattle.std.specs.Prelude.{ℕ, zero, suc, List, [], ◌∷◌, Option, Some, None, IsSomeAnd, Result, Ok, Err, IsOk, option_map}
use Rattle.ir_tree.specs.declared.items.Item.{Item}
use Rattle.frames.specs.Activations.{Activation}
use Rattle.frames.specs.Chains.{Chain, frames_of}
use Rattle.mu_model.specs.declared.endings.Case.{Case}
use Rattle.mu_model.specs.Clients.{Edit}
use Rattle.mu_model.specs.Edits.{edited}
use Rattle.mu_model.specs.Exceptions.{EnteredFrames}
use Rattle.model_numbers.specs.Numbered.{numbered}
use Rattle.mu_model.specs.Types.{classes_taken}
use Rattle.checked_code.specs.Checking.{bundle_tables}
use Rattle.mu_osr.specs.Pushing.{before_parameters, first_of}
use Rattle.stack_moves.specs.declared.edited.Fresh.{Fresh}

-- ---- an edit that is made

-- no edit of the frames is refused
abbrev pub kept : List Activation → EnteredFrames
kept fs = record { frames = fs; ended = [] }

abbrev pub made_of : Option (Result EnteredFrames Case) → EnteredFrames
made_of None = kept []
made_of (Some (Err k)) = kept []
made_of (Some (Ok r)) = r

-- the frames that are left, and those that ended; where the edit is refused it means nothing
unfoldable pub after_edit : List Item → Edit → List Activation → EnteredFrames
after_edit bundle e fs = made_of (edited (numbered bundle) e fs)

-- the edit is not refused
abbrev pub IsMade : List Item → Edit → List Activation → Type 0
IsMade bundle e fs = IsSomeAnd (edited (numbered bundle) e fs) IsOk

-- ---- frames that are looked at from one of them on

-- this frame and those below it without so many from the top; the last one stays always
abbrev pub chain_from : ℕ → Activation → List Activation → Chain
chain_from zero f fs = record { top = f; below = fs }
chain_from (suc n) f [] = record { top = f; below = [] }
chain_from (suc n) f (g ∷ gs) = chain_from n g gs

-- a frame that is to be pushed
abbrev pub fresh_of : Fresh → Activation
fresh_of f = before_parameters f.block f.takes.now

-- the frame that an edit pushes, where it pushes a function with a body
abbrev pub pushed_of : List Item → Option ℕ → Option Activation
pushed_of bundle None = None
pushed_of bundle (Some f) = option_map (λ b. before_parameters b (classes_taken (bundle_tables bundle) f)) (first_of bundle f)

-- with a frame on top, where there is one
abbrev pub with_pushed : Option Activation → Chain → Chain
with_pushed None c = c
with_pushed (Some f) c = record { top = f; below = frames_of c }
