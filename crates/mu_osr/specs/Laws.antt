-- What edits keep, and that they are those of the abstract machine: each law is the contract of a function that does nothing.
use Rattle.std.specs.Prelude.{◌≡◌, ℕ, ◌<◌, ◌≤◌, List, Some, None, IsSomeAnd, Ok, Err, IfOk, length, take, drop}
use Rattle.ir_tree.specs.declared.items.Item.{Item}
use Rattle.checked_code.specs.Checking.{bundle_functions}
use Rattle.typed_heap.specs.Fits.{World}
use Rattle.frames.specs.Activations.{Activation}
use Rattle.frames.specs.Chains.{frames_in}
use Rattle.stacks.specs.Stacks.{Unbound}
use Rattle.mu_model.specs.Acts.{Program}
use Rattle.mu_model.specs.Edits.{popped, pushed}
use Rattle.mu_model.specs.Exceptions.{EnteredFrames}
use Rattle.model_numbers.specs.Numbered.{numbered}
use Rattle.model_laws.specs.ActsFit.{IsFunction}
use Rattle.model_laws.specs.FramesFit.{ReadyFit}
use Rattle.model_laws.specs.Places.{Places}
use Rattle.model_laws.specs.Programs.{IsTyped}
use Rattle.mu_osr.specs.Faults.{case_of_fault}
use Rattle.mu_osr.specs.Pushing.{Pushes, WhyNot}
use Rattle.mu_osr.specs.declared.pushing.PushFault.{PushFault}

-- ---- the frames of a stack that is ready stay well typed

abbrev pub PoppedFramesFit : Type 0
PoppedFramesFit = (p : Program) (t : Places) (w : World) (n : ℕ) (fs : List Activation) (r : EnteredFrames) → ReadyFit p t w fs → popped n fs ≡ Some r → ReadyFit p t w r.frames

abbrev pub PushedFramesFit : Type 0
PushedFramesFit = (p : Program) (t : Places) (w : World) (f : ℕ) (fs : List Activation) → IsTyped p t → IsFunction p f → ReadyFit p t w fs → IsSomeAnd (pushed p f fs) (λ r. IfOk r (ReadyFit p t w))

-- ---- the calls do what the abstract machine does

-- where there is such a frame, and where there is none
abbrev pub PopsAsAbstract : Type 0
PopsAsAbstract = (n : ℕ) (fs : List Activation) → (n < length fs → popped n fs ≡ Some (record { frames = drop n fs; ended = take n fs })) × (length fs ≤ n → popped n fs ≡ None)

-- where the stack waits for what its top frame waits for
abbrev pub PushesAsAbstract : Type 0
PushesAsAbstract = (bundle : List Item) (f : ℕ) (s : Unbound) → f < length (bundle_functions bundle) → s.waits ≡ s.frames.top.waits →
    ((fs : List Activation) → Pushes bundle f s fs → pushed (numbered bundle) f (frames_in s.frames) ≡ Some (Ok fs))
    × ((k : PushFault) → WhyNot bundle f s k → pushed (numbered bundle) f (frames_in s.frames) ≡ Some (Err (case_of_fault k)))
