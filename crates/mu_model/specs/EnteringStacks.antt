-- Stacks that are entered, left, made and killed, and threads that are started.
use Rattle.std.specs.Prelude.{ℕ, nat_le, List, [], ◌∷◌, ◌++◌, Option, Some, None, Result, Ok, Err, length, slice_get, bytes_eq, if◌then◌else◌}
use Rattle.mu_values.specs.declared.scalars.Scalar.{Scalar}
use Rattle.mu_values.specs.declared.scalars.Scalar.TheVariants as scalars
use Rattle.typed_heap.specs.Places.{with_some}
use Rattle.frames.specs.Activations.{Value, Activation}
use Rattle.mem_axioms.specs.declared.types.Kind.TheVariants.{NewStack, NewThread, Leave, Enter}
use Rattle.mu_model.specs.declared.endings.Case.{Case}
use Rattle.mu_model.specs.declared.endings.Case.TheVariants.{StackNotReady, StackTypes}
use Rattle.mu_model.specs.declared.endings.Ending.TheVariants.{ThreadsFull}
use Rattle.mu_model.specs.Configuration.{Stack, Ready, Active, Dead, Thread, Configuration}
use Rattle.mu_model.specs.Acts.{Entering, Passes, ThrowsInto, Misfits, Program}
use Rattle.mu_model.specs.Frames.{fresh_frame, passed}
use Rattle.mu_model.specs.Changes.{logged, stack_becomes, frames_end, stack_dies, thread_changes}
use Rattle.mu_model.specs.Turns.{Turn, waiting}
use Rattle.mu_model.specs.Outcomes.{Outcome, Next, on, has_results, has_result, faulted, tried}
use Rattle.mu_model.specs.Exceptions.{EnteredFrames, unwinding, body_or_case}

-- ---- entering a stack

abbrev pub ready_at : ℕ → Stack → Result (ℕ × List Activation) Case
ready_at k (Ready fs) = Ok (k, fs)
ready_at k (Active j fs) = Err StackNotReady
ready_at k Dead = Err StackNotReady

-- a stack that is ready: its number and its frames
abbrev pub ready : List Stack → Scalar → Option (Result (ℕ × List Activation) Case)
ready ss (scalars.Stack k) = with_some (slice_get ss k) (λ s. Some (ready_at k s))
ready ss scalars.Null = Some (Err StackNotReady)
ready ss _ = None

-- Values enter the top frame, where their classes are those that it waits for. An exception enters the first frame that has a handler.
abbrev pub values_entered : Program → Activation → List Activation → List ℕ → List Value → Option (Result EnteredFrames Case)
values_entered p f fs cs vs = if bytes_eq cs f.waits then with_some (passed p f vs) (λ g. Some (Ok (record { frames = g ∷ fs; ended = [] }))) else Some (Err StackTypes)

abbrev pub entered : Program → List Activation → Entering → Option (Result EnteredFrames Case)
entered p (f ∷ fs) (Passes cs vs) = values_entered p f fs cs vs
entered p [] (Passes cs vs) = None
entered p fs (ThrowsInto e) = unwinding p e fs
entered p fs Misfits = Some (Err StackTypes)

-- a thread is on a stack from here on
abbrev pub on_stack : ℕ → Thread → Thread
on_stack k t = record t { stack = k }

abbrev pub enters : ℕ → ℕ → EnteredFrames → Configuration → Configuration
enters i k r c = frames_end r.ended (logged i (Enter k) (stack_becomes k (Active i r.frames) (thread_changes i (on_stack k) c)))

-- first the stack is ready, then the values fit or a frame catches; what goes on has the stack and its frames after that
abbrev pub entering : Program → Configuration → Turn → Scalar → Entering → (ℕ → EnteredFrames → Outcome) → Outcome
entering p c u s e go = tried p c u (ready c.stacks s) (λ r. tried p c u (entered p r.1 e) (go r.0))

-- ---- leaving a stack: it is ready for what its top frame waits for, or it dies

abbrev pub leaving : Turn → Activation → Configuration → Configuration
leaving u f c = logged u.thread (Leave u.stack) (stack_becomes u.stack (Ready (f ∷ u.below)) c)

abbrev pub swaps : Program → Configuration → Turn → Scalar → List ℕ → Entering → Outcome
swaps p c u s cs e = on (waiting u cs) (λ f. entering p c u s e (λ k r. Next (enters u.thread k r (leaving u f c))))

abbrev pub swaps_killing : Program → Configuration → Turn → Scalar → Entering → Outcome
swaps_killing p c u s e = entering p c u s e (λ k r. Next (enters u.thread k r (stack_dies u.stack (u.top ∷ u.below) c)))

-- ---- threads and stacks that are made

-- how many threads a run makes
abbrev pub most_threads : ℕ
most_threads = 64

-- a thread with the next number, on stack k
abbrev pub started : Configuration → Turn → Scalar → ℕ → EnteredFrames → Configuration
started c u own k r =
    enters (length c.threads) k r (logged u.thread (NewThread (length c.threads)) (record c { threads = c.threads ++ Some (record { stack = k; own = own }) ∷ [] }))

abbrev pub starts : Program → Configuration → Turn → Scalar → Scalar → Entering → Outcome
starts p c u s own e =
    if nat_le most_threads (length c.threads) then faulted p c u (ThreadsFull u.thread)
    else entering p c u s e (λ k r. has_result p (started c u own k r) u (scalars.Thread (length c.threads)))

-- a stack with the next number, ready for the parameters of the function
abbrev pub makes_stack : Program → Configuration → Turn → ℕ → Outcome
makes_stack p c u f =
    tried p c u (body_or_case (p.body f)) (λ b.
    has_result p (logged u.thread (NewStack (length c.stacks)) (record c { stacks = c.stacks ++ Ready (fresh_frame p f b ∷ []) ∷ [] })) u (scalars.Stack (length c.stacks)))

abbrev pub kills_stack : Program → Configuration → Turn → Scalar → Outcome
kills_stack p c u s = tried p c u (ready c.stacks s) (λ r. has_results p (stack_dies r.0 r.1 c) u [])
